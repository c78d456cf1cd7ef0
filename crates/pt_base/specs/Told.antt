-- What a shelf tells of the text under a name.
use Rattle.std.specs.Prelude.{◌≡◌, ℕ, ◌<◌, List, [], ◌∷◌, length, if◌then◌else◌, Option, None, Some}
use Rattle.std.specs.Str.{bytes_eq}

pub data Told : Type 0 where
  -- it doesn't tell
  Silent : Told
  -- nothing stands under the name
  Lacks : Told
  Holds : (bytes : List ℕ) → Told

-- these are the bytes, where it tells them, and it doesn't lack them
abbrev pub IsWhole : Told → List ℕ → Type 0
IsWhole Silent bytes = Unit {0}
IsWhole Lacks bytes = ⊥
IsWhole (Holds held) bytes = held ≡ bytes

abbrev pub IsLacked : Told → Type 0
IsLacked t = t ≡ Lacks

-- it has more than so many bytes, where it tells them
abbrev pub IsLonger : Told → ℕ → Type 0
IsLonger Silent max = Unit {0}
IsLonger Lacks max = ⊥
IsLonger (Holds held) max = max < length held

-- the first of the texts with that name
abbrev pub told_in : List (List ℕ × List ℕ) → (name : List ℕ) → Told
told_in [] name = Lacks
told_in (f ∷ fs) name = if bytes_eq f.0 name then Holds f.1 else told_in fs name

-- an answer with bytes is what is told
abbrev pub Gives : Option (List ℕ) → Told → Type 0
Gives None t = t ≡ Lacks
Gives (Some bytes) t = t ≡ Holds bytes
