-- What a reader of a part of a grammar says of the tokens, whatever the part and the tokens are.
use Rattle.std.specs.Prelude.{◌≡◌, List, [], ◌∷◌, ◌++◌, Option, Some, None, Bool, true, false, ◌⊎◌}

abbrev pub next_of : {T : Type 0} → List T → Option T
next_of [] = None
next_of (t ∷ ts) = Some t

abbrev pub behind : {T : Type 0} → List T → List T
behind [] = []
behind (t ∷ ts) = ts

-- A part of a grammar. `reads ts x rest`: the tokens begin with an x of this part, and the rest stands behind it.
-- `stops x next`: this next token doesn't go on with x. `fits x`: x is within the limits.
pub record Part (T A : Type 0) : Type 1 where
  pub reads : List T → A → List T → Type 0
  pub stops : A → Option T → Type 0
  pub fits : A → Type 0

-- Two rests that look alike from before them: the next token is the same, or the first one ends there.
abbrev pub Alike : {T : Type 0} → List T → List T → Type 0
Alike more rest = (next_of more ≡ next_of rest) ⊎ (more ≡ [])

-- Beyond the limits the tokens before the rest may be whole, so that only its first token is in the way.
abbrev pub Dead : {T : Type 0} → (over : Bool) → List T → List T → Type 0
Dead true more rest = next_of more ≡ next_of rest
Dead false more rest = Alike more rest

-- within the limits, where they are asked for
abbrev pub Within : {A : Type 0} → (A → Type 0) → Bool → A → Type 0
Within F true x = F x
Within F false x = Unit {0}

-- The tokens before the rest are x, whatever stands behind them, and with the rest's first token they begin nothing else.
pub record Found {T A : Type 0} (P : Part T A) (ts : List T) (x : A) (rest : List T) : Type 0 where
  pub front : List T
  pub whole : ts ≡ front ++ rest
  pub reads : (more : List T) → P.reads (front ++ more) x more
  pub stops : P.stops x (next_of rest)
  pub fits : P.fits x
  pub only : (more : List T) → Alike more rest → (x' : A) (rest' : List T)
      → P.reads (front ++ more) x' rest' → P.stops x' (next_of rest') → (x' ≡ x) × (rest' ≡ more)

-- The tokens before the rest can be completed to something of the part within the limits; with the rest's first token they
-- can't. Over: beyond the limits they can. Otherwise they can't at all, and aren't whole either.
pub record Refused {T A : Type 0} (P : Part T A) (over : Bool) (ts rest : List T) : Type 0 where
  pub front : List T
  pub whole : ts ≡ front ++ rest
  pub dead : (more : List T) → Dead over more rest → (x' : A) (rest' : List T)
      → P.reads (front ++ more) x' rest' → P.stops x' (next_of rest') → Within P.fits over x' → ⊥
  pub beyond : over ≡ true → (t : T) × (more : List T) × (next_of rest ≡ Some t) × (x : A)
      × ((z : List T) → P.reads (front ++ (t ∷ (more ++ z))) x z)
  pub completion : List T
  pub completed : A
  pub fits : P.fits completed
  pub completes : (z : List T) → P.reads (front ++ (completion ++ z)) completed z

-- What is read as Q from the rest on decides what is read as P from the first tokens on. It is kept by the loops of a reader.
pub record Carries {T A : Type 0} (P : Part T A) (ts : List T) (Q : Part T A) (rest : List T) : Type 0 where
  pub found : (x : A) (end : List T) → Found Q rest x end → Found P ts x end
  pub refused : (over : Bool) (end : List T) → Refused Q over rest end → Refused P over ts end
