-- What the answer of a reader says of whole lists of tokens.
use Rattle.std.specs.Prelude.{◌≡◌, List, [], ◌∷◌, ◌++◌, Result, Ok, Err}
use Rattle.pt_readers.specs.declared.halt.Halt.{Halt}
use Rattle.pt_readers.specs.declared.halt.Halt.TheVariants.{Unexpected, Limit, Memory}
use Rattle.pt_readers.specs.Reading.{Part}

module _ {T A : Type 0} (P : Part T A) where
  -- the tokens, all of them, are x
  abbrev pub Are : List T → A → Type 0
  Are ts x = P.reads ts x []

  -- some list that begins with these tokens is of the part
  abbrev pub Begin : List T → Type 0
  Begin front = (more : List T) × (x : A) × Are (front ++ more) x

  -- the same, within the limits
  abbrev pub BeginWithin : List T → Type 0
  BeginWithin front = (more : List T) × (x : A) × Are (front ++ more) x × P.fits x

  -- The rest begins with the first token with which nothing of the part within the limits goes on, or is empty where there is none.
  pub record Cut (ts front rest : List T) : Type 0 where
    pub whole : ts ≡ front ++ rest
    pub before : BeginWithin front
    pub through : (t : T) (more : List T) → rest ≡ t ∷ more → BeginWithin (front ++ (t ∷ [])) → ⊥

  -- whatever the limits, nothing of the part goes on with that token
  abbrev pub NothingBeyond : List T → List T → Type 0
  NothingBeyond front rest = (t : T) (more : List T) → rest ≡ t ∷ more → Begin (front ++ (t ∷ [])) → ⊥

  -- the tokens before the cut are x within the limits, and nothing else
  pub record IsRead (front rest : List T) (x : A) : Type 0 where
    pub beyond : NothingBeyond front rest
    pub is : Are front x
    pub fits : P.fits x
    pub only : (x' : A) → Are front x' → x' ≡ x

  -- the tokens before the cut are nothing within the limits
  pub record IsUnexpected (front rest : List T) : Type 0 where
    pub beyond : NothingBeyond front rest
    pub nothing : (x : A) → Are front x → P.fits x → ⊥

  -- beyond the limits something goes on with the token at the cut
  pub record IsBeyond (front rest : List T) : Type 0 where
    pub token : T
    pub more : List T
    pub next : rest ≡ token ∷ more
    pub goes_on : Begin (front ++ (token ∷ []))

  -- The answer of a reader of the tokens that stands before the rest. For want of memory it says nothing.
  abbrev pub Tells : List T → List T → Result A Halt → Type 0
  Tells ts rest (Ok x) = (front : List T) × Cut ts front rest × IsRead front rest x
  Tells ts rest (Err Unexpected) = (front : List T) × Cut ts front rest × IsUnexpected front rest
  Tells ts rest (Err Limit) = (front : List T) × Cut ts front rest × IsBeyond front rest
  Tells ts rest (Err Memory) = Unit {0}
