-- How productions are written: parts one after another, and what need not be there.
use Rattle.std.specs.Prelude.{◌≡◌, ◌≢◌, ℕ, List, [], ◌∷◌, ◌++◌, Option, Some, None}
use Rattle.pt_tree.specs.Syntax.{Name}
use Rattle.pt_wide.specs.Syntax.{Exp, Opt, absent, given}
use Rattle.pt_readers.specs.Reading.{Part}
use Rattle.pt_grammar.specs.declared.sign.Sign.{Sign}
use Rattle.pt_grammar.specs.Lexemes.{Lexeme, name, sign, sign_at}

-- The tokens begin with what a production names, and the last list is behind that.
abbrev pub Reads : Type 0 → Type 1
Reads A = List Lexeme → A → List Lexeme → Type 0

-- nothing more: it is this
pub data Is {A : Type 0} (x : A) : List Lexeme → A → List Lexeme → Type 0 where
  is : {rest : List Lexeme} → Is x rest x rest

-- one part, and then another
abbrev pub Then : {A B : Type 0} → Reads B → (B → Reads A) → Reads A
Then {A} {B} Q K ts x rest = (y : B) × (mid : List Lexeme) × Q ts y mid × K y mid x rest

-- this sign, on some line
pub data The (s : Sign) : List Lexeme → ℕ → List Lexeme → Type 0 where
  the : {l : ℕ} {t : Sign} {rest : List Lexeme} → t ≡ s → The s (sign l t ∷ rest) l rest

pub data Identifier : List Lexeme → Name → List Lexeme → Type 0 where
  identifier : {l : ℕ} {x : Name} {rest : List Lexeme} → Identifier (name l x ∷ rest) x rest

-- [ s Q ]
pub data Optional (s : Sign) (Q : Reads Exp) : List Lexeme → Opt → List Lexeme → Type 0 where
  left_out : {rest : List Lexeme} → Optional s Q rest absent rest
  written : {l : ℕ} {t : Sign} {e : Exp} {ts rest : List Lexeme} → t ≡ s → Q ts e rest → Optional s Q (sign l t ∷ ts) (given e) rest

-- { s Q }, behind what was read of it before
pub data More {A : Type 0} (s : Sign) (Q : Reads A) : List A → List Lexeme → List A → List Lexeme → Type 0 where
  no_more : {xs : List A} {rest : List Lexeme} → More s Q xs rest xs rest
  one_more : {l : ℕ} {t : Sign} {x : A} {xs ys : List A} {ts mid rest : List Lexeme} → t ≡ s → Q ts x mid → More s Q (xs ++ (x ∷ [])) mid ys rest
      → More s Q xs (sign l t ∷ ts) ys rest

-- Q { s Q }
abbrev pub Separated : {A : Type 0} → Sign → Reads A → Reads (List A)
Separated s Q = Then Q (λ x. More s Q (x ∷ []))

-- { s Q } [ s ] and what closes it
mutual
  pub data UpTo {A : Type 0} (s close : Sign) (Q : Reads A) : List A → List Lexeme → List A → List Lexeme → Type 0 where
    closed : {l : ℕ} {t : Sign} {xs : List A} {rest : List Lexeme} → t ≡ close → UpTo s close Q xs (sign l t ∷ rest) xs rest
    separated : {l : ℕ} {t : Sign} {xs ys : List A} {ts rest : List Lexeme} → t ≡ s → Onward s close Q xs ts ys rest → UpTo s close Q xs (sign l t ∷ ts) ys rest

  -- behind an s
  pub data Onward {A : Type 0} (s close : Sign) (Q : Reads A) : List A → List Lexeme → List A → List Lexeme → Type 0 where
    closed_behind : {l : ℕ} {t : Sign} {xs : List A} {rest : List Lexeme} → t ≡ close → Onward s close Q xs (sign l t ∷ rest) xs rest
    item : {x : A} {xs ys : List A} {ts mid rest : List Lexeme} → Q ts x mid → UpTo s close Q (xs ++ (x ∷ [])) mid ys rest → Onward s close Q xs ts ys rest

-- a sign by itself
abbrev pub a_sign : Sign → Part Lexeme ℕ
a_sign s = record { reads = The s; stops = λ l next. Unit {0}; fits = λ l. Unit {0} }

abbrev pub an_identifier : Part Lexeme Name
an_identifier = record { reads = Identifier; stops = λ x next. Unit {0}; fits = λ x. Unit {0} }

-- It is left out only where its sign isn't next.
abbrev pub StopsOptional : Sign → (Exp → Option Lexeme → Type 0) → Opt → Option Lexeme → Type 0
StopsOptional s S absent next = sign_at next ≢ Some s
StopsOptional s S (given e) next = S e next

abbrev pub FitsOptional : (Exp → Type 0) → Opt → Type 0
FitsOptional F absent = Unit {0}
FitsOptional F (given e) = F e

abbrev pub an_optional : Sign → Part Lexeme Exp → Part Lexeme Opt
an_optional s Q = record { reads = Optional s Q.reads; stops = StopsOptional s Q.stops; fits = FitsOptional Q.fits }
