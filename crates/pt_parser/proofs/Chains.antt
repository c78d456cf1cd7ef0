-- Parts one after another: how what is left of them can be completed, and how each carries the next.
use Rattle.std.proofs.Common.{◌≡◌, List, [], ◌∷◌, ◌++◌, Option, Bool, true, false, refl, append_assoc}
use Rattle.pt_readers.specs.Reading.{next_of, Part, Within, Found, Alike}
use Rattle.pt_readers.proofs.Readers.{Binds, Shifts, left, nothing_found}
use Rattle.pt_grammar.specs.Lexemes.{Lexeme, name}
use Rattle.pt_parser.specs.Forms.{Reads, Is, is, Then, identifier, an_identifier}

-- What is left can be completed, within the limits where they are asked for.
pub record Ready {A : Type 0} (F : A → Type 0) (over : Bool) (K : Reads A) : Type 0 where
  pub word : List Lexeme
  pub done : A
  pub fits : Within F over done
  pub reads : (z : List Lexeme) → K (word ++ z) done z

pub ready_is : {A : Type 0} (F : A → Type 0) (over : Bool) (x : A) → Within F over x → Ready F over (Is x)
ready_is F over x f = record { word = []; done = x; fits = f; reads = λ z. is }

pub ready_then : {A B : Type 0} (F : A → Type 0) (over : Bool) (Q : Part Lexeme B) (K : B → Reads A) → Ready Q.fits over Q.reads
    → ((y : B) → Within Q.fits over y → Ready F over (K y)) → Ready F over (Then Q.reads K)
ready_then F over Q K q k =
    let r = k q.done q.fits in
    record { word = q.word ++ r.word; done = r.done; fits = r.fits; reads = λ z. (q.done, r.word ++ z, rw append_assoc (q.reads (r.word ++ z)), r.reads z) }

-- within the limits where each part is
pub within_one : {A C : Type 0} (F : A → Type 0) (G : C → Type 0) (over : Bool) (x : A) (z : C) → (F x → G z) → Within F over x → Within G over z
within_one F G true x z k f = k f
within_one F G false x z k f = tt

pub within_all : {C : Type 0} (G : C → Type 0) (over : Bool) (z : C) → G z → Within G over z
within_all G true z g = g
within_all G false z g = tt

pub within_two : {A B C : Type 0} (F : A → Type 0) (H : B → Type 0) (G : C → Type 0) (over : Bool) (x : A) (y : B) (z : C) → (F x → H y → G z)
    → Within F over x → Within H over y → Within G over z
within_two F H G true x y z k f h = k f h
within_two F H G false x y z k f h = tt

pub within_three : {A B D C : Type 0} (F : A → Type 0) (H : B → Type 0) (J : D → Type 0) (G : C → Type 0) (over : Bool) (x : A) (y : B) (w : D) (z : C)
    → (F x → H y → J w → G z) → Within F over x → Within H over y → Within J over w → Within G over z
within_three F H J G true x y w z k f h j = k f h j
within_three F H J G false x y w z k f h j = tt

-- A part P that is a Q and then K of it: what stands behind the Q doesn't go on with it, and the limits of P are those of Q too.
pub record Follows {A B : Type 0} (Q : Part Lexeme B) (K : B → Reads A) (P : Part Lexeme A) : Type 0 where
  pub apart : (y : B) (mid : List Lexeme) (x : A) (rest : List Lexeme) → K y mid x rest → P.stops x (next_of rest) → Q.stops y (next_of mid)
  pub down : (y : B) (mid : List Lexeme) (x : A) (rest : List Lexeme) → K y mid x rest → P.fits x → Q.fits y
  pub ready : (over : Bool) (y : B) → Within Q.fits over y → Ready P.fits over (K y)

pub chain : {A B : Type 0} (P : Part Lexeme A) (Q : Part Lexeme B) (K : B → Reads A) → Follows Q K P → Binds Q K (left P (Then Q.reads K))
chain P Q K f = record {
  intro = λ ts y mid x rest q k. (y, mid, q, k);
  inv = λ ts x rest k n. (k.0, k.1, k.2, f.apart k.0 k.1 x rest k.3 n, k.3);
  down = f.down;
  finish = λ y g. let r = f.ready true y g in (r.word, r.done, r.fits, r.reads);
  extend = λ y. let r = f.ready false y tt in (r.word, r.done, r.reads);
}

-- nothing more
is_out : {A : Type 0} {x x' : A} {more rest' : List Lexeme} → Is x more x' rest' → (x' ≡ x) × (rest' ≡ more)
is_out is = (refl, refl)

pub is_found : {A : Type 0} (P : Part Lexeme A) (x : A) (ts : List Lexeme) → P.stops x (next_of ts) → P.fits x → Found (left P (Is x)) ts x ts
is_found P x ts s fits = nothing_found (left P (Is x)) ts x (λ more. is) s fits (λ more h x' rest' j n. is_out j)

pub identifier_ready : (over : Bool) → Ready an_identifier.fits over an_identifier.reads
identifier_ready over = record { word = name 0 [] ∷ []; done = []; fits = within_all an_identifier.fits over [] tt; reads = λ z. identifier }
