-- Atoms and parentheses.
use Rattle.std.proofs.Common.{◌≡◌, ◌≢◌, ℕ, ℤ, Bool, true, false, ◌<◌, List, [], ◌∷◌, Option, Some, None, refl, arith}
use Rattle.pt_tree.specs.declared.expression.Constant.TheVariants as constant
use Rattle.pt_wide.specs.Syntax as S
use Rattle.pt_wide.specs.Syntax.{Exp}
use Rattle.pt_readers.specs.Reading.{next_of, behind, Found, Refused}
use Rattle.pt_readers.proofs.Readers.{bad_refused}
use Rattle.pt_readers.proofs.Exits.{found_at, at_next}
use Rattle.pt_grammar.specs.declared.sign.Sign.{Sign}
use Rattle.pt_grammar.specs.declared.sign.Sign.TheVariants.{Singleton as singleton, Mark as mark, Layout as layout}
use Rattle.pt_grammar.specs.declared.sign.Singleton.{Singleton}
use Rattle.pt_grammar.specs.declared.sign.Singleton.TheVariants as single
use Rattle.pt_grammar.specs.declared.sign.Mark.{Mark}
use Rattle.pt_grammar.specs.declared.sign.Mark.TheVariants.{Open, OpenBracket, OpenBrace}
use Rattle.pt_grammar.specs.declared.sign.Layout.TheVariants.{FStart}
use Rattle.pt_grammar.specs.Lexemes.{Lexeme, name, int, sign, sign_at}
use Rattle.pt_grammar.specs.Signs.{constant_of}
use Rattle.pt_grammar.specs.Grammar.{Atom, a_name, an_int, a_singleton}
use Rattle.pt_grammar.specs.Parts.{Apart, ends_in_text, an_atom}
use Rattle.pt_grammar.proofs.Begins.{some_name, some_exp, fits_name, BeginsAtom, atom_begins, alike_begins}

pub name_found : (d : ℕ) → 0 < d → (ts : List Lexeme) (l : ℕ) (x : List ℕ) → next_of ts ≡ Some (name l x) → Found (an_atom d) ts (S.name l x) (behind ts)
name_found d h ts l x e = found_at (at_next ts e) record {
  front = name l x ∷ [];
  whole = refl;
  reads = λ more. a_name;
  stops = tt;
  fits = (omega arith, omega arith);
  only = λ more a x' rest' k n. out k;
}
  where
    out : {more rest' : List Lexeme} {x' : Exp} → Atom (name l x ∷ more) x' rest' → (x' ≡ S.name l x) × (rest' ≡ more)
    out a_name = (refl, refl)

pub int_found : (d : ℕ) → 0 < d → (ts : List Lexeme) (l : ℕ) (n : ℤ) → next_of ts ≡ Some (int l n) → Found (an_atom d) ts (S.constant l (constant.Int n)) (behind ts)
int_found d h ts l n e = found_at (at_next ts e) record {
  front = int l n ∷ [];
  whole = refl;
  reads = λ more. an_int;
  stops = tt;
  fits = (omega arith, omega arith);
  only = λ more a x' rest' k m. out k;
}
  where
    out : {more rest' : List Lexeme} {x' : Exp} → Atom (int l n ∷ more) x' rest' → (x' ≡ S.constant l (constant.Int n)) × (rest' ≡ more)
    out an_int = (refl, refl)

singleton_apart : (l : ℕ) (k : Singleton) (next : Option Lexeme) → Apart (ends_in_text (S.constant l (constant_of k))) next
singleton_apart l single.None next = tt
singleton_apart l single.True next = tt
singleton_apart l single.False next = tt
singleton_apart l single.Ellipsis next = tt

pub singleton_found : (d : ℕ) → 0 < d → (ts : List Lexeme) (l : ℕ) (k : Singleton) → next_of ts ≡ Some (sign l (singleton k))
    → Found (an_atom d) ts (S.constant l (constant_of k)) (behind ts)
singleton_found d h ts l k e = found_at (at_next ts e) record {
  front = sign l (singleton k) ∷ [];
  whole = refl;
  reads = λ more. a_singleton;
  stops = singleton_apart l k (next_of (behind ts));
  fits = (omega arith, omega arith);
  only = λ more a x' rest' k n. out k;
}
  where
    out : {more rest' : List Lexeme} {x' : Exp} → Atom (sign l (singleton k) ∷ more) x' rest' → (x' ≡ S.constant l (constant_of k)) × (rest' ≡ more)
    out a_singleton = (refl, refl)

-- no atom begins so
pub atom_bad : (d : ℕ) → 0 < d → (ts : List Lexeme) → (BeginsAtom (next_of ts) → ⊥) → Refused (an_atom d) false ts ts
atom_bad d h ts n = bad_refused (an_atom d) ts (λ more a x' rest' k s. n (alike_begins BeginsAtom (λ b. b) more ts a (atom_begins k))) (some_name ∷ []) some_exp (fits_name d h) (λ z. a_name)

-- a delimiter goes on with nothing
pub apart_mark : (b : Bool) (l : ℕ) (m : Mark) → Apart b (Some (sign l (mark m)))
apart_mark true l m = tt
apart_mark false l m = tt

pub sign_bad : (next : Option Lexeme) (s : Sign) → sign_at next ≡ Some s → s ≢ mark Open → s ≢ mark OpenBracket → s ≢ mark OpenBrace → s ≢ layout FStart → ((k : Singleton) → s ≢ singleton k)
    → BeginsAtom next → ⊥
sign_bad (Some (sign l (singleton k))) s e n o p q m b = m k cc
sign_bad (Some (sign l (mark Open))) s e n o p q m b = n cc
sign_bad (Some (sign l (mark OpenBracket))) s e n o p q m b = o cc
sign_bad (Some (sign l (mark OpenBrace))) s e n o p q m b = p cc
sign_bad (Some (sign l (layout FStart))) s e n o p q m b = q cc
sign_bad (Some (sign l _)) s e n o p q m b = b
sign_bad (Some _) s e n o p q m b = cc
sign_bad None s e n o p q m b = b
