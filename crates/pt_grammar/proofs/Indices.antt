-- What stands in the brackets of an item.
use Rattle.std.proofs.Common.{◌≡◌, ◌≢◌, ℕ, ◌≤◌, true, List, [], ◌∷◌, Option, Some, inl, inr, refl, sym, ◌∙◌, ap, arith}
use Rattle.pt_base.specs.declared.operators.BinOp.TheVariants.{Mul}
use Rattle.pt_wide.specs.declared.expression.WideBinOp.TheVariants.{Plain}
use Rattle.pt_wide.specs.Syntax as S
use Rattle.pt_wide.specs.Syntax.{Exp}
use Rattle.pt_wide.specs.Measure.{depth_exp}
use Rattle.pt_readers.specs.Reading.{next_of, Alike, Refused}
use Rattle.pt_readers.proofs.Readers.{Binds, Shifts, Narrows, Just, just, left}
use Rattle.pt_readers.proofs.Exits.{over_refused_at}
use Rattle.pt_grammar.specs.declared.part.Part.TheVariants.{Whole}
use Rattle.pt_grammar.specs.declared.sign.Sign.TheVariants.{Operator, Mark as mark}
use Rattle.pt_grammar.specs.declared.sign.Mark.TheVariants.{CloseBracket, Colon, Comma}
use Rattle.pt_grammar.specs.Lexemes.{Lexeme, sign, sign_at}
use Rattle.pt_grammar.specs.Signs.{ends_items}
use Rattle.pt_grammar.specs.Grammar.{Expr, Index, an_index, a_slice, no_bound, no_step, Bare, alone, a_tuple, Item, starred, unstarred}
use Rattle.pt_grammar.specs.Grammar as grammar
use Rattle.pt_grammar.specs.Parts.{Fits, Stops, ends_in_text, an_expr, a_bare}
use Rattle.pt_grammar.specs.Parts as parts
use Rattle.pt_grammar.specs.Behind.{Followed, followed_end, followed_more}
use Rattle.pt_grammar.specs.CallParts.{Sliced, sliced, Indexed, listed, started}
use Rattle.pt_grammar.proofs.Atoms.{apart_mark}
use Rattle.pt_grammar.proofs.Bares.{followed_shrinks}
use Rattle.pt_grammar.proofs.Slices.{expr_bad, bound_stops, close_bound, slice_of}
use Rattle.pt_grammar.proofs.CallStarts.{stars_no_expr}

close_items : (o : Option Lexeme) → sign_at o ≡ Some (mark CloseBracket) → ends_items Whole o ≡ true
close_items (Some (sign l (mark CloseBracket))) h = refl
close_items o h = cc

-- where a star is next
pub star_index : (d : ℕ) (ts : List Lexeme) → sign_at (next_of ts) ≡ Some (Operator (Plain Mul)) → Narrows ts (left (parts.an_index d) (Bare Whole)) (parts.an_index d)
star_index d ts h = record { into = λ more x rest k. an_index k; out = λ more x rest a k s. (out a k, s); stop = λ x o s. s; up = λ x f. f; down = λ x f. f }
  where
    out : {more rest : List Lexeme} {x : Exp} → Alike more ts → Index more x rest → Bare Whole more x rest
    out a (an_index k) = k
    out (inl e) (a_slice no_bound b c) = let g = ap sign_at e ∙ h in absurd (cc)
    out (inr e) (a_slice no_bound b c) = absurd (cc)
    out a (a_slice (grammar.a_bound k) b c) = absurd (expr_bad ts (stars_no_expr (next_of ts) h) a k)

pub bare_index : (d : ℕ) → Binds (a_bare Whole d) (λ x. Just x) (left (parts.an_index d) (Bare Whole))
bare_index d = record {
  intro = λ ts y mid x rest k j. into k j;
  inv = λ ts x rest k s. (x, rest, k, close_items (next_of rest) s, just);
  down = λ y mid x rest j f. part j f;
  finish = λ y f. ([], y, f, λ z. just);
  extend = λ y. ([], y, λ z. just);
}
  where
    into : {ts mid rest : List Lexeme} {y x : Exp} → Bare Whole ts y mid → Just y mid x rest → Bare Whole ts x rest
    into k just = k

    part : {mid rest : List Lexeme} {y x : Exp} → Just y mid x rest → Fits d x → Fits d y
    part just f = f

-- an expression, and what is behind it
pub data Indexing : List Lexeme → Exp → List Lexeme → Type 0 where
  indexing : {ts mid rest : List Lexeme} {e x : Exp} → Expr ts e mid → Indexed e mid x rest → Indexing ts x rest

pub indexing_narrows : (d : ℕ) (ts : List Lexeme) → sign_at (next_of ts) ≢ Some (Operator (Plain Mul)) → sign_at (next_of ts) ≢ Some (mark Colon) → Narrows ts (left (parts.an_index d) Indexing) (parts.an_index d)
indexing_narrows d ts n c = record { into = λ more x rest k. into k; out = λ more x rest a k s. (out a k, s); stop = λ x o s. s; up = λ x f. f; down = λ x f. f }
  where
    into : {more rest : List Lexeme} {x : Exp} → Indexing more x rest → Index more x rest
    into (indexing k (listed followed_end)) = an_index (alone (unstarred k))
    into (indexing k (listed (followed_more q))) = an_index (a_tuple (unstarred k) q)
    into (indexing k (started (sliced b s))) = a_slice (grammar.a_bound k) b s

    plain : {more mid : List Lexeme} {e : Exp} → Alike more ts → Item Whole more e mid → Expr more e mid
    plain (inl e) (starred k) = absurd (n (sym (ap sign_at e)))
    plain (inr e) (starred k) = absurd (cc)
    plain a (unstarred k) = k

    out : {more rest : List Lexeme} {x : Exp} → Alike more ts → Index more x rest → Indexing more x rest
    out a (an_index (alone k)) = indexing (plain a k) (listed followed_end)
    out a (an_index (a_tuple k q)) = indexing (plain a k) (listed (followed_more q))
    out (inl e) (a_slice no_bound b s) = absurd (c (sym (ap sign_at e)))
    out (inr e) (a_slice no_bound b s) = absurd (cc)
    out a (a_slice (grammar.a_bound k) b s) = indexing k (started (sliced b s))

pub indexing_binds : (d : ℕ) → Binds (an_expr d) Indexed (left (parts.an_index d) Indexing)
indexing_binds d = record {
  intro = λ ts y mid x rest k q. indexing k q;
  inv = λ ts x rest k s. out k s;
  down = λ y mid x rest q f. part q f;
  finish = λ y f. ([], y, f, λ z. listed followed_end);
  extend = λ y. ([], y, λ z. listed followed_end);
}
  where
    part : {mid rest : List Lexeme} {y x : Exp} → Indexed y mid x rest → Fits d x → Fits d y
    part (listed q) f = followed_shrinks Whole d q f
    part (started (sliced b s)) f = (omega (arith, f.0), omega (arith, f.1))

    ends : {mid rest : List Lexeme} {y x : Exp} → Indexed y mid x rest → sign_at (next_of rest) ≡ Some (mark CloseBracket) → Stops 11 y (next_of mid)
    ends {mid} {y = y} (listed followed_end) s = bound_stops y (next_of mid) (close_bound (next_of mid) s)
    ends {y = y} (listed (followed_more {l = l} q)) s = (omega arith, apart_mark (ends_in_text y) l Comma)
    ends {y = y} (started {m = m} q) s = (omega arith, apart_mark (ends_in_text y) m Colon)

    out : {ts rest : List Lexeme} {x : Exp} → Indexing ts x rest → sign_at (next_of rest) ≡ Some (mark CloseBracket) → (y : Exp) × (mid : List Lexeme) × Expr ts y mid × Stops 11 y (next_of mid) × Indexed y mid x rest
    out (indexing k q) s = (_, _, k, ends q s, q)

-- behind the expression
module _ (d : ℕ) (e : Exp) where
  pub listed_narrows : (ts : List Lexeme) → sign_at (next_of ts) ≢ Some (mark Colon) → Narrows ts (left (parts.an_index d) (Followed Whole e)) (left (parts.an_index d) (Indexed e))
  listed_narrows ts n = record { into = λ more x rest k. listed k; out = λ more x rest a k s. (out a k, s); stop = λ x o s. s; up = λ x f. f; down = λ x f. f }
    where
      out : {more rest : List Lexeme} {x : Exp} → Alike more ts → Indexed e more x rest → Followed Whole e more x rest
      out a (listed k) = k
      out (inl g) (started q) = absurd (n (sym (ap sign_at g)))
      out (inr g) (started q) = absurd (cc)

  pub listed_binds : Binds (left (a_bare Whole d) (Followed Whole e)) (λ x. Just x) (left (parts.an_index d) (Followed Whole e))
  listed_binds = record {
    intro = λ ts y mid x rest k j. into k j;
    inv = λ ts x rest k s. (x, rest, k, close_items (next_of rest) s, just);
    down = λ y mid x rest j f. part j f;
    finish = λ y f. ([], y, f, λ z. just);
    extend = λ y. ([], y, λ z. just);
  }
    where
      into : {ts mid rest : List Lexeme} {y x : Exp} → Followed Whole e ts y mid → Just y mid x rest → Followed Whole e ts x rest
      into k just = k

      part : {mid rest : List Lexeme} {y x : Exp} → Just y mid x rest → Fits d x → Fits d y
      part just f = f

  pub start_shifts : (m : ℕ) → Shifts (sign m (mark Colon)) (left (parts.an_index d) (Sliced (S.given e) m)) (left (parts.an_index d) (Indexed e))
  start_shifts m = record { intro = λ ts x rest k. started k; inv = λ ts x rest k s. (out k s, s); stop = λ x o s. s; up = λ x f. f; down = λ x f. f }
    where
      out : {ts rest : List Lexeme} {x : Exp} → Indexed e (sign m (mark Colon) ∷ ts) x rest → sign_at (next_of rest) ≡ Some (mark CloseBracket) → Sliced (S.given e) m ts x rest
      out (listed followed_end) s = absurd (cc)
      out (started q) s = q

  pub start_over : (ts : List Lexeme) (m : ℕ) → next_of ts ≡ Some (sign m (mark Colon)) → Fits d e → d ≤ depth_exp e → Refused (left (parts.an_index d) (Indexed e)) true ts ts
  start_over ts m h f g = over_refused_at (left (parts.an_index d) (Indexed e)) (sign m (mark Colon)) ts h (λ more x rest k s i. deep k s i)
      [] (slice_of (S.given e) m S.absent S.absent) (λ z. started (sliced no_bound no_step)) [] e f (λ z. listed followed_end)
    where
      deep : {more rest : List Lexeme} {x : Exp} → Indexed e (sign m (mark Colon) ∷ more) x rest → sign_at (next_of rest) ≡ Some (mark CloseBracket) → Fits d x → ⊥
      deep (listed followed_end) s i = cc
      deep (started (sliced b c)) s i = omega (arith, g, i.0)
