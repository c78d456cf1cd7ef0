-- Arguments of calls and of classes.
use Rattle.std.proofs.Common.{◌≡◌, ◌≢◌, ℕ, ◌<◌, true, false, List, [], ◌∷◌, Option, Some, inl, inr, refl, sym, ◌∙◌, ap, subst, arith}
use Rattle.pt_base.specs.declared.operators.BinOp.TheVariants.{Mul, Pow}
use Rattle.pt_wide.specs.declared.expression.WideBinOp.TheVariants.{Plain}
use Rattle.pt_wide.specs.Syntax as S
use Rattle.pt_wide.specs.Syntax.{Exp, Args}
use Rattle.pt_readers.specs.Reading.{next_of, behind, Alike, Found, Refused}
use Rattle.pt_readers.proofs.Readers.{Binds, Shifts, Narrows, Just, just, left, nothing_found, bad_refused}
use Rattle.pt_readers.proofs.Pieces.{Through, through, through_shifts, through_bad, Made, made, made_binds}
use Rattle.pt_readers.proofs.Exits.{found_at, at_next}
use Rattle.pt_grammar.specs.declared.sign.Sign.TheVariants.{Operator, Mark as mark}
use Rattle.pt_grammar.specs.declared.sign.Mark.TheVariants.{Close, Comma, Assign}
use Rattle.pt_grammar.specs.Lexemes.{Lexeme, name, sign, sign_at}
use Rattle.pt_grammar.specs.Signs.{ends_argument}
use Rattle.pt_grammar.specs.Grammar.{Expr, Argument, by_place, by_keyword, by_star, by_double_star}
use Rattle.pt_grammar.specs.Nodes.{OneArg, positional, named, spread, spread_named, Order, any_next, may_spread}
use Rattle.pt_grammar.specs.Parts.{Fits, FitsArg, Stops, ends_in_text, an_expr, an_argument}
use Rattle.pt_grammar.specs.CallParts.{IsName, a_value_of_argument, OneName, one_name, a_name_alone, Keyword, keyword, a_keyword, Placed, keeps, names}
use Rattle.pt_grammar.proofs.Ranks.{IsSign, is_sign, not_signed}
use Rattle.pt_grammar.proofs.Atoms.{apart_mark}
use Rattle.pt_grammar.proofs.Begins.{some_name, some_exp, name_expr, depth_some, fits_name}
use Rattle.pt_grammar.proofs.Names.{expr_name, name_alone, expr_starts}
use Rattle.pt_grammar.proofs.Slices.{alike_set}

pub argument_stops : (e : Exp) (o : Option Lexeme) → ends_argument o ≡ true → Stops 11 e o
argument_stops e (Some (sign l (mark Comma))) h = (omega arith, apart_mark (ends_in_text e) l Comma)
argument_stops e (Some (sign l (mark Close))) h = (omega arith, apart_mark (ends_in_text e) l Close)
argument_stops e o h = cc

-- the value of an argument
pub value_binds : (d : ℕ) → Binds (an_expr d) (λ e. Just e) (a_value_of_argument d)
value_binds d = record {
  intro = λ ts y mid x rest k j. into k j;
  inv = λ ts x rest k s. (x, rest, k, argument_stops x (next_of rest) s, just);
  down = λ y mid x rest j f. part j f;
  finish = λ y f. ([], y, f, λ z. just);
  extend = λ y. ([], y, λ z. just);
}
  where
    into : {ts mid rest : List Lexeme} {y x : Exp} → Expr ts y mid → Just y mid x rest → Expr ts x rest
    into k just = k

    part : {mid rest : List Lexeme} {y x : Exp} → Just y mid x rest → Fits d x → Fits d y
    part just f = f

-- no other token may stand behind one
pub not_ended : (ts : List Lexeme) {more : List Lexeme} → ends_argument (next_of ts) ≡ false → Alike more ts → ends_argument (next_of more) ≡ true → ⊥
not_ended ts h a s = alike_set ends_argument refl ts a h s

-- arguments with stars
pub star_shifts : (d l : ℕ) (o : Order) → may_spread o ≡ true → Shifts (sign l (Operator (Plain Mul))) (left (an_argument o d) (Made (a_value_of_argument d) (spread l))) (an_argument o d)
star_shifts d l o h = record { intro = λ ts x rest k. into k; inv = λ ts x rest k s. (out k, s); stop = λ x u s. s; up = λ x f. f; down = λ x f. f }
  where
    into : {ts rest : List Lexeme} {x : OneArg} → Made (a_value_of_argument d) (spread l) ts x rest → Argument o (sign l (Operator (Plain Mul)) ∷ ts) x rest
    into (made k) = by_star h k

    out : {o : Order} {ts rest : List Lexeme} {x : OneArg} → Argument o (sign l (Operator (Plain Mul)) ∷ ts) x rest → Made (a_value_of_argument d) (spread l) ts x rest
    out (by_place k) = let g = expr_starts k in absurd (cc)
    out (by_star g k) = made k

pub star_binds : (d l : ℕ) (o : Order) → Binds (a_value_of_argument d) (λ e. Just (spread l e)) (left (an_argument o d) (Made (a_value_of_argument d) (spread l)))
star_binds d l o = made_binds (an_argument o d) (a_value_of_argument d) (spread l) (λ b u s. s) (λ b f. (omega (arith, f.0), omega (arith, f.1))) (λ b f. (omega (arith, f.0), omega (arith, f.1)))

pub stars_shifts : (d l : ℕ) (o : Order) → Shifts (sign l (Operator (Plain Pow))) (left (an_argument o d) (Made (a_value_of_argument d) (spread_named l))) (an_argument o d)
stars_shifts d l o = record { intro = λ ts x rest k. into k; inv = λ ts x rest k s. (out k, s); stop = λ x u s. s; up = λ x f. f; down = λ x f. f }
  where
    into : {ts rest : List Lexeme} {x : OneArg} → Made (a_value_of_argument d) (spread_named l) ts x rest → Argument o (sign l (Operator (Plain Pow)) ∷ ts) x rest
    into (made k) = by_double_star k

    out : {o : Order} {ts rest : List Lexeme} {x : OneArg} → Argument o (sign l (Operator (Plain Pow)) ∷ ts) x rest → Made (a_value_of_argument d) (spread_named l) ts x rest
    out (by_place k) = let g = expr_starts k in absurd (cc)
    out (by_double_star k) = made k

pub stars_binds : (d l : ℕ) (o : Order) → Binds (a_value_of_argument d) (λ e. Just (spread_named l e)) (left (an_argument o d) (Made (a_value_of_argument d) (spread_named l)))
stars_binds d l o = made_binds (an_argument o d) (a_value_of_argument d) (spread_named l) (λ b u s. s) (λ b f. (omega (arith, f.0), omega (arith, f.1))) (λ b f. (omega (arith, f.0), omega (arith, f.1)))

-- names
pub name_read : (ts : List Lexeme) (l : ℕ) (x : List ℕ) → next_of ts ≡ Some (name l x) → Found a_name_alone ts (l, x) (behind ts)
name_read ts l x e = found_at (at_next ts e) record {
  front = name l x ∷ [];
  whole = refl;
  reads = λ more. one_name;
  stops = tt;
  fits = tt;
  only = λ more a x' rest' k n. out k;
}
  where
    out : {more rest' : List Lexeme} {x' : ℕ × List ℕ} → OneName (name l x ∷ more) x' rest' → (x' ≡ (l, x)) × (rest' ≡ more)
    out one_name = (refl, refl)

pub name_bad : (ts : List Lexeme) → (IsName (next_of ts) → ⊥) → Refused a_name_alone false ts ts
name_bad ts n = bad_refused a_name_alone ts (λ more a x' rest' k s. out a k) (some_name ∷ []) (0, []) tt (λ z. one_name)
  where
    out : {more rest' : List Lexeme} {x' : ℕ × List ℕ} → Alike more ts → OneName more x' rest' → ⊥
    out (inl e) one_name = n (subst IsName e tt)
    out (inr e) one_name = cc

abbrev pub Named : ℕ → ℕ × List ℕ → List Lexeme → OneArg → List Lexeme → Type 0
Named d n = Through (IsSign (mark Assign)) (Made (a_value_of_argument d) (named n.0 n.1))

fits_named : (d : ℕ) (l : ℕ) (x : List ℕ) (e : Exp) → Fits d e → FitsArg d (named l x e)
fits_named d l x e f = (omega (arith, f.0), omega (arith, f.1))

pub keyword_binds : (d : ℕ) → 0 < d → Binds a_name_alone (Named d) (a_keyword d)
keyword_binds d h = record {
  intro = λ ts y mid x rest k j. into k j;
  inv = λ ts x rest k s. out k;
  down = λ y mid x rest j f. tt;
  finish = λ y f. (sign 0 (mark Assign) ∷ (some_name ∷ []), named y.0 y.1 some_exp, fits_named d y.0 y.1 some_exp (fits_name d h), λ z. through is_sign (made name_expr));
  extend = λ y. (sign 0 (mark Assign) ∷ (some_name ∷ []), named y.0 y.1 some_exp, λ z. through is_sign (made name_expr));
}
  where
    into : {ts mid rest : List Lexeme} {y : ℕ × List ℕ} {x : OneArg} → OneName ts y mid → Named d y mid x rest → Keyword ts x rest
    into one_name (through is_sign (made k)) = keyword k

    out : {ts rest : List Lexeme} {x : OneArg} → Keyword ts x rest → (y : ℕ × List ℕ) × (mid : List Lexeme) × OneName ts y mid × Unit {0} × Named d y mid x rest
    out (keyword {l = l} {x = x} k) = ((l, x), _, one_name, tt, through is_sign (made k))

-- behind the name no `=` is next
pub assign_bad : (d : ℕ) (n : ℕ × List ℕ) (ts : List Lexeme) → 0 < d → sign_at (next_of ts) ≢ Some (mark Assign) → Refused (left (a_keyword d) (Named d n)) false ts ts
assign_bad d n ts h m = through_bad (a_keyword d) (IsSign (mark Assign)) (Made (a_value_of_argument d) (named n.0 n.1)) ts (not_signed (next_of ts) m) (sign 0 (mark Assign)) is_sign
    (some_name ∷ []) (named n.0 n.1 some_exp) (fits_named d n.0 n.1 some_exp (fits_name d h)) (λ z. made name_expr)

pub keyword_shifts : (d m : ℕ) (n : ℕ × List ℕ) → Shifts (sign m (mark Assign)) (left (a_keyword d) (Made (a_value_of_argument d) (named n.0 n.1))) (left (a_keyword d) (Named d n))
keyword_shifts d m n = through_shifts (a_keyword d) (IsSign (mark Assign)) (Made (a_value_of_argument d) (named n.0 n.1)) (sign m (mark Assign)) is_sign

pub named_binds : (d l : ℕ) (x : List ℕ) → Binds (a_value_of_argument d) (λ e. Just (named l x e)) (left (a_keyword d) (Made (a_value_of_argument d) (named l x)))
named_binds d l x = made_binds (a_keyword d) (a_value_of_argument d) (named l x) (λ b u s. s) (λ b f. (omega (arith, f.0), omega (arith, f.1))) (λ b f. fits_named d l x b f)

-- where no positional argument and no star may come
pub keyword_narrows : (d : ℕ) (o : Order) (ts : List Lexeme) → o ≢ any_next → (sign_at (next_of ts) ≡ Some (Operator (Plain Mul)) → may_spread o ≡ true → ⊥) → sign_at (next_of ts) ≢ Some (Operator (Plain Pow))
    → Narrows ts (a_keyword d) (an_argument o d)
keyword_narrows d o ts n m p = record { into = λ more x rest k. into k; out = λ more x rest a k s. (out n m a k, s); stop = λ x u s. s; up = λ x f. f; down = λ x f. f }
  where
    into : {more rest : List Lexeme} {x : OneArg} → Keyword more x rest → Argument o more x rest
    into (keyword k) = by_keyword k

    out : {o : Order} {more rest : List Lexeme} {x : OneArg} → o ≢ any_next → (sign_at (next_of ts) ≡ Some (Operator (Plain Mul)) → may_spread o ≡ true → ⊥) → Alike more ts → Argument o more x rest → Keyword more x rest
    out n m a (by_place k) = absurd (n refl)
    out n m a (by_keyword k) = keyword k
    out n m (inl e) (by_star h k) = absurd (m (sym (ap sign_at e)) h)
    out n m (inr e) (by_star h k) = absurd (cc)
    out n m (inl e) (by_double_star k) = absurd (p (sym (ap sign_at e)))
    out n m (inr e) (by_double_star k) = absurd (cc)

-- an expression, and what is behind it
pub data Valued : List Lexeme → OneArg → List Lexeme → Type 0 where
  valued : {ts mid rest : List Lexeme} {e : Exp} {a : OneArg} → Expr ts e mid → Placed e mid a rest → Valued ts a rest

pub placed_argument : {ts mid rest : List Lexeme} {e : Exp} {a : OneArg} → Expr ts e mid → Placed e mid a rest → Argument any_next ts a rest
placed_argument k keeps = by_place k
placed_argument {rest = rest} k (names {l = l} {m = m} {x = x} {v = v} {ts = us} q) = subst (λ u. Argument any_next u (named l x v) rest) (sym (expr_name l x k refl)) (by_keyword q)

pub placed_stops : {e : Exp} {mid rest : List Lexeme} {a : OneArg} → Placed e mid a rest → ends_argument (next_of rest) ≡ true → Stops 11 e (next_of mid)
placed_stops {e} {mid} keeps s = argument_stops e (next_of mid) s
placed_stops {e} (names {m = m} k) s = (omega arith, apart_mark (ends_in_text e) m Assign)

pub placed_part : (d : ℕ) {e : Exp} {mid rest : List Lexeme} {a : OneArg} → Placed e mid a rest → FitsArg d a → Fits d e
placed_part d keeps f = (omega (arith, f.0), omega (arith, f.1))
placed_part d (names {v = v} k) f = (omega (arith, f.0, depth_some v), omega arith)

pub fits_placed : (d : ℕ) (e : Exp) → Fits d e → FitsArg d (positional e)
fits_placed d e f = (omega (arith, f.0), omega (arith, f.1))

pub placed_narrows : (d : ℕ) (ts : List Lexeme) → sign_at (next_of ts) ≢ Some (Operator (Plain Mul)) → sign_at (next_of ts) ≢ Some (Operator (Plain Pow)) → Narrows ts (left (an_argument any_next d) Valued) (an_argument any_next d)
placed_narrows d ts n p = record { into = λ more x rest k. into k; out = λ more x rest a k s. (out a k, s); stop = λ x u s. s; up = λ x f. f; down = λ x f. f }
  where
    into : {more rest : List Lexeme} {x : OneArg} → Valued more x rest → Argument any_next more x rest
    into (valued k q) = placed_argument k q

    out : {more rest : List Lexeme} {x : OneArg} → Alike more ts → Argument any_next more x rest → Valued more x rest
    out a (by_place k) = valued k keeps
    out a (by_keyword {l = l} {x = x} k) = valued (name_alone l x) (names k)
    out (inl e) (by_star h k) = absurd (n (sym (ap sign_at e)))
    out (inr e) (by_star h k) = absurd (cc)
    out (inl e) (by_double_star k) = absurd (p (sym (ap sign_at e)))
    out (inr e) (by_double_star k) = absurd (cc)

pub placed_binds : (d : ℕ) → Binds (an_expr d) Placed (left (an_argument any_next d) Valued)
placed_binds d = record {
  intro = λ ts y mid x rest k q. valued k q;
  inv = λ ts x rest k s. out k s;
  down = λ y mid x rest q f. placed_part d q f;
  finish = λ y f. ([], positional y, fits_placed d y f, λ z. keeps);
  extend = λ y. ([], positional y, λ z. keeps);
}
  where
    out : {ts rest : List Lexeme} {x : OneArg} → Valued ts x rest → ends_argument (next_of rest) ≡ true → (y : Exp) × (mid : List Lexeme) × Expr ts y mid × Stops 11 y (next_of mid) × Placed y mid x rest
    out (valued k q) s = (_, _, k, placed_stops q s, q)

-- behind the expression
module _ (d : ℕ) (e : Exp) where
  pub placed_found : (ts : List Lexeme) → ends_argument (next_of ts) ≡ true → Fits d e → Found (left (an_argument any_next d) (Placed e)) ts (positional e) ts
  placed_found ts h f = nothing_found (left (an_argument any_next d) (Placed e)) ts (positional e) (λ more. keeps) h (fits_placed d e f) (λ more a x' rest' k s. out a k)
    where
      out : {e : Exp} {more rest' : List Lexeme} {x' : OneArg} → Alike more ts → Placed e more x' rest' → (x' ≡ positional e) × (rest' ≡ more)
      out a keeps = (refl, refl)
      out (inl g) (names k) = let i = ap ends_argument g ∙ h in absurd (cc)
      out (inr g) (names k) = absurd (cc)

  pub placed_bad : (ts : List Lexeme) → ends_argument (next_of ts) ≡ false → (sign_at (next_of ts) ≡ Some (mark Assign) → (l : ℕ) (x : List ℕ) → e ≢ S.name l x) → Fits d e
      → Refused (left (an_argument any_next d) (Placed e)) false ts ts
  placed_bad ts h n f = bad_refused (left (an_argument any_next d) (Placed e)) ts (λ more a x' rest' k s. out refl a k s) [] (positional e) (fits_placed d e f) (λ z. keeps)
    where
      out : {g : Exp} {more rest' : List Lexeme} {x' : OneArg} → g ≡ e → Alike more ts → Placed g more x' rest' → ends_argument (next_of rest') ≡ true → ⊥
      out w a keeps s = not_ended ts h a s
      out w (inl i) (names {l = l} {x = x} k) s = n (sym (ap sign_at i)) l x (sym w)
      out w (inr i) (names k) s = cc

pub assign_shifts : (d l m : ℕ) (x : List ℕ) → Shifts (sign m (mark Assign)) (left (an_argument any_next d) (Made (a_value_of_argument d) (named l x))) (left (an_argument any_next d) (Placed (S.name l x)))
assign_shifts d l m x = record { intro = λ ts y rest k. into k; inv = λ ts y rest k s. (out k refl s, s); stop = λ y u s. s; up = λ y f. f; down = λ y f. f }
  where
    into : {ts rest : List Lexeme} {y : OneArg} → Made (a_value_of_argument d) (named l x) ts y rest → Placed (S.name l x) (sign m (mark Assign) ∷ ts) y rest
    into (made k) = names k

    out : {e : Exp} {ts rest : List Lexeme} {y : OneArg} → Placed e (sign m (mark Assign) ∷ ts) y rest → e ≡ S.name l x → ends_argument (next_of rest) ≡ true → Made (a_value_of_argument d) (named l x) ts y rest
    out keeps w s = absurd (cc)
    out {ts = ts} {rest = rest} (names {l = k} {x = y} {v = v} q) w s = let f : k ≡ l = cc in let g : y ≡ x = cc in subst (λ i. Made (a_value_of_argument d) (named l x) ts (named i y v) rest) (sym f)
        (subst (λ z. Made (a_value_of_argument d) (named l x) ts (named l z v) rest) (sym g) (made q))

pub assigned_binds : (d l : ℕ) (x : List ℕ) → Binds (a_value_of_argument d) (λ e. Just (named l x e)) (left (an_argument any_next d) (Made (a_value_of_argument d) (named l x)))
assigned_binds d l x = made_binds (an_argument any_next d) (a_value_of_argument d) (named l x) (λ b u s. s) (λ b f. (omega (arith, f.0), omega (arith, f.1))) (λ b f. fits_named d l x b f)
