-- Indices: slices and their bounds.
use Rattle.std.proofs.Common.{◌≡◌, ◌≢◌, ℕ, ◌-◌, ◌<◌, Bool, true, false, List, [], ◌∷◌, Option, Some, None, inl, inr, refl, sym, ◌∙◌, ap, subst, arith}
use Rattle.pt_wide.specs.Syntax as S
use Rattle.pt_wide.specs.Syntax.{Exp, Opt}
use Rattle.pt_readers.specs.Reading.{next_of, Alike, Found, Refused}
use Rattle.pt_readers.proofs.Readers.{Binds, Shifts, Narrows, Just, just, left, nothing_found, bad_refused}
use Rattle.pt_readers.proofs.Pieces.{Made, made, made_binds}
use Rattle.pt_readers.proofs.Exits.{over_refused_at}
use Rattle.pt_grammar.specs.declared.part.Part.TheVariants.{Whole}
use Rattle.pt_grammar.specs.declared.sign.Sign.TheVariants.{Mark as mark}
use Rattle.pt_grammar.specs.declared.sign.Mark.TheVariants.{CloseBracket, Colon}
use Rattle.pt_grammar.specs.Lexemes.{Lexeme, sign, sign_at}
use Rattle.pt_grammar.specs.Signs.{begins_item}
use Rattle.pt_grammar.specs.Grammar.{Expr, Index, an_index, a_slice, Bound, no_bound, Step, no_step, Bare, alone, a_tuple, unstarred}
use Rattle.pt_grammar.specs.Grammar as grammar
use Rattle.pt_grammar.specs.Nodes.{slice_line}
use Rattle.pt_grammar.specs.Parts.{Fits, FitsOpt, Stops, ends_in_text, an_expr}
use Rattle.pt_grammar.specs.Parts as parts
use Rattle.pt_grammar.specs.CallParts.{ends_bound, begins_expr, a_bound, a_step, Sliced, sliced}
use Rattle.pt_grammar.proofs.Atoms.{apart_mark}
use Rattle.pt_grammar.proofs.Begins.{depth_some}
use Rattle.pt_grammar.proofs.Items.{item_begins}
use Rattle.pt_grammar.proofs.Names.{expr_starts, far_expr}

-- what a set of next tokens lets through, lets what looks alike
pub alike_set : {T : Type 0} (C : Option T → Bool) → C None ≡ false → (ts : List T) {more : List T} → Alike more ts → C (next_of ts) ≡ false → C (next_of more) ≡ true → ⊥
alike_set C n ts (inl e) h g = let k = sym g ∙ ap C e ∙ h in cc
alike_set C n ts (inr e) h g = let k = sym g ∙ ap (λ us. C (next_of us)) e ∙ n in cc

-- bounds
bound_begins_none : (o : Option Lexeme) → ends_bound o ≡ true → begins_expr o ≡ false
bound_begins_none (Some (sign l (mark Colon))) h = refl
bound_begins_none (Some (sign l (mark CloseBracket))) h = refl
bound_begins_none o h = cc

pub bound_stops : (e : Exp) (o : Option Lexeme) → ends_bound o ≡ true → Stops 11 e o
bound_stops e (Some (sign l (mark Colon))) h = (omega arith, apart_mark (ends_in_text e) l Colon)
bound_stops e (Some (sign l (mark CloseBracket))) h = (omega arith, apart_mark (ends_in_text e) l CloseBracket)
bound_stops e o h = cc

-- no expression looks like what doesn't begin one
pub expr_bad : (ts : List Lexeme) {more rest : List Lexeme} {e : Exp} → begins_expr (next_of ts) ≡ false → Alike more ts → Expr more e rest → ⊥
expr_bad ts h (inl g) k = let f = sym (expr_starts k) ∙ ap begins_expr g ∙ h in cc
expr_bad ts h (inr g) k = let f = sym (expr_starts k) ∙ ap (λ us. begins_expr (next_of us)) g in cc

pub bound_none : (d : ℕ) (ts : List Lexeme) → ends_bound (next_of ts) ≡ true → Found (a_bound d) ts S.absent ts
bound_none d ts h = nothing_found (a_bound d) ts S.absent (λ more. no_bound) h (omega arith, omega arith) (λ more a x' rest' k s. out a k)
  where
    out : {more rest' : List Lexeme} {x' : Opt} → Alike more ts → Bound more x' rest' → (x' ≡ S.absent) × (rest' ≡ more)
    out a no_bound = (refl, refl)
    out a (grammar.a_bound k) = absurd (expr_bad ts (bound_begins_none (next_of ts) h) a k)

pub bound_narrows : (d : ℕ) (ts : List Lexeme) → ends_bound (next_of ts) ≡ false → Narrows ts (left (a_bound d) (Made (an_expr d) S.given)) (a_bound d)
bound_narrows d ts h = record { into = λ more x rest k. into k; out = λ more x rest a k s. (out a k s, s); stop = λ x o s. s; up = λ x f. f; down = λ x f. f }
  where
    into : {more rest : List Lexeme} {x : Opt} → Made (an_expr d) S.given more x rest → Bound more x rest
    into (made k) = grammar.a_bound k

    out : {more rest : List Lexeme} {x : Opt} → Alike more ts → Bound more x rest → ends_bound (next_of rest) ≡ true → Made (an_expr d) S.given more x rest
    out a (grammar.a_bound k) s = made k
    out a no_bound s = absurd (alike_set ends_bound refl ts a h s)

pub bound_binds : (d : ℕ) → Binds (an_expr d) (λ e. Just (S.given e)) (left (a_bound d) (Made (an_expr d) S.given))
bound_binds d = made_binds (a_bound d) (an_expr d) S.given (λ b o s. bound_stops b o s) (λ b f. f) (λ b f. f)

pub bound_bad : (d : ℕ) (ts : List Lexeme) → ends_bound (next_of ts) ≡ false → begins_expr (next_of ts) ≡ false → Refused (a_bound d) false ts ts
bound_bad d ts h g = bad_refused (a_bound d) ts (λ more a x' rest' k s. out a k s) [] S.absent (omega arith, omega arith) (λ z. no_bound)
  where
    out : {more rest' : List Lexeme} {x' : Opt} → Alike more ts → Bound more x' rest' → ends_bound (next_of rest') ≡ true → ⊥
    out a no_bound s = alike_set ends_bound refl ts a h s
    out a (grammar.a_bound k) s = expr_bad ts g a k

expr_token : (o : Option Lexeme) → begins_expr o ≡ true → (t : Lexeme) × (o ≡ Some t)
expr_token (Some t) h = (t, refl)
expr_token None h = cc

pub bound_over : (ts : List Lexeme) → ends_bound (next_of ts) ≡ false → begins_expr (next_of ts) ≡ true → Refused (a_bound 0) true ts ts
bound_over ts h g =
    let t = expr_token (next_of ts) g in
    let w = far_expr t.0 (subst (λ o. begins_expr o ≡ true) t.1 g) in
    over_refused_at (a_bound 0) t.0 ts t.1 (λ more x' rest' k s f. out (subst (λ o. ends_bound o ≡ false) t.1 h) k s f) w.0 (S.given w.1) (λ z. grammar.a_bound (w.2 z)) [] S.absent (omega arith, omega arith) (λ z. no_bound)
  where
    out : {t : Lexeme} {more rest' : List Lexeme} {x' : Opt} → ends_bound (Some t) ≡ false → Bound (t ∷ more) x' rest' → ends_bound (next_of rest') ≡ true → FitsOpt 0 x' → ⊥
    out n no_bound s f = let k = sym n ∙ s in cc
    out n (grammar.a_bound {e = e} k) s f = omega (arith, f.0, depth_some e)

-- steps
pub close_bound : (o : Option Lexeme) → sign_at o ≡ Some (mark CloseBracket) → ends_bound o ≡ true
close_bound (Some (sign l (mark CloseBracket))) h = refl
close_bound o h = cc

-- what ends a bound and is no colon
pub only_close : (o : Option Lexeme) → ends_bound o ≡ true → sign_at o ≢ Some (mark Colon) → sign_at o ≡ Some (mark CloseBracket)
only_close (Some (sign l (mark Colon))) h n = absurd (n refl)
only_close (Some (sign l (mark CloseBracket))) h n = refl
only_close o h n = cc

pub step_none : (d : ℕ) (ts : List Lexeme) → sign_at (next_of ts) ≡ Some (mark CloseBracket) → Found (a_step d) ts S.absent ts
step_none d ts h = nothing_found (a_step d) ts S.absent (λ more. no_step) h (omega arith, omega arith) (λ more a x' rest' k s. out a k)
  where
    out : {more rest' : List Lexeme} {x' : Opt} → Alike more ts → Step more x' rest' → (x' ≡ S.absent) × (rest' ≡ more)
    out a no_step = (refl, refl)
    out (inl e) (grammar.a_step k) = let g = sym h ∙ ap sign_at (sym e) in cc
    out (inr e) (grammar.a_step k) = absurd (cc)

pub step_shifts : (d l : ℕ) → Shifts (sign l (mark Colon)) (left (a_step d) Bound) (a_step d)
step_shifts d l = record { intro = λ ts x rest k. grammar.a_step k; inv = λ ts x rest k s. (out k s, s); stop = λ x o s. s; up = λ x f. f; down = λ x f. f }
  where
    out : {ts rest : List Lexeme} {x : Opt} → Step (sign l (mark Colon) ∷ ts) x rest → sign_at (next_of rest) ≡ Some (mark CloseBracket) → Bound ts x rest
    out no_step s = cc
    out (grammar.a_step k) s = k

pub step_binds : (d : ℕ) → Binds (a_bound d) (λ b. Just b) (left (a_step d) Bound)
step_binds d = record {
  intro = λ ts y mid x rest k j. into k j;
  inv = λ ts x rest k s. (x, rest, k, close_bound (next_of rest) s, just);
  down = λ y mid x rest j f. part j f;
  finish = λ y f. ([], y, f, λ z. just);
  extend = λ y. ([], y, λ z. just);
}
  where
    into : {ts mid rest : List Lexeme} {y x : Opt} → Bound ts y mid → Just y mid x rest → Bound ts x rest
    into k just = k

    part : {mid rest : List Lexeme} {y x : Opt} → Just y mid x rest → FitsOpt d x → FitsOpt d y
    part just f = f

-- the next token is no closing bracket
pub not_close : (ts : List Lexeme) {more : List Lexeme} → sign_at (next_of ts) ≢ Some (mark CloseBracket) → Alike more ts → sign_at (next_of more) ≡ Some (mark CloseBracket) → ⊥
not_close ts n (inl e) s = n (sym (ap sign_at e) ∙ s)
not_close ts n (inr e) s = let k = sym s ∙ ap (λ us. sign_at (next_of us)) e in cc

-- slices
abbrev pub slice_of : Opt → ℕ → Opt → Opt → Exp
slice_of o m b c = S.slice (slice_line o m) o b c

module _ (d m : ℕ) (o : Opt) (p : 0 < d) (fits : FitsOpt (d - 1) o) where
  fits_slice : (b c : Opt) → FitsOpt (d - 1) b → FitsOpt (d - 1) c → Fits d (slice_of o m b c)
  fits_slice b c f g = (omega (arith, p, fits.0, f.0, g.0), omega (arith, fits.1, f.1, g.1))

  pub slice_binds : Binds (a_bound (d - 1)) (λ b. Made (a_step (d - 1)) (slice_of o m b)) (left (parts.an_index d) (Sliced o m))
  slice_binds = record {
    intro = λ ts y mid x rest k j. into k j;
    inv = λ ts x rest k s. out k s;
    down = λ y mid x rest j f. part j f;
    finish = λ y f. ([], slice_of o m y S.absent, fits_slice y S.absent f (omega arith, omega arith), λ z. made no_step);
    extend = λ y. ([], slice_of o m y S.absent, λ z. made no_step);
  }
    where
      into : {ts mid rest : List Lexeme} {y : Opt} {x : Exp} → Bound ts y mid → Made (a_step (d - 1)) (slice_of o m y) mid x rest → Sliced o m ts x rest
      into k (made c) = sliced k c

      part : {mid rest : List Lexeme} {y : Opt} {x : Exp} → Made (a_step (d - 1)) (slice_of o m y) mid x rest → Fits d x → FitsOpt (d - 1) y
      part (made c) f = (omega (arith, f.0), omega (arith, f.1))

      step_ends : {mid rest : List Lexeme} {c : Opt} → Step mid c rest → sign_at (next_of rest) ≡ Some (mark CloseBracket) → ends_bound (next_of mid) ≡ true
      step_ends {mid = mid} no_step s = close_bound (next_of mid) s
      step_ends (grammar.a_step k) s = refl

      out : {ts rest : List Lexeme} {x : Exp} → Sliced o m ts x rest → sign_at (next_of rest) ≡ Some (mark CloseBracket)
          → (y : Opt) × (mid : List Lexeme) × Bound ts y mid × (ends_bound (next_of mid) ≡ true) × Made (a_step (d - 1)) (slice_of o m y) mid x rest
      out (sliced k c) s = (_, _, k, step_ends c s, made c)

  pub slice_ends : (b : Opt) → FitsOpt (d - 1) b → Binds (a_step (d - 1)) (λ c. Just (slice_of o m b c)) (left (parts.an_index d) (Made (a_step (d - 1)) (slice_of o m b)))
  slice_ends b f = made_binds (parts.an_index d) (a_step (d - 1)) (slice_of o m b) (λ c u s. s) (λ c g. (omega (arith, g.0), omega (arith, g.1))) (λ c g. fits_slice b c f g)

  pub slice_fits : (b c : Opt) → FitsOpt (d - 1) b → FitsOpt (d - 1) c → Fits d (slice_of o m b c)
  slice_fits b c f g = fits_slice b c f g

-- a slice without a start
bare_starts : {ts rest : List Lexeme} {e : Exp} → Bare Whole ts e rest → begins_item Whole (next_of ts) ≡ true
bare_starts (alone k) = item_begins k
bare_starts (a_tuple k q) = item_begins k

pub colon_shifts : (d m : ℕ) → Shifts (sign m (mark Colon)) (left (parts.an_index d) (Sliced S.absent m)) (parts.an_index d)
colon_shifts d m = record { intro = λ ts x rest k. into k; inv = λ ts x rest k s. (out k, s); stop = λ x o s. s; up = λ x f. f; down = λ x f. f }
  where
    into : {ts rest : List Lexeme} {x : Exp} → Sliced S.absent m ts x rest → Index (sign m (mark Colon) ∷ ts) x rest
    into (sliced k c) = a_slice no_bound k c

    out : {ts rest : List Lexeme} {x : Exp} → Index (sign m (mark Colon) ∷ ts) x rest → Sliced S.absent m ts x rest
    out (an_index k) = let h = bare_starts k in cc
    out (a_slice no_bound k c) = sliced k c
    out (a_slice (grammar.a_bound e) k c) = let h = expr_starts e in cc
