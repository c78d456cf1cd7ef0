-- `not`, and conditional expressions.
use Rattle.std.proofs.Common.{◌≡◌, ◌≢◌, ℕ, ◌-◌, ◌≤◌, ◌<◌, Bool, true, false, List, [], ◌∷◌, ◌++◌, Option, Some, inl, inr, sym, ◌∙◌, ap, arith}
use Rattle.pt_wide.specs.Syntax as S
use Rattle.pt_wide.specs.Syntax.{Exp}
use Rattle.pt_wide.specs.Measure.{depth_exp}
use Rattle.pt_readers.specs.Reading.{next_of, Alike, Refused, Carries}
use Rattle.pt_readers.proofs.Readers.{Binds, Shifts, Narrows, Just, left, narrow_carries}
use Rattle.pt_readers.proofs.Pieces.{Through, through, Made, made, made_binds}
use Rattle.pt_readers.proofs.Exits.{over_refused_at}
use Rattle.pt_grammar.specs.declared.sign.Sign.TheVariants.{Word as word}
use Rattle.pt_grammar.specs.declared.sign.Word.TheVariants.{Not, If, Else, Lambda}
use Rattle.pt_grammar.specs.Lexemes.{Lexeme, sign, sign_at}
use Rattle.pt_grammar.specs.Grammar.{Expr, expr, lambda, Choice, no_choice, choice, Alternatives, alternatives, Disjunction, Negation, not_so, comparison, Comparisons}
use Rattle.pt_grammar.specs.Nodes.{line_of}
use Rattle.pt_grammar.specs.Parts.{Fits, Stops, Apart, ends_in_text, comparisons, a_negation, a_disjunction, an_expr}
use Rattle.pt_grammar.proofs.Options.{MayFollow, Ways, no_way, one_way}
use Rattle.pt_grammar.proofs.Ranks.{IsSign, is_sign, apart_of, no_rank, only_if}
use Rattle.pt_grammar.proofs.Begins.{some_name, some_exp, fits_name, depth_some, name_negation, name_disjunction, name_expr, comparisons_begin, not_no_factor}

pub not_shifts : (d l : ℕ) → Shifts (sign l (word Not)) (left (a_negation d) (Made (a_negation (d - 1)) (S.not_of l))) (a_negation d)
not_shifts d l = record { intro = λ ts x rest k. into k; inv = λ ts x rest k n. (out k, n); stop = λ x p n. n; up = λ x f. f; down = λ x f. f }
  where
    into : {ts rest : List Lexeme} {x : Exp} → Made (a_negation (d - 1)) (S.not_of l) ts x rest → Negation (sign l (word Not) ∷ ts) x rest
    into (made k) = not_so k

    out : {ts rest : List Lexeme} {x : Exp} → Negation (sign l (word Not) ∷ ts) x rest → Made (a_negation (d - 1)) (S.not_of l) ts x rest
    out (not_so k) = made k
    out (comparison k) = absurd (not_no_factor l (comparisons_begin k))

pub not_binds : (d l : ℕ) → 0 < d → Binds (a_negation (d - 1)) (λ e. Just (S.not_of l e)) (left (a_negation d) (Made (a_negation (d - 1)) (S.not_of l)))
not_binds d l h = made_binds (a_negation d) (a_negation (d - 1)) (S.not_of l) (λ b p s. s) (λ b g. (omega (arith, g.0), g.1)) (λ b g. (omega (arith, g.0), g.1))

pub not_over : (ts : List Lexeme) (l : ℕ) → next_of ts ≡ Some (sign l (word Not)) → Refused (a_negation 1) true ts ts
not_over ts l e =
    over_refused_at (a_negation 1) (sign l (word Not)) ts e (λ more x' rest' k n f. deep k f) (some_name ∷ []) (S.not_of l some_exp) (λ z. not_so name_negation) (some_name ∷ []) some_exp (fits_name 1 (omega arith)) (λ z. name_negation)
  where
    deep : {more rest : List Lexeme} {x : Exp} → Negation (sign l (word Not) ∷ more) x rest → Fits 1 x → ⊥
    deep (not_so {e = e} k) f = omega (arith, f.0, depth_some e)
    deep (comparison k) f = not_no_factor l (comparisons_begin k)

-- where no `not` is next
pub comparisons_narrow : (d : ℕ) (ts : List Lexeme) → sign_at (next_of ts) ≢ Some (word Not) → Narrows ts (comparisons d) (a_negation d)
comparisons_narrow d ts n = record { into = λ more x rest k. comparison k; out = λ more x rest a k s. (out a k, s); stop = λ x o s. s; up = λ x f. f; down = λ x f. f }
  where
    out : {more rest : List Lexeme} {x : Exp} → Alike more ts → Negation more x rest → Comparisons more x rest
    out (inl e) (not_so k) = absurd (n (sym (ap sign_at e)))
    out (inr e) (not_so k) = cc
    out a (comparison k) = k

apart_else : (b : Bool) (l : ℕ) → Apart b (Some (sign l (word Else)))
apart_else true l = tt
apart_else false l = tt

-- without `lambda`
pub data Unnamed : List Lexeme → Exp → List Lexeme → Type 0 where
  unnamed : {ts mid rest : List Lexeme} {a e : Exp} → Disjunction ts a mid → Choice a mid e rest → Unnamed ts e rest

-- where no `lambda` is next
pub expr_carries : (d : ℕ) (ts : List Lexeme) → sign_at (next_of ts) ≢ Some (word Lambda) → Carries (an_expr d) ts (left (an_expr d) Unnamed) ts
expr_carries d ts n = narrow_carries record { into = λ more x rest k. into k; out = λ more x rest a k s. (out a k, s); stop = λ x o s. s; up = λ x f. f; down = λ x f. f }
  where
    into : {more rest : List Lexeme} {x : Exp} → Unnamed more x rest → Expr more x rest
    into (unnamed k c) = expr k c

    out : {more rest : List Lexeme} {x : Exp} → Alike more ts → Expr more x rest → Unnamed more x rest
    out a (expr k c) = unnamed k c
    out (inl e) (lambda p k) = absurd (n (sym (ap sign_at e)))
    out (inr e) (lambda p k) = cc

pub expr_binds : (d : ℕ) → Binds (a_disjunction d) Choice (left (an_expr d) Unnamed)
expr_binds d = record {
  intro = λ ts y mid x rest k c. unnamed k c;
  inv = λ ts x rest k s. out k s;
  down = λ y mid x rest c f. shrinks c f;
  finish = λ y f. ([], y, f, λ z. no_choice);
  extend = λ y. ([], y, λ z. no_choice);
}
  where
    shrinks : {mid rest : List Lexeme} {y x : Exp} → Choice y mid x rest → Fits d x → Fits d y
    shrinks no_choice f = f
    shrinks (choice (alternatives c b)) f = (omega (arith, f.0), omega (arith, f.1))

    first_stops : {mid rest : List Lexeme} {y x : Exp} → Choice y mid x rest → Stops 11 x (next_of rest) → Stops 10 y (next_of mid)
    first_stops no_choice s = (omega (arith, s.0), s.1)
    first_stops {y = y} (choice {l = l} k) s = (omega arith, apart_of (ends_in_text y) l (word If) (omega arith))

    out : {ts rest : List Lexeme} {x : Exp} → Unnamed ts x rest → Stops 11 x (next_of rest) → (y : Exp) × (mid : List Lexeme) × Disjunction ts y mid × Stops 10 y (next_of mid) × Choice y mid x rest
    out (unnamed k c) s = (_, _, k, first_stops c s, c)

pub choice_may : (d : ℕ) (a : Exp) → MayFollow (an_expr d) (Choice a) (IsSign (word If)) (λ t. Alternatives a) a
choice_may d a = record { none = λ ts. no_choice; some = λ t ts y rest j k. into j k; out = λ ts y rest k. out k; ends = λ t s j. ends j s }
  where
    into : {t : Lexeme} {ts rest : List Lexeme} {y : Exp} → IsSign (word If) t → Alternatives a ts y rest → Choice a (t ∷ ts) y rest
    into is_sign k = choice k

    out : {ts rest : List Lexeme} {y : Exp} → Choice a ts y rest → Ways (an_expr d) (Choice a) (IsSign (word If)) (λ t. Alternatives a) a ts y rest
    out no_choice = no_way
    out (choice k) = one_way is_sign k

    ends : {t : Lexeme} → IsSign (word If) t → Stops 11 a (Some t) → ⊥
    ends is_sign s = omega (arith, s.0)

-- where no `if` is next
pub not_if : (a : Exp) (next : Option Lexeme) → sign_at next ≢ Some (word If) → Stops 10 a next → Stops 11 a next
not_if a next n s = (no_rank 11 (omega arith) next (omega (arith, s.0)) (λ t e k. n (e ∙ ap (λ u. Some u) (only_if t k))), s.1)

abbrev pub conditional_of : Exp → Exp → Exp → Exp
conditional_of a c b = S.conditional (line_of a) c a b

pub choice_deep : (d : ℕ) (a : Exp) → d ≤ depth_exp a → (us : List Lexeme) (y : Exp) (rest : List Lexeme) → Alternatives a us y rest → Fits d y → ⊥
choice_deep d a h us y rest (alternatives c b) f = omega (arith, f.0)

pub choice_far : (a : Exp) (z : List Lexeme) → Alternatives a ((some_name ∷ (sign 0 (word Else) ∷ (some_name ∷ []))) ++ z) (conditional_of a some_exp some_exp) z
choice_far a z = alternatives name_disjunction name_expr

-- the test, and then `else` and the other value
abbrev pub Otherwise : ℕ → Exp → Exp → List Lexeme → Exp → List Lexeme → Type 0
Otherwise d a c = Through (IsSign (word Else)) (Made (an_expr (d - 1)) (conditional_of a c))

pub test_binds : (d : ℕ) (a : Exp) → Fits d a → depth_exp a < d → Binds (a_disjunction (d - 1)) (Otherwise d a) (left (an_expr d) (Alternatives a))
test_binds d a fits h = record {
  intro = λ ts y mid x rest k c. into k c;
  inv = λ ts x rest k s. out k;
  down = λ y mid x rest c f. part c f;
  finish = λ y f. (sign 0 (word Else) ∷ (some_name ∷ []), conditional_of a y some_exp, (omega (arith, f.0, depth_some y), omega (arith, fits.1, f.1)), λ z. through is_sign (made name_expr));
  extend = λ y. (sign 0 (word Else) ∷ (some_name ∷ []), conditional_of a y some_exp, λ z. through is_sign (made name_expr));
}
  where
    into : {ts mid rest : List Lexeme} {y x : Exp} → Disjunction ts y mid → Otherwise d a y mid x rest → Alternatives a ts x rest
    into k (through is_sign (made b)) = alternatives k b

    part : {mid rest : List Lexeme} {y x : Exp} → Otherwise d a y mid x rest → Fits d x → Fits (d - 1) y
    part (through j (made b)) f = (omega (arith, f.0), omega (arith, f.1))

    out : {ts rest : List Lexeme} {x : Exp} → Alternatives a ts x rest → (y : Exp) × (mid : List Lexeme) × Disjunction ts y mid × Stops 10 y (next_of mid) × Otherwise d a y mid x rest
    out (alternatives {l = l} {c = c} k b) = (_, _, k, (omega arith, apart_else (ends_in_text c) l), through is_sign (made b))

pub otherwise_binds : (d : ℕ) (a c : Exp) → Fits d a → depth_exp a < d → Fits (d - 1) c → depth_exp c < d
    → Binds (an_expr (d - 1)) (λ b. Just (conditional_of a c b)) (left (an_expr d) (Made (an_expr (d - 1)) (conditional_of a c)))
otherwise_binds d a c f h g i = made_binds (an_expr d) (an_expr (d - 1)) (conditional_of a c) (λ b o s. s) (λ b k. (omega (arith, k.0), omega (arith, k.1))) (λ b k. (omega (arith, k.0, g.0), omega (arith, f.1, g.1, k.1)))
