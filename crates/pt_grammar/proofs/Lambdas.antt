-- Lambdas.
use Rattle.std.proofs.Common.{◌≡◌, ℕ, ◌-◌, ◌<◌, ◌⊎◌, true, false, List, [], ◌∷◌, Option, Some, inl, inr, refl, arith}
use Rattle.pt_wide.specs.Syntax as S
use Rattle.pt_wide.specs.Syntax.{Exp}
use Rattle.pt_readers.specs.Reading.{next_of, Refused}
use Rattle.pt_readers.proofs.Readers.{Binds, Shifts, Just, left}
use Rattle.pt_readers.proofs.Pieces.{Through, through, Made, made, made_binds}
use Rattle.pt_readers.proofs.Exits.{over_refused_at}
use Rattle.pt_grammar.specs.declared.sign.Sign.TheVariants.{Mark as mark, Word as word}
use Rattle.pt_grammar.specs.declared.sign.Mark.TheVariants.{Colon}
use Rattle.pt_grammar.specs.declared.sign.Word.TheVariants.{Not, Lambda}
use Rattle.pt_grammar.specs.Lexemes.{Lexeme, sign, sign_at}
use Rattle.pt_grammar.specs.Signs.{ends_parameters}
use Rattle.pt_grammar.specs.Grammar.{Expr, expr, lambda, Parameters, no_parameter, Disjunction}
use Rattle.pt_grammar.specs.Nodes.{Gathered, no_parameters, params_of}
use Rattle.pt_grammar.specs.Parts.{Fits, FitsParams, an_expr, some_parameters}
use Rattle.pt_grammar.proofs.Ranks.{IsSign, is_sign}
use Rattle.pt_grammar.proofs.Begins.{some_name, some_exp, fits_name, depth_some, name_expr, disjunction_begins, BeginsFactor}

abbrev pub lambda_of : ℕ → Gathered → Exp → Exp
lambda_of l g e = S.lambda l (params_of g) e

-- what follows "lambda"
pub data Nameless (l : ℕ) : List Lexeme → Exp → List Lexeme → Type 0 where
  nameless : {m : ℕ} {ts mid rest : List Lexeme} {g : Gathered} {e : Exp} → Parameters false ts g (sign m (mark Colon) ∷ mid) → Expr mid e rest → Nameless l ts (lambda_of l g e) rest

not_lambda : {l : ℕ} {ts rest : List Lexeme} {e : Exp} → Disjunction (sign l (word Lambda) ∷ ts) e rest → ⊥
not_lambda {l} k = no_way (disjunction_begins k)
  where
    no_way : BeginsFactor (Some (sign l (word Lambda))) ⊎ ((m : ℕ) × (Some (sign l (word Lambda)) ≡ Some (sign m (word Not)))) → ⊥
    no_way (inl (inl b)) = b
    no_way (inl (inr n)) = n refl
    no_way (inr (m, h)) = cc

pub lambda_shifts : (d l : ℕ) → Shifts (sign l (word Lambda)) (left (an_expr d) (Nameless l)) (an_expr d)
lambda_shifts d l = record { intro = λ ts x rest k. into k; inv = λ ts x rest k s. (out k, s); stop = λ x o s. s; up = λ x f. f; down = λ x f. f }
  where
    into : {ts rest : List Lexeme} {x : Exp} → Nameless l ts x rest → Expr (sign l (word Lambda) ∷ ts) x rest
    into (nameless p k) = lambda p k

    out : {ts rest : List Lexeme} {x : Exp} → Expr (sign l (word Lambda) ∷ ts) x rest → Nameless l ts x rest
    out (lambda p k) = nameless p k
    out (expr k c) = absurd (not_lambda k)

-- no room for its body
pub lambda_over : (ts : List Lexeme) (l : ℕ) → next_of ts ≡ Some (sign l (word Lambda)) → Refused (an_expr 1) true ts ts
lambda_over ts l e =
    over_refused_at (an_expr 1) (sign l (word Lambda)) ts e (λ more x' rest' k n f. deep k f) (sign 0 (mark Colon) ∷ (some_name ∷ [])) (lambda_of l no_parameters some_exp) (λ z. lambda no_parameter name_expr)
    (some_name ∷ []) some_exp (fits_name 1 (omega arith)) (λ z. name_expr)
  where
    deep : {more rest : List Lexeme} {x : Exp} → Expr (sign l (word Lambda) ∷ more) x rest → Fits 1 x → ⊥
    deep (lambda {e = e} p k) f = omega (arith, f.0, depth_some e)
    deep (expr k c) f = not_lambda k

-- the colon and the body
abbrev pub Body : ℕ → ℕ → Gathered → List Lexeme → Exp → List Lexeme → Type 0
Body d l g = Through (IsSign (mark Colon)) (Made (an_expr (d - 1)) (lambda_of l g))

pub lambda_binds : (d l : ℕ) → 1 < d → Binds (some_parameters false (d - 1)) (λ g. Body d l g) (left (an_expr d) (Nameless l))
lambda_binds d l h = record {
  intro = λ ts y mid x rest k b. into k b;
  inv = λ ts x rest k s. out k;
  down = λ y mid x rest b f. part y b f;
  finish = λ y f. (sign 0 (mark Colon) ∷ (some_name ∷ []), lambda_of l y some_exp, (omega (arith, f.0), omega (arith, f.1)), λ z. through is_sign (made name_expr));
  extend = λ y. (sign 0 (mark Colon) ∷ (some_name ∷ []), lambda_of l y some_exp, λ z. through is_sign (made name_expr));
}
  where
    into : {ts mid rest : List Lexeme} {y : Gathered} {x : Exp} → Parameters false ts y mid → Body d l y mid x rest → Nameless l ts x rest
    into k (through is_sign (made b)) = nameless k b

    out : {ts rest : List Lexeme} {x : Exp} → Nameless l ts x rest
        → (y : Gathered) × (mid : List Lexeme) × Parameters false ts y mid × (ends_parameters false (next_of mid) ≡ true) × Body d l y mid x rest
    out (nameless {g = g} p k) = (g, _, p, refl, through is_sign (made k))

    part : {mid rest : List Lexeme} (y : Gathered) {x : Exp} → Body d l y mid x rest → Fits d x → FitsParams (d - 1) (params_of y)
    part y (through j (made b)) f = (omega (arith, f.0), omega (arith, f.1))

pub body_binds : (d l : ℕ) (g : Gathered) → 1 < d → FitsParams (d - 1) (params_of g) → Binds (an_expr (d - 1)) (λ e. Just (lambda_of l g e)) (left (an_expr d) (Made (an_expr (d - 1)) (lambda_of l g)))
body_binds d l g h f = made_binds (an_expr d) (an_expr (d - 1)) (lambda_of l g) (λ b o s. s) (λ b k. (omega (arith, k.0), omega (arith, k.1))) (λ b k. (omega (arith, k.0, f.0), omega (arith, k.1, f.1)))

-- a colon closes the parameters of a lambda
pub colon_next : (next : Option Lexeme) → ends_parameters false next ≡ true → sign_at next ≡ Some (mark Colon)
colon_next (Some (sign l (mark Colon))) h = refl
colon_next _ h = absurd (cc)
