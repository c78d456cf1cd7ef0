-- The names of parameters that have defaults.
use Rattle.std.proofs.Common.{◌≡◌, ◌∙◌, ◌∷◌, ℕ, true, false, Option, Some, None, is_some, refl, ap}
use Rattle.pt_tree.specs.Syntax as S
use Rattle.pt_tree.specs.Syntax.{Name, Formals, Opt}
use Rattle.pt_tree.specs.declared.expression.Expr.{Expr}
use Rattle.pt_tree.specs.declared.expression.Parameter.{Parameter, out-Parameter}
use Rattle.pt_tree.specs.Fold.{formal_of, opt_exp}
use Rattle.pt_tree.proofs.Folds.{formal_of-parts}
use Rattle.sem_control.specs.control.Expressions.{defaulted}

given-cases : (l : ℕ) (x : Name) (a : Opt) (d : Option Expr) (r : Formals) → is_some d ≡ true → defaulted (S.formal l x a (opt_exp d) r) ≡ x ∷ defaulted r
given-cases l x a (Some d) r is = refl
given-cases l x a None r is = cc

absent-cases : (l : ℕ) (x : Name) (a : Opt) (d : Option Expr) (r : Formals) → is_some d ≡ false → defaulted (S.formal l x a (opt_exp d) r) ≡ defaulted r
absent-cases l x a (Some d) r is = cc
absent-cases l x a None r is = refl

pub defaulted-given : (p : Parameter) (r : Formals) → is_some (out-Parameter p).default ≡ true → defaulted (formal_of p r) ≡ (out-Parameter p).name ∷ defaulted r
defaulted-given p r is = ap defaulted (formal_of-parts p r) ∙ given-cases (out-Parameter p).line.0 (out-Parameter p).name (opt_exp (out-Parameter p).annotation) (out-Parameter p).default r is

pub defaulted-absent : (p : Parameter) (r : Formals) → is_some (out-Parameter p).default ≡ false → defaulted (formal_of p r) ≡ defaulted r
defaulted-absent p r is = ap defaulted (formal_of-parts p r) ∙ absent-cases (out-Parameter p).line.0 (out-Parameter p).name (opt_exp (out-Parameter p).annotation) (out-Parameter p).default r is
