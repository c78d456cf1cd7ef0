use Rattle.std.proofs.Common.{◌∷◌, subst, sym}
use Rattle.pt_refine_expr.specs.declared.narrowing.Narrowing.TheVariants.{BadTarget, Excluded}
use Rattle.pt_refine_expr.specs.First.{fault_of}
use Rattle.pt_refine_expr.specs.Told.{IsTold, told_excluded, told_target}
use Rattle.pt_refine_expr.proofs.language.told.Goals as goal

pub returns-in-BadTarget : goal.returns-in-BadTarget
returns-in-BadTarget c = λ others. subst (λ f. IsTold (fault_of f ∷ others) (BadTarget c.in-BadTarget.line)) (sym c.in-BadTarget.is) (told_target c.in-BadTarget.line others)

pub returns-in-Excluded : goal.returns-in-Excluded
returns-in-Excluded c = λ others. subst (λ f. IsTold (fault_of f ∷ others) (Excluded c.in-Excluded.line)) (sym c.in-Excluded.is) (told_excluded c.in-Excluded.line others)
