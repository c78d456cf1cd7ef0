-- The refusal of a tree whose faults are listed in source order: the first of them.
use Rattle.std.specs.Prelude.{List, ◌∷◌}
use Rattle.pt_base.specs.declared.numbers.Line.{Line}
use Rattle.pt_refine_expr.specs.declared.narrowing.Narrowing.{Narrowing}
use Rattle.pt_refine_expr.specs.declared.narrowing.Narrowing.TheVariants.{BadTarget, Excluded, Memory}
use Rattle.pt_refine_expr.specs.Faults.{Fault, bad_target, excluded}

-- want of memory may be told at any time
pub data IsTold : List Fault → Narrowing → Type 0 where
  no_memory : (fs : List Fault) → IsTold fs Memory
  told_target : (l : Line) (fs : List Fault) → IsTold (bad_target l.0 ∷ fs) (BadTarget l)
  told_excluded : (l : Line) (fs : List Fault) → IsTold (excluded l.0 ∷ fs) (Excluded l)
