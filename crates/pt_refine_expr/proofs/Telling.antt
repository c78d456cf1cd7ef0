-- What is told of a tree is told of the first of its faults, and a tree without faults is in the language.
use Rattle.std.proofs.Common.{◌≡◌, ap, subst, arith, List, [], ◌∷◌, Option, Some, None}
use Rattle.std.specs.Prelude.{is_some}
use Rattle.pt_refine_expr.specs.declared.narrowing.Narrowing.{Narrowing}
use Rattle.pt_refine_expr.specs.Faults.{Fault, is_clean}
use Rattle.pt_refine_expr.specs.First.{first_of}
use Rattle.pt_refine_expr.specs.Told.{IsTold}

abbrev begin : Fault → Option Fault → Fault
begin d None = d
begin d (Some f) = f

pub told-first : (f : Fault) (fs : List Fault) (e : Narrowing) → Some f ≡ first_of fs → ((gs : List Fault) → IsTold (f ∷ gs) e) → IsTold fs e
told-first f [] e is told = absurd (grind (arith, is))
told-first f (g ∷ gs) e is told = subst (λ h. IsTold (h ∷ gs) e) (ap (begin f) is) (told gs)

pub never-left : {P : Type 0} (o : Option P) (fs : List Fault) → is_some o ≡ is_clean fs → None ≡ first_of fs → o ≡ None → ⊥
never-left None [] law clean left = cc
never-left None (f ∷ fs) law clean left = cc
never-left (Some x) fs law clean left = cc
