-- The first fault of a tree, as code answers it.
use Rattle.std.specs.Prelude.{List, [], ◌∷◌, Option, Some, None, Result, Ok, Err}
use Rattle.pt_refine_expr.specs.declared.fault.Fault.{Fault as FaultOf}
use Rattle.pt_refine_expr.specs.declared.fault.Fault.TheVariants.{BadTarget, Excluded}
use Rattle.pt_refine_expr.specs.Faults.{Fault, bad_target, excluded}

abbrev pub first_of : List Fault → Option Fault
first_of [] = None
first_of (f ∷ fs) = Some f

abbrev pub fault_of : FaultOf → Fault
fault_of (BadTarget l) = bad_target l.0
fault_of (Excluded l) = excluded l.0

-- the fault at which a check stops
abbrev pub stop_of : {A : Type 0} → Result A FaultOf → Option Fault
stop_of (Ok a) = None
stop_of (Err f) = Some (fault_of f)
