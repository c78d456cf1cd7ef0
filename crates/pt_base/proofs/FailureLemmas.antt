-- What is said of a failure, from what is said of its reason.
use Rattle.pt_base.specs.declared.failure.Failure.{Failure}
use Rattle.pt_base.specs.declared.failure.Failure.TheVariants.{Refused, Memory}
use Rattle.pt_base.specs.Failures.{IfRefused}

pub if_refused_map : {E : Type 0} {P Q : E → Type 0} (failure : Failure E) → ((reason : E) → P reason → Q reason) → IfRefused P failure → IfRefused Q failure
if_refused_map (Refused reason) f p = f reason p
if_refused_map Memory f p = tt
