-- What is said of a failure. Any call may run out of memory, and that has no cause.
use Rattle.pt_base.specs.declared.failure.Failure.{Failure}
use Rattle.pt_base.specs.declared.failure.Failure.TheVariants.{Refused, Memory}

-- this holds of the reason, if there is one
abbrev pub IfRefused : {E : Type 0} → (E → Type 0) → Failure E → Type 0
IfRefused P (Refused reason) = P reason
IfRefused P Memory = Unit {0}

-- both are for reasons, which are so related, or both for want of memory
abbrev pub IsSameFailure : {D E : Type 0} → (D → E → Type 0) → Failure D → Failure E → Type 0
IsSameFailure P (Refused d) (Refused e) = P d e
IsSameFailure P (Refused d) Memory = ⊥
IsSameFailure P Memory (Refused e) = ⊥
IsSameFailure P Memory Memory = Unit {0}
