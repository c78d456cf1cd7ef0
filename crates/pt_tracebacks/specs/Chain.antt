-- The chain of exceptions that is reported with one (Language Reference 7.8; Library Reference, "Built-in Exceptions", "Exception context").
use Rattle.std.specs.Prelude.{ℕ, zero, suc, ◌==◌, Bool, true, false, List, [], ◌∷◌, Option, Some, None, length, slice_get, if◌then◌else◌}
use Rattle.std.specs.List.{list_any}
use Rattle.pt_base.specs.declared.numbers.ObjId.{ObjId}
use Rattle.pt_heap.specs.declared.object.Error.{Error as ErrorObject}
use Rattle.pt_heap.specs.declared.object.Object.{Object}
use Rattle.pt_heap.specs.declared.object.Object.TheVariants.{Error}
use Rattle.pt_tracebacks.specs.declared.summary.Role.{Role}
use Rattle.pt_tracebacks.specs.declared.summary.Role.TheVariants.{Last, Cause, Context}

-- an exception of a chain, and what it is to the one that it is reported before
abbrev pub Link : Type 0
Link = ErrorObject × Role

abbrev pub error_in : Option Object → Option ErrorObject
error_in (Some (Error x)) = Some x
error_in _ = None

-- what is reported before an exception: its cause, or else its context, unless `from` hides that
abbrev pub earlier_of : (cause : Option ObjId) → (hides_context : Bool) → (context : Option ObjId) → Option (ObjId × Role)
earlier_of (Some id) hides context = Some (id, Cause)
earlier_of None true context = None
earlier_of None false (Some id) = Some (id, Context)
earlier_of None false None = None

abbrev pub earlier : ErrorObject → Option (ObjId × Role)
earlier x = earlier_of x.cause x.hides_context x.context

abbrev pub from_earlier : (ObjId → Role → List Link) → Option (ObjId × Role) → List Link
from_earlier from None = []
from_earlier from (Some (id, role)) = from id role

abbrev pub from_error : (ObjId → Role → List Link) → (is_held : Bool) → Role → Option ErrorObject → List Link
from_error from is_held role None = []
from_error from is_held role (Some x) = if is_held then [] else (x, role) ∷ from_earlier from (earlier x)

abbrev pub holds : List ℕ → ℕ → Bool
holds places p = list_any (λ q. q == p) places

-- the chain from an exception to the earliest one, of at most so many; it ends before one that it holds already
unfoldable pub chain_within : List Object → (most : ℕ) → (held : List ℕ) → ObjId → Role → List Link
chain_within h zero held id role = []
chain_within h (suc most) held id role =
    from_error (chain_within h most (id.0 ∷ held)) (holds held id.0) role (error_in (slice_get h id.0))

-- there are no more exceptions than objects
abbrev pub chain : List Object → ObjId → List Link
chain h id = chain_within h (length h) [] id Last
