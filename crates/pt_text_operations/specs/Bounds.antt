-- The parts of a slice (Language Reference 6.3.3; Library Reference, `slice`).
use Rattle.std.specs.Prelude.{zero, ℤ, pos, List, Option, Some, None, Result, Ok, Err}
use Rattle.pt_base.specs.declared.numbers.ObjId.{ObjId}
use Rattle.pt_heap.specs.declared.value.Value.{Value}
use Rattle.pt_heap.specs.declared.value.Value.TheVariants as value
use Rattle.pt_heap.specs.declared.object.Object.{Object}
use Rattle.pt_heap.specs.declared.object.Slice.{Slice}
use Rattle.pt_content.specs.declared.class.TheConstants.{TYPE_ERROR, VALUE_ERROR}
use Rattle.pt_content.specs.declared.operand.Operand.{Operand}
use Rattle.pt_content.specs.declared.operand.Operand.TheVariants.{Number}
use Rattle.pt_content.specs.Operands.{operand_of}
use Rattle.pt_text_operations.specs.declared.bounds.Bounds.{Bounds}

abbrev pub number_of : Operand → Option (Option ℤ)
number_of (Number z) = Some (Some z)
number_of k = None

-- a part is None, where it is left out, or an integer
abbrev pub part_of : List Object → Value → Option (Option ℤ)
part_of h value.None = Some None
part_of h v = number_of (operand_of h v)

abbrev pub made_of : (start stop step : Option (Option ℤ)) → Result Bounds ObjId
made_of (Some a) (Some b) (Some s) = Ok (record { start = a; stop = b; step = s })
made_of a b s = Err TYPE_ERROR

-- the parts, or the class of what is raised; that the step isn't 0 is asked before the start and the stop
abbrev pub bounds_by : (start stop step : Option (Option ℤ)) → Result Bounds ObjId
bounds_by a b (Some (Some (pos zero))) = Err VALUE_ERROR
bounds_by a b s = made_of a b s

abbrev pub bounds_of : List Object → Slice → Result Bounds ObjId
bounds_of h s = bounds_by (part_of h s.start) (part_of h s.stop) (part_of h s.step)
