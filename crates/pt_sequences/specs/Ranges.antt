-- Ranges of integers (Library Reference, "Ranges"; "Built-in Functions", `range`).
use Rattle.std.specs.Prelude.{ℕ, zero, suc, ◌+◌, ◌/◌, ◌%◌, ℤ, pos, negsuc, ◌+ℤ◌, ◌-ℤ◌, ◌*ℤ◌, unsigned_abs, Bool, false, ◌&&◌, List, [], ◌∷◌, Option, Some, None, int_lt, int_le, nat_eq, nat_lt, if◌then◌else◌}
use Rattle.pt_base.specs.declared.what.What.TheVariants.{Feature, Integer}
use Rattle.pt_heap.specs.declared.value.Value.{Value}
use Rattle.pt_heap.specs.declared.value.Value.TheVariants as value
use Rattle.pt_heap.specs.declared.object.Object.{Object}
use Rattle.pt_heap.specs.declared.object.Range.{Range}
use Rattle.pt_ints.specs.Answer.{is_in_range}
use Rattle.pt_content.specs.declared.class.TheConstants.{TYPE_ERROR, VALUE_ERROR}
use Rattle.pt_content.specs.declared.operand.Operand.{Operand}
use Rattle.pt_content.specs.declared.operand.Operand.TheVariants.{Number}
use Rattle.pt_content.specs.declared.content.Content.{Content}
use Rattle.pt_content.specs.declared.content.Content.TheVariants as content
use Rattle.pt_content.specs.declared.content.NewObject.TheVariants as new
use Rattle.pt_content.specs.Operands.{operand_of}
use Rattle.pt_content.specs.TypeErrors.{bad_argument}

-- an integer, if it is one of 128 bits
abbrev pub integer : ℤ → Content
integer z = if is_in_range z then content.Value (value.Int z) else content.Outside Integer

-- how many steps begin within a distance
abbrev pub steps_within : (distance size : ℕ) → ℕ
steps_within zero s = 0
steps_within (suc d) s = d / s + 1

-- how many steps begin before the stop is reached
abbrev pub step_count : (start stop step : ℤ) → ℕ
step_count a b (pos zero) = 0
step_count a b (pos (suc s)) = if int_lt a b then steps_within (unsigned_abs (b -ℤ a)) (suc s) else 0
step_count a b (negsuc s) = if int_lt b a then steps_within (unsigned_abs (a -ℤ b)) (suc s) else 0

-- how many integers a range has
abbrev pub range_length : Range → ℕ
range_length r = step_count r.start r.stop r.step

-- the integer at a place
abbrev pub range_item : Range → (place : ℕ) → ℤ
range_item r i = r.start +ℤ (pos i *ℤ r.step)

abbrev pub range_value : Range → (place : ℕ) → Option Value
range_value r i = if nat_lt i (range_length r) then Some (value.Int (range_item r i)) else None

-- whether it is whole steps of a size, of which there are any, from one integer to another
abbrev pub is_stepped : (size : ℕ) → (from to : ℤ) → Bool
is_stepped zero a z = false
is_stepped (suc s) a z = nat_eq (unsigned_abs (z -ℤ a) % suc s) 0

-- whether an integer is one of a range
abbrev pub is_item : (start stop step z : ℤ) → Bool
is_item a b (pos s) z = (int_le a z && int_lt z b) && is_stepped s a z
is_item a b (negsuc s) z = (int_le z a && int_lt b z) && is_stepped (suc s) a z

abbrev pub has_integer : Range → ℤ → Bool
has_integer r z = is_item r.start r.stop r.step z

-- `range` of a start, a stop and a step
abbrev pub range_of : (start stop step : ℤ) → Content
range_of a b (pos zero) = bad_argument VALUE_ERROR
range_of a b s = content.New (new.Range (record { start = a; stop = b; step = s }))

abbrev pub range_by : (start stop step : Operand) → Content
range_by (Number a) (Number b) (Number s) = range_of a b s
range_by a b s = bad_argument TYPE_ERROR

-- of a stop alone, of a start and a stop, or of all three
abbrev pub range_content : List Object → List Value → Content
range_content h (stop ∷ []) = range_by (Number (pos 0)) (operand_of h stop) (Number (pos 1))
range_content h (start ∷ stop ∷ []) = range_by (operand_of h start) (operand_of h stop) (Number (pos 1))
range_content h (start ∷ stop ∷ step ∷ []) = range_by (operand_of h start) (operand_of h stop) (operand_of h step)
range_content h vs = content.Outside Feature
