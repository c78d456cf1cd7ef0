-- What an operator sees in an operand (Language Reference 3.1, 3.2).
use Rattle.std.specs.Prelude.{List, ℕ, Option, Some, None, slice_get, if◌then◌else◌}
use Rattle.pt_base.specs.declared.numbers.ObjId.{ObjId}
use Rattle.pt_heap.specs.declared.value.Value.{Value}
use Rattle.pt_heap.specs.declared.value.Value.TheVariants as value
use Rattle.pt_heap.specs.declared.object.Object.{Object}
use Rattle.pt_heap.specs.declared.object.Object.TheVariants as object
use Rattle.pt_attrs.specs.pt_dicts.Chain.{class_in}
use Rattle.pt_attrs.specs.pt_dicts.Keys.{truth}
use Rattle.pt_attrs.specs.Store.{is_scripted}
use Rattle.pt_content.specs.declared.operand.Operand.{Operand}
use Rattle.pt_content.specs.declared.operand.Operand.TheVariants.{Number, Text, Instance, Compound, Plain}

-- what an instance of a class is: its methods are asked where a script made the class
abbrev pub instance_operand : List Object → (class : ObjId) → (otherwise : Operand) → Operand
instance_operand h id k = if is_scripted (class_in (slice_get h id.0)) then Instance else k

-- texts; what holds other values, or is a range or a slice; and what only is itself
abbrev pub object_operand : List Object → Option Object → Operand
object_operand h (Some (object.Str t)) = Text
object_operand h (Some (object.List vs)) = Compound
object_operand h (Some (object.Tuple vs)) = Compound
object_operand h (Some (object.Dict d)) = Compound
object_operand h (Some (object.Set d)) = Compound
object_operand h (Some (object.Range r)) = Compound
object_operand h (Some (object.Slice s)) = Compound
object_operand h (Some (object.View v)) = Compound
object_operand h (Some (object.Error x)) = instance_operand h x.class Compound
object_operand h (Some (object.Instance x)) = instance_operand h x.class Plain
object_operand h _ = Plain

-- a truth value stands for 0 or 1
abbrev pub operand_of : List Object → Value → Operand
operand_of h (value.Bool b) = Number (truth b)
operand_of h (value.Int z) = Number z
operand_of h (value.Obj id) = object_operand h (slice_get h id.0)
operand_of h _ = Plain

abbrev pub text_in : Option Object → Option (List ℕ)
text_in (Some (object.Str t)) = Some t
text_in _ = None

-- the text that a value is
abbrev pub text_of : List Object → Value → Option (List ℕ)
text_of h (value.Obj id) = text_in (slice_get h id.0)
text_of h _ = None
