-- Binary operators at operands of which one is no number: texts, lists and tuples one behind another, or repeated (Language Reference
-- 6.7; Library Reference, "Common Sequence Operations").
use Rattle.std.specs.Prelude.{ℕ, ◌+◌, ◌*◌, ℤ, Bool, List, ◌++◌, Option, Some, length, nat_le, if◌then◌else◌}
use Rattle.std.specs.Str.{chars}
use Rattle.pt_base.specs.declared.operators.BinOp.{BinOp}
use Rattle.pt_base.specs.declared.operators.BinOp.TheVariants.{Add, Sub, Mul, Mod, BitAnd, BitOr, BitXor}
use Rattle.pt_base.specs.declared.what.What.TheVariants.{Length, Feature}
use Rattle.pt_heap.specs.declared.value.Value.{Value}
use Rattle.pt_heap.specs.declared.object.Object.{Object}
use Rattle.pt_heap.specs.declared.object.Object.TheVariants as object
use Rattle.pt_strs.specs.Answer.{length_limit}
use Rattle.pt_strs.specs.Join.{copies}
use Rattle.pt_content.specs.pt_attrs.Look.{object_of}
use Rattle.pt_content.specs.declared.content.Content.{Content}
use Rattle.pt_content.specs.declared.content.Content.TheVariants as content
use Rattle.pt_content.specs.declared.content.NewObject.TheVariants as new
use Rattle.pt_content.specs.declared.operand.Operand.{Operand}
use Rattle.pt_content.specs.declared.operand.Operand.TheVariants.{Number}
use Rattle.pt_content.specs.Operands.{operand_of}
use Rattle.pt_content.specs.TypeErrors.{binary_type_error}
use Rattle.pt_methods.specs.pt_sequences.Displays.{list_content, repeated_list, repeated_tuple, times, tuple_content}
use Rattle.pt_methods.specs.pt_sets.Operators.{combined_content}

-- one text behind another, where that isn't too long
abbrev pub joined : List ℕ → List ℕ → Content
joined s t = if nat_le (length (chars s) + length (chars t)) length_limit then content.New (new.Text (s ++ t)) else content.Outside Length

-- whether a text so many times isn't too long
abbrev pub is_short : ℤ → List ℕ → Bool
is_short z t = nat_le (times z * length (chars t)) length_limit

-- a text so many times
abbrev pub repeated_text : ℤ → List ℕ → Content
repeated_text z t = if is_short z t then content.New (new.Text (copies (times z) t)) else content.Outside Length

-- `+`: one behind another of the same kind
abbrev pub objects_added : List Object → Value → Value → Option Object → Option Object → Content
objects_added h a b (Some (object.Str s)) (Some (object.Str t)) = joined s t
objects_added h a b (Some (object.List vs)) (Some (object.List ws)) = list_content (vs ++ ws)
objects_added h a b (Some (object.Tuple vs)) (Some (object.Tuple ws)) = tuple_content (vs ++ ws)
objects_added h a b o p = binary_type_error Add h a b

-- `*`: a sequence so many times
abbrev pub object_repeated : List Object → Value → Value → ℤ → Option Object → Content
object_repeated h a b z (Some (object.Str t)) = repeated_text z t
object_repeated h a b z (Some (object.List vs)) = repeated_list z vs
object_repeated h a b z (Some (object.Tuple vs)) = repeated_tuple z vs
object_repeated h a b z o = binary_type_error Mul h a b

abbrev pub repeated_by : List Object → Value → Value → Operand → Operand → Content
repeated_by h a b (Number z) l = object_repeated h a b z (object_of h b)
repeated_by h a b k (Number z) = object_repeated h a b z (object_of h a)
repeated_by h a b k l = binary_type_error Mul h a b

-- `%`: the formats of a text aren't there
abbrev pub formatted : List Object → Value → Value → Option Object → Content
formatted h a b (Some (object.Str t)) = content.Outside Feature
formatted h a b o = binary_type_error Mod h a b

-- `- & | ^` of two sets
abbrev pub sets_combined : BinOp → List Object → Value → Value → Option Object → Option Object → Content
sets_combined op h a b (Some (object.Set es)) (Some (object.Set fs)) = combined_content op es fs
sets_combined op h a b o p = binary_type_error op h a b

abbrev pub sequences_binary : BinOp → List Object → Value → Value → Content
sequences_binary Add h a b = objects_added h a b (object_of h a) (object_of h b)
sequences_binary Mul h a b = repeated_by h a b (operand_of h a) (operand_of h b)
sequences_binary Mod h a b = formatted h a b (object_of h a)
sequences_binary Sub h a b = sets_combined Sub h a b (object_of h a) (object_of h b)
sequences_binary BitAnd h a b = sets_combined BitAnd h a b (object_of h a) (object_of h b)
sequences_binary BitOr h a b = sets_combined BitOr h a b (object_of h a) (object_of h b)
sequences_binary BitXor h a b = sets_combined BitXor h a b (object_of h a) (object_of h b)
sequences_binary op h a b = binary_type_error op h a b
