-- How many items a value has (Library Reference, "Built-in Functions", `len`; "Truth Value Testing").
use Rattle.std.specs.Prelude.{ℕ, pos, false, List, [], ◌∷◌, Option, Some, None, length, codes, slice_get}
use Rattle.std.specs.Str.{chars}
use Rattle.pt_base.specs.declared.numbers.ObjId.{ObjId}
use Rattle.pt_heap.specs.declared.value.Value.{Value}
use Rattle.pt_heap.specs.declared.object.Object.{Object}
use Rattle.pt_heap.specs.declared.object.Object.TheVariants as object
use Rattle.pt_content.specs.pt_attrs.Look.{object_of}
use Rattle.pt_content.specs.declared.answer.Helper.TheVariants.{LenOf}
use Rattle.pt_content.specs.declared.class.TheConstants.{TYPE_ERROR}
use Rattle.pt_content.specs.declared.content.Content.{Content}
use Rattle.pt_content.specs.declared.content.Content.TheVariants as content
use Rattle.pt_content.specs.declared.operand.Operand.{Operand}
use Rattle.pt_content.specs.declared.operand.Operand.TheVariants.{Instance}
use Rattle.pt_content.specs.Operands.{operand_of}
use Rattle.pt_content.specs.Classes.{class_name}
use Rattle.pt_content.specs.TypeErrors.{sentence}
use Rattle.pt_sequences.specs.Ranges.{integer, range_length}

-- the entries of a dictionary
abbrev pub entry_count : Option Object → ℕ
entry_count (Some (object.Dict es)) = length es
entry_count o = 0

-- characters of a text, items, integers of a range; a view has as many as its dictionary
abbrev pub length_in : List Object → Option Object → Option ℕ
length_in h (Some (object.Str t)) = Some (length (chars t))
length_in h (Some (object.List vs)) = Some (length vs)
length_in h (Some (object.Tuple vs)) = Some (length vs)
length_in h (Some (object.Dict es)) = Some (length es)
length_in h (Some (object.Set es)) = Some (length es)
length_in h (Some (object.Range r)) = Some (range_length r)
length_in h (Some (object.View v)) = Some (entry_count (slice_get h v.dict.0))
length_in h o = None

abbrev pub length_of : List Object → Value → Option ℕ
length_of h v = length_in h (object_of h v)

-- an instance of a script's class is asked
abbrev pub lengthless : List Object → Value → Operand → Content
lengthless h v Instance = content.Help LenOf false
lengthless h v k = content.Raise TYPE_ERROR (sentence (codes "object of type '" ∷ class_name h v ∷ codes "' has no len()" ∷ []))

abbrev pub length_by : List Object → Value → Option ℕ → Content
length_by h v (Some n) = integer (pos n)
length_by h v None = lengthless h v (operand_of h v)

-- `len`
abbrev pub length_content : List Object → Value → Content
length_content h v = length_by h v (length_of h v)
