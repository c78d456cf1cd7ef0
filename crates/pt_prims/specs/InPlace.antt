-- Operators of augmented assignments (Language Reference 7.2.1; Library Reference, "Mutable Sequence Types"). A list changes in
-- place, and so does a set; at other operands they give what the binary operator gives.
use Rattle.std.specs.Prelude.{List, false, ◌++◌, Option, Some, codes, if◌then◌else◌}
use Rattle.pt_base.specs.declared.operators.BinOp.{BinOp}
use Rattle.pt_base.specs.declared.operators.BinOp.TheVariants.{Add, Mul}
use Rattle.pt_heap.specs.declared.value.Value.{Value}
use Rattle.pt_heap.specs.declared.value.Value.TheVariants as value
use Rattle.pt_heap.specs.declared.object.Object.{Object}
use Rattle.pt_heap.specs.declared.object.Object.TheVariants as object
use Rattle.pt_heap.specs.Entries.{Entry}
use Rattle.pt_content.specs.pt_attrs.pt_dicts.Combine.{is_set_operator}
use Rattle.pt_content.specs.pt_attrs.Look.{object_of}
use Rattle.pt_content.specs.declared.answer.Helper.TheVariants.{ExtendOf}
use Rattle.pt_content.specs.declared.answer.PrimAns.TheVariants as answer
use Rattle.pt_content.specs.declared.content.Content.{Content}
use Rattle.pt_content.specs.declared.content.Content.TheVariants as content
use Rattle.pt_content.specs.declared.content.Mutable.TheVariants as mutable
use Rattle.pt_content.specs.declared.content.NewObject.TheVariants as new
use Rattle.pt_content.specs.declared.operand.Operand.{Operand}
use Rattle.pt_content.specs.declared.operand.Operand.TheVariants.{Number}
use Rattle.pt_content.specs.Changes.{replacing}
use Rattle.pt_content.specs.Operands.{operand_of}
use Rattle.pt_methods.specs.pt_sequences.Cursors.{asked_or}
use Rattle.pt_methods.specs.pt_sequences.Displays.{list_content, repeated_list}
use Rattle.pt_methods.specs.pt_sets.Operators.{combined_in_place}
use Rattle.pt_prims.specs.Arithmetic.{binary_content}

-- a list takes the items of one that would be new
abbrev pub in_place : Value → Content → Content
in_place (value.Obj id) (content.New (new.List vs)) = content.Changed (replacing id (mutable.List vs)) (answer.Value (value.Obj id))
in_place v c = c

-- `+=` of a list: the items of another list or of a tuple behind its own; a helper goes through other values
abbrev pub extended : List Object → Value → List Value → Value → Option Object → Content
extended h a vs b (Some (object.List ws)) = in_place a (list_content (vs ++ ws))
extended h a vs b (Some (object.Tuple ws)) = in_place a (list_content (vs ++ ws))
extended h a vs b (Some (object.Str t)) = content.Help ExtendOf false
extended h a vs b (Some (object.Range r)) = content.Help ExtendOf false
extended h a vs b (Some (object.Cursor c)) = content.Help ExtendOf false
extended h a vs b (Some (object.Dict es)) = content.Help ExtendOf false
extended h a vs b (Some (object.Set es)) = content.Help ExtendOf false
extended h a vs b (Some (object.View v)) = content.Help ExtendOf false
extended h a vs b (Some (object.Generator n)) = content.Help ExtendOf false
extended h a vs b o = asked_or ExtendOf (codes "iterable") h b (operand_of h b)

-- `*=` of a list
abbrev pub list_repeated : List Object → Value → List Value → Value → Operand → Content
list_repeated h a vs b (Number z) = in_place a (repeated_list z vs)
list_repeated h a vs b k = binary_content Mul h a b

-- `|= &= -= ^=` of a set and another
abbrev pub set_changed : BinOp → List Object → Value → Value → List Entry → Option Object → Content
set_changed op h (value.Obj id) b es (Some (object.Set fs)) = if is_set_operator op then combined_in_place op id es fs else binary_content op h (value.Obj id) b
set_changed op h a b es o = binary_content op h a b

abbrev pub in_place_by : BinOp → List Object → Value → Value → Option Object → Content
in_place_by Add h a b (Some (object.List vs)) = extended h a vs b (object_of h b)
in_place_by Mul h a b (Some (object.List vs)) = list_repeated h a vs b (operand_of h b)
in_place_by op h a b (Some (object.Set es)) = set_changed op h a b es (object_of h b)
in_place_by op h a b o = binary_content op h a b

abbrev pub in_place_content : BinOp → List Object → Value → Value → Content
in_place_content op h a b = in_place_by op h a b (object_of h a)
