-- What comparisons give (Language Reference 6.10).
use Rattle.std.specs.Prelude.{Bool, true, false, not, ◌&&◌, List, [], ◌∷◌, Option, Some, None, if◌then◌else◌}
use Rattle.pt_base.specs.declared.operators.CompareOp.{CompareOp}
use Rattle.pt_base.specs.declared.operators.CompareOp.TheVariants.{Equal, NotEqual, In, NotIn, Is, IsNot}
use Rattle.pt_base.specs.declared.what.What.TheVariants as what
use Rattle.pt_heap.specs.declared.value.Value.{Value}
use Rattle.pt_heap.specs.declared.object.Object.{Object}
use Rattle.pt_heap.specs.declared.object.Object.TheVariants as object
use Rattle.pt_content.specs.pt_attrs.Look.{object_of}
use Rattle.pt_content.specs.declared.operand.Operand.{Operand}
use Rattle.pt_content.specs.declared.operand.Operand.TheVariants.{Number, Instance}
use Rattle.pt_content.specs.declared.answer.Helper.{Helper}
use Rattle.pt_content.specs.declared.answer.Helper.TheVariants.{BinaryOf, SameOf, PairsOf}
use Rattle.pt_content.specs.declared.answer.Operator.TheVariants.{Compare}
use Rattle.pt_content.specs.declared.content.Content.{Content}
use Rattle.pt_content.specs.declared.content.Content.TheVariants as content
use Rattle.pt_content.specs.Operands.{operand_of}
use Rattle.pt_reprs.specs.Reached.{need_help}
use Rattle.pt_reprs.specs.Reprs.{depth_limit}
use Rattle.pt_comparisons.specs.Truths.{truth_value, turned}
use Rattle.pt_comparisons.specs.Equalities.{equality, is_same, same_number}
use Rattle.pt_comparisons.specs.Membership.{equality_answer, membership_content}
use Rattle.pt_comparisons.specs.Orders.{item_order, items_order, number_order}

-- two lists, or two tuples
abbrev pub are_sequences : Option Object → Option Object → Bool
are_sequences (Some (object.List vs)) (Some (object.List ws)) = true
are_sequences (Some (object.Tuple vs)) (Some (object.Tuple ws)) = true
are_sequences o p = false

-- the helper that compares two containers from which an instance of a script's class is reached
abbrev pub comparing_helper : Option Object → Option Object → Option Helper
comparing_helper (Some (object.List vs)) (Some (object.List ws)) = Some SameOf
comparing_helper (Some (object.Tuple vs)) (Some (object.Tuple ws)) = Some SameOf
comparing_helper (Some (object.Dict es)) (Some (object.Dict fs)) = Some PairsOf
comparing_helper o p = None

abbrev pub helped_or : Option Helper → List Object → Value → Value → Content
helped_or (Some helper) h a b = if need_help h (a ∷ b ∷ []) then content.Help helper false else equality_answer (equality h a b)
helped_or None h a b = equality_answer (equality h a b)

abbrev pub objects_equal : List Object → Value → Value → Content
objects_equal h a b = helped_or (comparing_helper (object_of h a) (object_of h b)) h a b

-- `==`
abbrev pub equal_by : List Object → Value → Value → Operand → Operand → Content
equal_by h a b (Number x) (Number y) = truth_value (same_number x y)
equal_by h a b k l = objects_equal h a b

-- an order of two lists or tuples from which an instance of a script's class is reached isn't told
abbrev pub objects_ordered : CompareOp → List Object → Value → Value → Content
objects_ordered op h a b =
    if are_sequences (object_of h a) (object_of h b) && need_help h (a ∷ b ∷ []) then content.Outside what.Feature
    else item_order op (items_order op h depth_limit) h a b

-- `< <= > >=`
abbrev pub order_by : CompareOp → List Object → Value → Value → Operand → Operand → Content
order_by op h a b (Number x) (Number y) = truth_value (number_order op x y)
order_by op h a b k l = objects_ordered op h a b

-- `!=` turns round what `==` gives
abbrev pub plain_by : CompareOp → List Object → Value → Value → Operand → Operand → Content
plain_by Equal h a b k l = equal_by h a b k l
plain_by NotEqual h a b k l = turned (equal_by h a b k l)
plain_by op h a b k l = order_by op h a b k l

-- an operand that is an instance of a script's class is asked
abbrev pub compared_by : CompareOp → List Object → Value → Value → Operand → Operand → Content
compared_by op h a b Instance l = content.Help (BinaryOf (Compare op)) false
compared_by op h a b k Instance = content.Help (BinaryOf (Compare op)) false
compared_by op h a b k l = plain_by op h a b k l

abbrev pub comparison_content : CompareOp → List Object → Value → Value → Content
comparison_content In h a b = membership_content h a b
comparison_content NotIn h a b = turned (membership_content h a b)
comparison_content Is h a b = truth_value (is_same h a b)
comparison_content IsNot h a b = truth_value (not (is_same h a b))
comparison_content op h a b = compared_by op h a b (operand_of h a) (operand_of h b)
