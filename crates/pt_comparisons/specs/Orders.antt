-- Orders of values (Language Reference 6.10.1): of numbers and of texts, and of lists, tuples and slices by the first items that
-- aren't equal.
use Rattle.std.specs.Prelude.{ℕ, zero, suc, ℤ, pos, Bool, true, false, not, List, [], ◌∷◌, Option, Some, length, int_lt, nat_lt, if◌then◌else◌}
use Rattle.std.specs.Str.{chars}
use Rattle.pt_base.specs.declared.operators.CompareOp.{CompareOp}
use Rattle.pt_base.specs.declared.operators.CompareOp.TheVariants.{Less, LessEqual, Greater}
use Rattle.pt_heap.specs.declared.value.Value.{Value}
use Rattle.pt_heap.specs.declared.object.Object.{Object}
use Rattle.pt_heap.specs.declared.object.Object.TheVariants as object
use Rattle.pt_content.specs.pt_attrs.Look.{object_of}
use Rattle.pt_content.specs.declared.operand.Operand.{Operand}
use Rattle.pt_content.specs.declared.operand.Operand.TheVariants.{Number}
use Rattle.pt_content.specs.declared.content.Content.{Content}
use Rattle.pt_content.specs.Operands.{operand_of}
use Rattle.pt_content.specs.TypeErrors.{order_type_error}
use Rattle.pt_comparisons.specs.declared.equality.Equality.{Equality}
use Rattle.pt_comparisons.specs.declared.equality.Equality.TheVariants.{Told, Deep, Feature}
use Rattle.pt_comparisons.specs.declared.order.Difference.{Difference}
use Rattle.pt_comparisons.specs.declared.order.Difference.TheVariants.{Nowhere, At, Untold}
use Rattle.pt_comparisons.specs.Truths.{truth_value}
use Rattle.pt_comparisons.specs.Equalities.{bounds, insides_equality, item_equality}
use Rattle.pt_comparisons.specs.Membership.{equality_answer}

abbrev pub number_order : CompareOp → ℤ → ℤ → Bool
number_order Less a b = int_lt a b
number_order LessEqual a b = not (int_lt b a)
number_order Greater a b = int_lt b a
number_order _ a b = not (int_lt a b)

-- whether a text stands before another, by the numbers of characters
abbrev pub is_before : List ℕ → List ℕ → Bool
is_before cs [] = false
is_before [] (d ∷ ds) = true
is_before (c ∷ cs) (d ∷ ds) = if nat_lt c d then true else (if nat_lt d c then false else is_before cs ds)

abbrev pub text_order : CompareOp → List ℕ → List ℕ → Bool
text_order Less s t = is_before s t
text_order LessEqual s t = not (is_before t s)
text_order Greater s t = is_before t s
text_order _ s t = not (is_before s t)

-- two items differ, or it isn't told whether they do, or what is found behind them
abbrev pub unless_equal : Equality → (v w : Value) → (behind : Difference) → Difference
unless_equal (Told true) v w behind = behind
unless_equal (Told false) v w behind = At v w
unless_equal untold v w behind = Untold untold

-- from left to right, as far as there are two
abbrev pub first_difference : (Value → Value → Equality) → List Value → List Value → Difference
first_difference item (v ∷ vs) (w ∷ ws) = unless_equal (item v w) v w (first_difference item vs ws)
first_difference item vs ws = Nowhere

-- the first items that differ are in the same order; where none differ, so are the numbers of items
abbrev pub order_by_difference : CompareOp → (Value → Value → Content) → List Value → List Value → Difference → Content
order_by_difference op item vs ws (At v w) = item v w
order_by_difference op item vs ws Nowhere = truth_value (number_order op (pos (length vs)) (pos (length ws)))
order_by_difference op item vs ws (Untold untold) = equality_answer untold

abbrev pub objects_order : CompareOp → (List Value → List Value → Content) → List Object → Value → Value → Option Object → Option Object → Content
objects_order op items h a b (Some (object.Str s)) (Some (object.Str t)) = truth_value (text_order op (chars s) (chars t))
objects_order op items h a b (Some (object.List vs)) (Some (object.List ws)) = items vs ws
objects_order op items h a b (Some (object.Tuple vs)) (Some (object.Tuple ws)) = items vs ws
objects_order op items h a b (Some (object.Slice s)) (Some (object.Slice t)) = items (bounds s) (bounds t)
objects_order op items h a b o p = order_type_error op h a b

abbrev pub operands_order : CompareOp → (List Value → List Value → Content) → List Object → Value → Value → Operand → Operand → Content
operands_order op items h a b (Number x) (Number y) = truth_value (number_order op x y)
operands_order op items h a b k l = objects_order op items h a b (object_of h a) (object_of h b)

abbrev pub item_order : CompareOp → (List Value → List Value → Content) → List Object → Value → Value → Content
item_order op items h a b = operands_order op items h a b (operand_of h a) (operand_of h b)

-- of lists of items; so many containers may stand inside one another, those of these items among them
unfoldable pub items_order : CompareOp → List Object → (depth : ℕ) → List Value → List Value → Content
items_order op h zero vs ws = equality_answer Deep
items_order op h (suc depth) vs ws =
    order_by_difference op (item_order op (items_order op h depth) h) vs ws (first_difference (item_equality (insides_equality h depth) h) vs ws)
