-- Operations of expressions put objects behind those that are there, and change none.
use Rattle.std.proofs.Common.{◌≡◌, ◌+◌, ◌&&◌, ℕ, zero, suc, ℤ, Bool, true, false, List, [], ◌∷◌, ◌++◌, Option, None, Some, Result, Ok, Err, map, length, if◌then◌else◌, refl, sym, ap}
use Rattle.std.specs.Prelude.{nat_le, slice_get}
use Rattle.std.specs.Str.{chars}
use Rattle.std.proofs.lemmas.List.{append-nil}
use Rattle.std.proofs.lemmas.Bool.{false≢true}
use Rattle.pt_base.specs.declared.numbers.ObjId.{ObjId}
use Rattle.pt_base.specs.declared.operators.BinOp.{BinOp}
use Rattle.pt_base.specs.declared.operators.BinOp.TheVariants as binary
use Rattle.pt_base.specs.declared.operators.UnOp.{UnOp}
use Rattle.pt_base.specs.declared.operators.CompareOp.{CompareOp}
use Rattle.pt_base.specs.declared.operators.CompareOp.TheVariants as compare
use Rattle.pt_base.specs.declared.what.What.{What}
use Rattle.pt_base.specs.declared.what.What.TheVariants as what
use Rattle.pt_tree.specs.declared.expression.Conversion.{Conversion}
use Rattle.pt_tree.specs.declared.expression.Conversion.TheVariants as conversion
use Rattle.pt_ints.specs.declared.answer.IntAns.{IntAns}
use Rattle.pt_ints.specs.declared.answer.IntAns.TheVariants as integer
use Rattle.pt_ints.specs.Answer.{binary_answer, unary_answer}
use Rattle.pt_strs.specs.declared.error.StrErr.{StrErr}
use Rattle.pt_strs.specs.declared.error.StrErr.TheVariants as strs
use Rattle.pt_strs.specs.Answer.{length_limit, within}
use Rattle.pt_strs.specs.Join.{copies, joined}
use Rattle.pt_strs.specs.Slice.{behind, bound, place, sliced}
use Rattle.pt_formats.specs.declared.value.FormatValue.{FormatValue}
use Rattle.pt_formats.specs.declared.value.FormatValue.TheVariants as field
use Rattle.pt_formats.specs.Layout as format
use Rattle.pt_formats.specs.Spec as spec
use Rattle.pt_heap.specs.declared.dict.DictErr.{DictErr}
use Rattle.pt_heap.specs.declared.value.Value.{Value}
use Rattle.pt_heap.specs.declared.value.Value.TheVariants as value
use Rattle.pt_heap.specs.declared.object.Object.{Object}
use Rattle.pt_heap.specs.declared.object.Object.TheVariants as object
use Rattle.pt_heap.specs.declared.object.Part.{Part}
use Rattle.pt_heap.specs.declared.object.Part.TheVariants as part
use Rattle.pt_heap.specs.declared.object.Range.{Range}
use Rattle.pt_heap.specs.declared.object.Slice.{Slice}
use Rattle.pt_heap.specs.Entries.{Entry, found, put}
use Rattle.pt_heap.specs.Limits.{entry_limit}
use Rattle.pt_content.specs.pt_attrs.Look.{object_of}
use Rattle.pt_content.specs.pt_attrs.pt_dicts.Combine.{combined, limited}
use Rattle.pt_content.specs.pt_attrs.pt_dicts.Keys as keys
use Rattle.pt_content.specs.pt_attrs.pt_dicts.Keys.{coded, key_value, truth}
use Rattle.pt_content.specs.pt_attrs.pt_dicts.declared.key.KeyErr.{KeyErr}
use Rattle.pt_content.specs.pt_attrs.pt_dicts.declared.key.KeyErr.TheVariants as refused
use Rattle.pt_content.specs.declared.answer.Helper.{Helper}
use Rattle.pt_content.specs.declared.answer.Helper.TheVariants as helper
use Rattle.pt_content.specs.declared.op.Op.{Op}
use Rattle.pt_content.specs.declared.op.Op.TheVariants as op
use Rattle.pt_content.specs.declared.operand.Operand.{Operand}
use Rattle.pt_content.specs.declared.operand.Operand.TheVariants as operand
use Rattle.pt_content.specs.declared.content.Change.{Change}
use Rattle.pt_content.specs.declared.content.Content.{Content}
use Rattle.pt_content.specs.declared.content.Content.TheVariants as content
use Rattle.pt_content.specs.declared.content.NewObject.{NewObject}
use Rattle.pt_content.specs.declared.content.NewObject.TheVariants as new
use Rattle.pt_content.specs.Changes.{added, changed, has_room, made, replaced}
use Rattle.pt_content.specs.Operands.{operand_of, text_of}
use Rattle.pt_reprs.specs.declared.writer.WriteErr.{WriteErr}
use Rattle.pt_reprs.specs.declared.writer.WriteErr.TheVariants as write
use Rattle.pt_reprs.specs.Pieces.{written}
use Rattle.pt_reprs.specs.Reached.{need_help, needs_help}
use Rattle.pt_reprs.specs.Reprs.{depth_limit, repr_pieces}
use Rattle.pt_reprs.specs.Shown.{shown}
use Rattle.pt_reprs.specs.Texts.{by_text, new_text, repr_content, str_by, str_pieces, text_content}
use Rattle.pt_prims.specs.pt_methods.pt_fields.Fields.{converted, format_by, format_content, format_if, laid_content, laid_out, laid_text, specified}
use Rattle.pt_prims.specs.pt_methods.pt_text_operations.Answers as text
use Rattle.pt_prims.specs.pt_methods.pt_text_operations.Bounds.{bounds_of}
use Rattle.pt_prims.specs.pt_methods.pt_text_operations.Picked.{exact_range, picked, range_strided, standing, standing_before, step_by, stride_of}
use Rattle.pt_prims.specs.pt_methods.pt_text_operations.Slices.{sliced_by, sliced_if, sliced_in, subscript_by}
use Rattle.pt_prims.specs.pt_methods.pt_text_operations.declared.bounds.Bounds.{Bounds}
use Rattle.pt_prims.specs.pt_methods.pt_text_operations.declared.place.Stride.{Stride}
use Rattle.pt_prims.specs.pt_methods.pt_text_operations.declared.place.Stride.TheVariants as stride
use Rattle.pt_prims.specs.pt_methods.pt_comparisons.Comparisons.{are_sequences, compared_by, comparing_helper, comparison_content, equal_by, helped_or, objects_ordered, order_by, plain_by}
use Rattle.pt_prims.specs.pt_methods.pt_comparisons.Equalities.{any_equal, bounds, equality, insides_equality, item_equality}
use Rattle.pt_prims.specs.pt_methods.pt_comparisons.Membership.{among, behind_key, contained, equality_answer, in_part, in_pairs, in_range, in_text, in_view, membership_content, pair_by, pair_in}
use Rattle.pt_prims.specs.pt_methods.pt_comparisons.Orders.{first_difference, item_order, items_order, objects_order, operands_order, order_by_difference}
use Rattle.pt_prims.specs.pt_methods.pt_comparisons.Truths.{truth_by, truth_content, turned}
use Rattle.pt_prims.specs.pt_methods.pt_comparisons.declared.equality.Equality.{Equality}
use Rattle.pt_prims.specs.pt_methods.pt_comparisons.declared.equality.Equality.TheVariants as equal
use Rattle.pt_prims.specs.pt_methods.pt_comparisons.declared.order.Difference.{Difference}
use Rattle.pt_prims.specs.pt_methods.pt_comparisons.declared.order.Difference.TheVariants as difference
use Rattle.pt_prims.specs.pt_methods.pt_views.Cursors.{dict_at}
use Rattle.pt_prims.specs.pt_methods.pt_mappings.declared.keyed.Keyed.{Keyed}
use Rattle.pt_prims.specs.pt_methods.pt_mappings.declared.keyed.Keyed.TheVariants as keyed
use Rattle.pt_prims.specs.pt_methods.pt_mappings.Keyed.{contains_by, key_in, keyed_by, or_missing, refusal}
use Rattle.pt_prims.specs.pt_methods.pt_mappings.Entering as dictionary
use Rattle.pt_prims.specs.pt_methods.pt_mappings.Entering.{entered, entered_by}
use Rattle.pt_prims.specs.pt_methods.pt_mappings.Items.{item_by}
use Rattle.pt_prims.specs.pt_methods.pt_sets.Members as set
use Rattle.pt_prims.specs.pt_methods.pt_sets.Operators.{new_set}
use Rattle.pt_prims.specs.pt_methods.pt_sequences.Displays.{fit, list_content, repeated, repeated_list, repeated_tuple, times, tuple_content}
use Rattle.pt_prims.specs.pt_methods.pt_sequences.Items.{char_at, char_or, index_of, integer_at, item_at, item_of, item_or, place_of, unindexed, value_at}
use Rattle.pt_prims.specs.pt_methods.pt_sequences.Ranges.{range_length, range_value}
use Rattle.pt_prims.specs.pt_methods.pt_sequences.declared.item.Index.{Index}
use Rattle.pt_prims.specs.pt_methods.pt_sequences.declared.item.Index.TheVariants as index
use Rattle.pt_prims.specs.Arithmetic.{binary_by, binary_content, integer_content, truth_binary, truths_binary, unary_by}
use Rattle.pt_prims.specs.Operations.{content_of, content_of_few, content_of_one, content_of_three, content_of_two, grown, prim_heap}
use Rattle.pt_prims.specs.Sequences.{formatted, is_short, object_repeated, objects_added, repeated_by, repeated_text, sequences_binary, sets_combined}
use Rattle.pt_prims.specs.Subscripts.{item_in, subscript}
use Rattle.law_additions.specs.Additions.{only_adds, Grows}

abbrev pub OnlyAdds : Content → Type 0
OnlyAdds (content.Changed c a) = c.replacement ≡ None
OnlyAdds c = Unit {0}

nothing-more : (h : List Object) → Grows h h
nothing-more h = ([], sym (append-nil h))

change-adds : (c : Change) (h : List Object) → c.replacement ≡ None → Grows h (changed c h)
change-adds c h none = by (has_room c.objects h)
  where
    by : (b : Bool) → Grows h (if b then replaced c.replacement (h ++ map made c.objects) else h)
    by true = (map made c.objects, ap (λ r. replaced r (h ++ map made c.objects)) none)
    by false = nothing-more h

pub grown-adds : (c : Content) (h : List Object) → OnlyAdds c → Grows h (grown c h)
grown-adds (content.New o) h p = change-adds (added (o ∷ [])) h refl
grown-adds (content.NewValues os) h p = change-adds (added os) h refl
grown-adds (content.Raise class t) h p = change-adds (added (new.Text t ∷ [])) h refl
grown-adds (content.Changed c a) h p = change-adds c h p
grown-adds (content.Value v) h p = nothing-more h
grown-adds (content.Help helper inverted) h p = nothing-more h
grown-adds (content.Print t) h p = nothing-more h
grown-adds (content.Outside what) h p = nothing-more h

either : (b : Bool) (x y : Content) → OnlyAdds x → OnlyAdds y → OnlyAdds (if b then x else y)
either true x y p q = p
either false x y p q = q

integer-adds : (a : IntAns) → OnlyAdds (integer_content a)
integer-adds (integer.Value z) = tt
integer-adds integer.ZeroDivide = tt
integer-adds integer.NegativeShift = tt
integer-adds integer.Float = tt
integer-adds integer.Range = tt

-- what is too much leaves the profile
new-or : (b : Bool) (o : NewObject) (w : What) → OnlyAdds (if b then content.New o else content.Outside w)
new-or true o w = tt
new-or false o w = tt

list-adds : (vs : List Value) → OnlyAdds (list_content vs)
list-adds vs = new-or (nat_le (length vs) entry_limit) (new.List vs) what.Length

tuple-adds : (vs : List Value) → OnlyAdds (tuple_content vs)
tuple-adds vs = new-or (nat_le (length vs) entry_limit) (new.Tuple vs) what.Length

answered-adds : (r : Result (List ℕ) StrErr) → OnlyAdds (text.answered r)
answered-adds (Ok cs) = tt
answered-adds (Err strs.Length) = tt
answered-adds (Err strs.Format) = tt
answered-adds (Err e) = tt

-- truth
truth-adds : (h : List Object) (v : Value) (k : Operand) → OnlyAdds (truth_by h v k)
truth-adds h value.None k = tt
truth-adds h v (operand.Number z) = tt
truth-adds h v operand.Text = tt
truth-adds h v operand.Instance = tt
truth-adds h v operand.Compound = tt
truth-adds h v operand.Plain = tt

turned-adds : (c : Content) → OnlyAdds c → OnlyAdds (turned c)
turned-adds (content.Value (value.Bool b)) p = tt
turned-adds (content.Value v) p = tt
turned-adds (content.Help helper inverted) p = tt
turned-adds (content.New o) p = tt
turned-adds (content.NewValues os) p = tt
turned-adds (content.Raise class t) p = tt
turned-adds (content.Print t) p = tt
turned-adds (content.Outside w) p = tt
turned-adds (content.Changed c a) p = p

-- arithmetic
unary-adds : (o : UnOp) (h : List Object) (a : Value) (k : Operand) → OnlyAdds (unary_by o h a k)
unary-adds o h a (operand.Number x) = integer-adds (unary_answer o x)
unary-adds o h a operand.Instance = tt
unary-adds o h a k = tt

truths-adds : (o : BinOp) (a b : Bool) → OnlyAdds (truths_binary o a b)
truths-adds binary.BitAnd a b = tt
truths-adds binary.BitOr a b = tt
truths-adds binary.BitXor a b = tt
truths-adds o a b = integer-adds (binary_answer o (truth a) (truth b))

text-repeated : (z : ℤ) (t : List ℕ) → OnlyAdds (repeated_text z t)
text-repeated z t = new-or (is_short z t) (new.Text (copies (times z) t)) what.Length

list-repeated : (z : ℤ) (vs : List Value) → OnlyAdds (repeated_list z vs)
list-repeated z vs = new-or (fit z vs) (new.List (repeated (times z) vs)) what.Length

tuple-repeated : (z : ℤ) (vs : List Value) → OnlyAdds (repeated_tuple z vs)
tuple-repeated z vs = new-or (fit z vs) (new.Tuple (repeated (times z) vs)) what.Length

sum-adds : (h : List Object) (a b : Value) (o p : Option Object) → OnlyAdds (objects_added h a b o p)
sum-adds h a b (Some (object.Str s)) (Some (object.Str t)) = new-or (nat_le (length (chars s) + length (chars t)) length_limit) (new.Text (s ++ t)) what.Length
sum-adds h a b (Some (object.List vs)) (Some (object.List ws)) = list-adds (vs ++ ws)
sum-adds h a b (Some (object.Tuple vs)) (Some (object.Tuple ws)) = tuple-adds (vs ++ ws)
sum-adds h a b o p = tt

object-repeated : (h : List Object) (a b : Value) (z : ℤ) (o : Option Object) → OnlyAdds (object_repeated h a b z o)
object-repeated h a b z (Some (object.Str t)) = text-repeated z t
object-repeated h a b z (Some (object.List vs)) = list-repeated z vs
object-repeated h a b z (Some (object.Tuple vs)) = tuple-repeated z vs
object-repeated h a b z o = tt

product-adds : (h : List Object) (a b : Value) (k l : Operand) → OnlyAdds (repeated_by h a b k l)
product-adds h a b (operand.Number z) l = object-repeated h a b z (object_of h b)
product-adds h a b k (operand.Number z) = object-repeated h a b z (object_of h a)
product-adds h a b k l = tt

formatted-adds : (h : List Object) (a b : Value) (o : Option Object) → OnlyAdds (formatted h a b o)
formatted-adds h a b (Some (object.Str t)) = tt
formatted-adds h a b o = tt

new_set-adds : (r : Result (List Entry) DictErr) → OnlyAdds (new_set r)
new_set-adds (Ok es) = tt
new_set-adds (Err e) = tt

sets-adds : (o : BinOp) (h : List Object) (a b : Value) (p q : Option Object) → OnlyAdds (sets_combined o h a b p q)
sets-adds o h a b (Some (object.Set es)) (Some (object.Set fs)) = new_set-adds (limited (combined o es fs))
sets-adds o h a b p q = tt

sequences-add : (o : BinOp) (h : List Object) (a b : Value) → OnlyAdds (sequences_binary o h a b)
sequences-add binary.Add h a b = sum-adds h a b (object_of h a) (object_of h b)
sequences-add binary.Mul h a b = product-adds h a b (operand_of h a) (operand_of h b)
sequences-add binary.Mod h a b = formatted-adds h a b (object_of h a)
sequences-add binary.Sub h a b = sets-adds binary.Sub h a b (object_of h a) (object_of h b)
sequences-add binary.BitAnd h a b = sets-adds binary.BitAnd h a b (object_of h a) (object_of h b)
sequences-add binary.BitOr h a b = sets-adds binary.BitOr h a b (object_of h a) (object_of h b)
sequences-add binary.BitXor h a b = sets-adds binary.BitXor h a b (object_of h a) (object_of h b)
sequences-add o h a b = tt

operands-add : (o : BinOp) (h : List Object) (a b : Value) (k l : Operand) → OnlyAdds (binary_by o h a b k l)
operands-add o h a b operand.Instance l = tt
operands-add o h a b k operand.Instance = tt
operands-add o h a b (operand.Number x) (operand.Number y) = integer-adds (binary_answer o x y)
operands-add o h a b k l = sequences-add o h a b

truth-and-operand : (o : BinOp) (h : List Object) (a : Bool) (b : Value) → OnlyAdds (truth_binary o h a b)
truth-and-operand o h a (value.Bool b) = truths-adds o a b
truth-and-operand o h a b = operands-add o h (value.Bool a) b (operand_of h (value.Bool a)) (operand_of h b)

binary-adds : (o : BinOp) (h : List Object) (a b : Value) → OnlyAdds (binary_content o h a b)
binary-adds o h (value.Bool a) b = truth-and-operand o h a b
binary-adds o h a b = operands-add o h a b (operand_of h a) (operand_of h b)

-- keys
refusal-adds : (h : List Object) (e : KeyErr) → OnlyAdds (refusal h e)
refusal-adds h (refused.Unhashable c) = tt
refusal-adds h (refused.UserHash c) = tt
refusal-adds h refused.Deep = tt
refusal-adds h refused.Memory = tt

abbrev KeyAdds : Keyed → Type 0
KeyAdds (keyed.Key k) = Unit {0}
KeyAdds (keyed.Refused c) = OnlyAdds c

keyed-adds : (h : List Object) (r : Result (List ℕ) KeyErr) → KeyAdds (keyed_by h r)
keyed-adds h (Ok k) = tt
keyed-adds h (Err e) = refusal-adds h e

key-adds : (h : List Object) (v : Value) → KeyAdds (key_in h v)
key-adds h v = keyed-adds h (coded (key_value h keys.depth_limit v))

contains-adds : (es : List Entry) (k : Keyed) → KeyAdds k → OnlyAdds (contains_by es k)
contains-adds es (keyed.Key k) p = tt
contains-adds es (keyed.Refused c) p = p

-- comparisons
equality-adds : (e : Equality) → OnlyAdds (equality_answer e)
equality-adds (equal.Told b) = tt
equality-adds equal.Deep = tt
equality-adds equal.Feature = tt

helped-adds : (o : Option Helper) (h : List Object) (a b : Value) → OnlyAdds (helped_or o h a b)
helped-adds (Some helper) h a b = either (need_help h (a ∷ b ∷ [])) (content.Help helper false) (equality_answer (equality h a b)) tt (equality-adds (equality h a b))
helped-adds None h a b = equality-adds (equality h a b)

equal-adds : (h : List Object) (a b : Value) (k l : Operand) → OnlyAdds (equal_by h a b k l)
equal-adds h a b (operand.Number x) (operand.Number y) = tt
equal-adds h a b k l = helped-adds (comparing_helper (object_of h a) (object_of h b)) h a b

module _ (o : CompareOp) (h : List Object) where
  abbrev ItemsAdd : (List Value → List Value → Content) → Type 0
  ItemsAdd items = (vs ws : List Value) → OnlyAdds (items vs ws)

  objects-ordered : (items : List Value → List Value → Content) → ItemsAdd items → (a b : Value) (p q : Option Object) → OnlyAdds (objects_order o items h a b p q)
  objects-ordered items add a b (Some (object.Str s)) (Some (object.Str t)) = tt
  objects-ordered items add a b (Some (object.List vs)) (Some (object.List ws)) = add vs ws
  objects-ordered items add a b (Some (object.Tuple vs)) (Some (object.Tuple ws)) = add vs ws
  objects-ordered items add a b (Some (object.Slice s)) (Some (object.Slice t)) = add (bounds s) (bounds t)
  objects-ordered items add a b p q = tt

  operands-ordered : (items : List Value → List Value → Content) → ItemsAdd items → (a b : Value) (k l : Operand) → OnlyAdds (operands_order o items h a b k l)
  operands-ordered items add a b (operand.Number x) (operand.Number y) = tt
  operands-ordered items add a b k l = objects-ordered items add a b (object_of h a) (object_of h b)

  by-difference : (item : Value → Value → Content) → ((v w : Value) → OnlyAdds (item v w)) → (vs ws : List Value) (d : Difference) → OnlyAdds (order_by_difference o item vs ws d)
  by-difference item add vs ws (difference.At v w) = add v w
  by-difference item add vs ws difference.Nowhere = tt
  by-difference item add vs ws (difference.Untold e) = equality-adds e

  items-ordered : (depth : ℕ) (vs ws : List Value) → OnlyAdds (items_order o h depth vs ws)
  unfolding items_order
  items-ordered zero vs ws = tt
  items-ordered (suc depth) vs ws =
      by-difference (item_order o (items_order o h depth) h)
      (λ v w. operands-ordered (items_order o h depth) (items-ordered depth) v w (operand_of h v) (operand_of h w)) vs ws
      (first_difference (item_equality (insides_equality h depth) h) vs ws)

  objects-compared : (a b : Value) → OnlyAdds (objects_ordered o h a b)
  objects-compared a b =
      either (are_sequences (object_of h a) (object_of h b) && need_help h (a ∷ b ∷ [])) (content.Outside what.Feature) (item_order o (items_order o h depth_limit) h a b) tt
      (operands-ordered (items_order o h depth_limit) (items-ordered depth_limit) a b (operand_of h a) (operand_of h b))

  order-adds : (a b : Value) (k l : Operand) → OnlyAdds (order_by o h a b k l)
  order-adds a b (operand.Number x) (operand.Number y) = tt
  order-adds a b k l = objects-compared a b

plain-adds : (o : CompareOp) (h : List Object) (a b : Value) (k l : Operand) → OnlyAdds (plain_by o h a b k l)
plain-adds compare.Equal h a b k l = equal-adds h a b k l
plain-adds compare.NotEqual h a b k l = turned-adds (equal_by h a b k l) (equal-adds h a b k l)
plain-adds o h a b k l = order-adds o h a b k l

compared-adds : (o : CompareOp) (h : List Object) (a b : Value) (k l : Operand) → OnlyAdds (compared_by o h a b k l)
compared-adds o h a b operand.Instance l = tt
compared-adds o h a b k operand.Instance = tt
compared-adds o h a b k l = plain-adds o h a b k l

-- membership
text-in : (p : Option (List ℕ)) (t : List ℕ) → OnlyAdds (in_text p t)
text-in (Some s) t = tt
text-in None t = tt

range-in : (k : Operand) (r : Range) → OnlyAdds (in_range k r)
range-in (operand.Number z) r = tt
range-in operand.Instance r = tt
range-in k r = tt

among-adds : (h : List Object) (a b : Value) (vs : List Value) → OnlyAdds (among h a b vs)
among-adds h a b vs = either (need_help h (a ∷ b ∷ [])) (content.Help helper.InOf false) (equality_answer (any_equal h a vs)) tt (equality-adds (any_equal h a vs))

behind-key : (h : List Object) (v : Value) (o : Option Value) → OnlyAdds (behind_key h v o)
behind-key h v (Some w) = equality-adds (equality h w v)
behind-key h v None = tt

pair-adds : (h : List Object) (es : List Entry) (v : Value) (k : Keyed) → KeyAdds k → OnlyAdds (pair_by h es v k)
pair-adds h es v (keyed.Key k) p = behind-key h v (found k es)
pair-adds h es v (keyed.Refused c) p = p

pairs-add : (h : List Object) (es : List Entry) (o : Option (Value × Value)) → OnlyAdds (in_pairs h es o)
pairs-add h es (Some (k, v)) = pair-adds h es v (key_in h k) (key-adds h k)
pairs-add h es None = tt

part-adds : (h : List Object) (a : Value) (p : Part) (es : List Entry) → OnlyAdds (in_part h a p es)
part-adds h a part.Keys es = contains-adds es (key_in h a) (key-adds h a)
part-adds h a part.Values es = equality-adds (any_equal h a (shown part.Values es))
part-adds h a part.Items es = pairs-add h es (pair_in (object_of h a))

view-adds : (h : List Object) (a : Value) (p : Part) (o : Option (List Entry)) → OnlyAdds (in_view h a p o)
view-adds h a p (Some es) = either (need_help h (a ∷ shown p es)) (content.Help helper.InOf false) (in_part h a p es) tt (part-adds h a p es)
view-adds h a p None = tt

set-adds : (h : List Object) (es : List Entry) (v : Value) (o : Option Object) → OnlyAdds (set.among_by es (set.sought_in h v o))
set-adds h es v (Some (object.Set fs)) = tt
set-adds h es v o = contains-adds es (key_in h v) (key-adds h v)

contained-adds : (h : List Object) (a b : Value) (o : Option Object) → OnlyAdds (contained h a b o)
contained-adds h a b (Some (object.Str t)) = text-in (text_of h a) t
contained-adds h a b (Some (object.Range r)) = range-in (operand_of h a) r
contained-adds h a b (Some (object.List vs)) = among-adds h a b vs
contained-adds h a b (Some (object.Tuple vs)) = among-adds h a b vs
contained-adds h a b (Some (object.Dict es)) = contains-adds es (key_in h a) (key-adds h a)
contained-adds h a b (Some (object.Set es)) = set-adds h es a (object_of h a)
contained-adds h a b (Some (object.View v)) = view-adds h a v.part (dict_at h v.dict)
contained-adds h a b o = tt

comparison-adds : (o : CompareOp) (h : List Object) (a b : Value) → OnlyAdds (comparison_content o h a b)
comparison-adds compare.In h a b = contained-adds h a b (object_of h b)
comparison-adds compare.NotIn h a b = turned-adds (membership_content h a b) (contained-adds h a b (object_of h b))
comparison-adds compare.Is h a b = tt
comparison-adds compare.IsNot h a b = tt
comparison-adds o h a b = compared-adds o h a b (operand_of h a) (operand_of h b)

-- subscripts
found-adds : (v : Value) (o : Option Value) → OnlyAdds (or_missing v o)
found-adds v (Some w) = tt
found-adds v None = refl

entry-adds : (es : List Entry) (v : Value) (k : Keyed) → KeyAdds k → OnlyAdds (item_by es v k)
entry-adds es v (keyed.Key k) p = found-adds v (found k es)
entry-adds es v (keyed.Refused c) p = p

item-adds : (o : Option Value) → OnlyAdds (item_or o)
item-adds (Some v) = tt
item-adds None = tt

value-adds : (vs : List Value) (o : Option ℕ) → OnlyAdds (value_at vs o)
value-adds vs (Some i) = item-adds (slice_get vs i)
value-adds vs None = tt

integer-at : (r : Range) (o : Option ℕ) → OnlyAdds (integer_at r o)
integer-at r (Some i) = item-adds (range_value r i)
integer-at r None = tt

char-adds : (o : Option ℕ) → OnlyAdds (char_or o)
char-adds (Some c) = tt
char-adds None = tt

char-at : (cs : List ℕ) (o : Option ℕ) → OnlyAdds (char_at cs o)
char-at cs (Some i) = char-adds (slice_get cs i)
char-at cs None = tt

numbered : (h : List Object) (v : Value) (z : ℤ) (o : Option Object) → OnlyAdds (item_at h v z o)
numbered h v z (Some (object.List vs)) = value-adds vs (place_of (length vs) z)
numbered h v z (Some (object.Tuple vs)) = value-adds vs (place_of (length vs) z)
numbered h v z (Some (object.Range r)) = integer-at r (place_of (range_length r) z)
numbered h v z (Some (object.Str t)) = char-at (chars t) (place_of (length (chars t)) z)
numbered h v z (Some (object.Dict es)) = tt
numbered h v z o = tt

unindexed-adds : (h : List Object) (v : Value) (o : Option Object) → OnlyAdds (unindexed h v o)
unindexed-adds h v (Some (object.List vs)) = tt
unindexed-adds h v (Some (object.Tuple vs)) = tt
unindexed-adds h v (Some (object.Range r)) = tt
unindexed-adds h v (Some (object.Str t)) = tt
unindexed-adds h v (Some (object.Dict es)) = tt
unindexed-adds h v o = tt

indexed : (h : List Object) (v : Value) (i : Index) (o : Option Object) → OnlyAdds (item_of h v i o)
indexed h v (index.Number z) o = numbered h v z o
indexed h v index.Slice o = tt
indexed h v index.Other o = unindexed-adds h v o

exact-adds : (a b s : Option ℤ) → OnlyAdds (exact_range a b s)
exact-adds (Some a) (Some b) (Some s) = tt
exact-adds a b s = tt

strided-adds : (s : Stride) (b : Bounds) (n : ℕ) (r : Range) → OnlyAdds (range_strided s b n r)
strided-adds (stride.Forward k) b n r = exact-adds (standing r (bound (place n) 0 b.start)) (standing r (bound (place n) n b.stop)) (step_by b.step r)
strided-adds (stride.Back k) b n r = exact-adds (standing_before r (bound (behind n) n b.start)) (standing_before r (bound (behind n) 0 b.stop)) (step_by b.step r)

sliced-adds : (h : List Object) (v : Value) (b : Bounds) (o : Option Object) → OnlyAdds (sliced_by h v b o)
sliced-adds h v b (Some (object.Str t)) = answered-adds (within (sliced b.start b.stop b.step (chars t)))
sliced-adds h v b (Some (object.List vs)) = list-adds (picked b vs)
sliced-adds h v b (Some (object.Tuple vs)) = tuple-adds (picked b vs)
sliced-adds h v b (Some (object.Range r)) = strided-adds (stride_of b.step) b (range_length r) r
sliced-adds h v b o = unindexed-adds h v o

bounds-add : (h : List Object) (v : Value) (r : Result Bounds ObjId) → OnlyAdds (sliced_if h v r)
bounds-add h v (Ok b) = sliced-adds h v b (object_of h v)
bounds-add h v (Err class) = tt

slice-adds : (h : List Object) (v : Value) (s : Slice) (o : Option Object) → OnlyAdds (sliced_in h v s o)
slice-adds h v s (Some (object.Str t)) = bounds-add h v (bounds_of h s)
slice-adds h v s (Some (object.List vs)) = bounds-add h v (bounds_of h s)
slice-adds h v s (Some (object.Tuple vs)) = bounds-add h v (bounds_of h s)
slice-adds h v s (Some (object.Range r)) = bounds-add h v (bounds_of h s)
slice-adds h v s o = unindexed-adds h v o

by-index : (h : List Object) (v i : Value) (o : Option Object) → OnlyAdds (subscript_by h v i o)
by-index h v i (Some (object.Slice s)) = slice-adds h v s (object_of h v)
by-index h v i o = indexed h v (index_of h i) (object_of h v)

in-container : (h : List Object) (a i : Value) (o : Option Object) → OnlyAdds (item_in h a i o)
in-container h a i (Some (object.Dict es)) = entry-adds es i (key_in h i) (key-adds h i)
in-container h a i o = by-index h a i (object_of h i)

-- displays
abbrev EntriesAdd : Result (List Entry) Content → Type 0
EntriesAdd (Ok es) = Unit {0}
EntriesAdd (Err c) = OnlyAdds c

room-adds : (b : Bool) (es : List Entry) → EntriesAdd (if b then Ok es else Err (content.Outside what.Length))
room-adds true es = tt
room-adds false es = tt

keyed-entry : (v w : Value) (es : List Entry) (k : Keyed) → KeyAdds k → EntriesAdd (entered_by v w es k)
keyed-entry v w es (keyed.Key k) p = room-adds (dictionary.has_room k es) (put k v w es)
keyed-entry v w es (keyed.Refused c) p = p

entered-adds : (h : List Object) (v w : Value) (es : List Entry) → EntriesAdd (entered h v w es)
entered-adds h v w es = keyed-entry v w es (key_in h v) (key-adds h v)

set-displayed : (h : List Object) (vs : List Value) (r : Result (List Entry) Content) → EntriesAdd r → OnlyAdds (set.displayed h r vs)
set-displayed h [] (Ok es) p = tt
set-displayed h [] (Err c) p = p
set-displayed h (v ∷ vs) (Ok es) p = set-displayed h vs (entered h v value.None es) (entered-adds h v value.None es)
set-displayed h (v ∷ vs) (Err c) p = p

dictionary-displayed : (h : List Object) (vs : List Value) (r : Result (List Entry) Content) → EntriesAdd r → OnlyAdds (dictionary.displayed h r vs)
dictionary-displayed h [] (Ok es) p = tt
dictionary-displayed h [] (Err c) p = p
dictionary-displayed h (v ∷ []) (Ok es) p = tt
dictionary-displayed h (v ∷ []) (Err c) p = p
dictionary-displayed h (v ∷ w ∷ vs) (Ok es) p = dictionary-displayed h vs (entered h v w es) (entered-adds h v w es)
dictionary-displayed h (v ∷ w ∷ vs) (Err c) p = p

-- texts
written-adds : (r : Result (List ℕ) WriteErr) → OnlyAdds (by_text new_text r)
written-adds (Ok t) = tt
written-adds (Err write.Deep) = tt
written-adds (Err write.Length) = tt
written-adds (Err write.Feature) = tt

repr-adds : (h : List Object) (v : Value) → OnlyAdds (repr_content h v)
repr-adds h v = either (needs_help h v) (content.Help helper.ReprOf false) (text_content (repr_pieces h v)) tt (written-adds (written length_limit (repr_pieces h v)))

str-adds : (h : List Object) (v : Value) (o : Option (List ℕ)) → OnlyAdds (str_by h v o)
str-adds h v (Some t) = tt
str-adds h v None = either (needs_help h v) (content.Help helper.StrOf false) (text_content (str_pieces h v)) tt (written-adds (written length_limit (str_pieces h v)))

converted-adds : (c : Option Conversion) (h : List Object) (v : Value) → OnlyAdds (converted c h v)
converted-adds (Some conversion.Repr) h v = repr-adds h v
converted-adds c h v = str-adds h v (text_of h v)

laid_out-adds : (s : List ℕ) (v : FormatValue) → OnlyAdds (laid_out s v)
laid_out-adds s v = answered-adds (format.formatted v (spec.spec_of (chars s)))

laid_text-adds : (s : List ℕ) (o : Option (List ℕ)) (c : Content) → OnlyAdds c → OnlyAdds (laid_text s o c)
laid_text-adds s (Some t) c p = laid_out-adds s (field.Str t)
laid_text-adds s None c p = p

laid_content-adds : (h : List Object) (s : List ℕ) (c : Content) → OnlyAdds c → OnlyAdds (laid_content h s c)
laid_content-adds h s (content.Value v) p = laid_text-adds s (text_of h v) (content.Value v) p
laid_content-adds h s (content.New (new.Text t)) p = laid_out-adds s (field.Str t)
laid_content-adds h s (content.New o) p = tt
laid_content-adds h s (content.NewValues os) p = tt
laid_content-adds h s (content.Raise class t) p = tt
laid_content-adds h s (content.Help helper inverted) p = tt
laid_content-adds h s (content.Print t) p = tt
laid_content-adds h s (content.Outside w) p = tt
laid_content-adds h s (content.Changed c a) p = p

specified-adds : (c : Option Conversion) (h : List Object) (v : Value) (s : List ℕ) (k : Operand) → OnlyAdds (specified c h v s k)
specified-adds None h v s (operand.Number z) = laid_out-adds s (field.Int z)
specified-adds c h v s k = laid_content-adds h s (converted c h v) (converted-adds c h v)

format-by : (c : Option Conversion) (h : List Object) (v : Value) (s : List ℕ) → OnlyAdds (format_by c h v s)
format-by c h v [] = converted-adds c h v
format-by c h v (x ∷ s) = specified-adds c h v (x ∷ s) (operand_of h v)

format-if : (c : Option Conversion) (h : List Object) (v : Value) (o : Option (List ℕ)) → OnlyAdds (format_if c h v o)
format-if c h v (Some s) = format-by c h v s
format-if c h v None = tt

format-adds : (c : Option Conversion) (h : List Object) (v s : Value) → OnlyAdds (format_content c h v s)
format-adds c h v value.None = converted-adds c h v
format-adds c h v s = format-if c h v (text_of h s)

joined-adds : (sep : List ℕ) (o : Option (List (List ℕ))) → OnlyAdds (text.joined_by sep o)
joined-adds sep (Some ts) = answered-adds (within (joined (chars sep) (map chars ts)))
joined-adds sep None = tt

-- operations by their number of operands
one-adds : (o : Op) (a : Value) (h : List Object) → only_adds o ≡ true → OnlyAdds (content_of_one o a h)
one-adds op.Truth a h p = truth-adds h a (operand_of h a)
one-adds op.Not a h p = turned-adds (truth_content h a) (truth-adds h a (operand_of h a))
one-adds (op.Unary o) a h p = unary-adds o h a (operand_of h a)
one-adds op.Iter a h p = absurd (false≢true p)
one-adds op.Next a h p = absurd (false≢true p)
one-adds (op.Unpack n) a h p = absurd (false≢true p)
one-adds (op.UnpackStar n m) a h p = absurd (false≢true p)
one-adds op.SpreadOut a h p = absurd (false≢true p)
one-adds op.SpreadNamed a h p = absurd (false≢true p)
one-adds o a h p = tt

two-adds : (o : Op) (a b : Value) (h : List Object) → only_adds o ≡ true → OnlyAdds (content_of_two o a b h)
two-adds (op.Binary o) a b h p = binary-adds o h a b
two-adds (op.Compare o) a b h p = comparison-adds o h a b
two-adds op.Item a b h p = in-container h a b (object_of h a)
two-adds (op.Format c) a b h p = format-adds c h a b
two-adds (op.InPlace o) a b h p = absurd (false≢true p)
two-adds op.DelItem a b h p = absurd (false≢true p)
two-adds op.ListAdd a b h p = absurd (false≢true p)
two-adds op.SetAdd a b h p = absurd (false≢true p)
two-adds o a b h p = tt

three-add : (o : Op) (a b c : Value) (h : List Object) → only_adds o ≡ true → OnlyAdds (content_of_three o a b c h)
three-add op.Slice a b c h p = tt
three-add op.SetItem a b c h p = absurd (false≢true p)
three-add op.DictAdd a b c h p = absurd (false≢true p)
three-add o a b c h p = tt

few-add : (o : Op) (vs : List Value) (h : List Object) → only_adds o ≡ true → OnlyAdds (content_of_few o vs h)
few-add o (a ∷ []) h p = one-adds o a h p
few-add o (a ∷ b ∷ []) h p = two-adds o a b h p
few-add o (a ∷ b ∷ c ∷ []) h p = three-add o a b c h p
few-add o [] h p = tt
few-add o (a ∷ b ∷ c ∷ d ∷ vs) h p = tt

content-adds : (o : Op) (vs : List Value) (h : List Object) → only_adds o ≡ true → OnlyAdds (content_of o vs h)
content-adds op.Tuple vs h p = tuple-adds vs
content-adds op.List vs h p = list-adds vs
content-adds op.Set vs h p = set-displayed h vs (Ok []) tt
content-adds op.Dict vs h p = dictionary-displayed h vs (Ok []) tt
content-adds op.Join vs h p = joined-adds [] (text.texts_of h vs)
content-adds (op.Call f) vs h p = absurd (false≢true p)
content-adds (op.CallMethod m) vs h p = absurd (false≢true p)
content-adds o vs h p = few-add o vs h p

pub operations-add : (o : Op) (vs : List Value) (h : List Object) → only_adds o ≡ true → Grows h (prim_heap o vs h)
operations-add o vs h p = grown-adds (content_of o vs h) h (content-adds o vs h p)
