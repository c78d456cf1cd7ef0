-- What operations give of values of a sound heap lies there: what they make of what they are given, and classes of the start.
use Rattle.std.proofs.Common.{◌≡◌, ◌+◌, ℕ, zero, suc, ℤ, pos, negsuc, Bool, true, false, ◌&&◌, List, [], ◌∷◌, ◌++◌, Option, None, Some, Result, Ok, Err, length, map, set, codes, nat_le, slice_get, if◌then◌else◌, refl, subst, arith}
use Rattle.std.specs.Prelude.{◌||◌, is_some, nat_lt}
use Rattle.std.specs.Char.{encode_utf8}
use Rattle.std.specs.List.{remove}
use Rattle.std.specs.Str.{chars}
use Rattle.std.proofs.lemmas.List.{length-append}
use Rattle.pt_base.specs.declared.numbers.ObjId.{ObjId}
use Rattle.pt_base.specs.declared.operators.BinOp.{BinOp}
use Rattle.pt_base.specs.declared.operators.BinOp.TheVariants as binary
use Rattle.pt_base.specs.declared.operators.UnOp.{UnOp}
use Rattle.pt_base.specs.declared.operators.CompareOp.{CompareOp}
use Rattle.pt_base.specs.declared.operators.CompareOp.TheVariants as comparison
use Rattle.pt_base.specs.declared.what.What.TheVariants as what
use Rattle.pt_ints.specs.declared.answer.IntAns.{IntAns}
use Rattle.pt_ints.specs.declared.answer.IntAns.TheVariants as integer
use Rattle.pt_ints.specs.Answer.{binary_answer, ranged, unary_answer, is_in_range}
use Rattle.pt_content.specs.pt_attrs.pt_dicts.Keys.{truth}
use Rattle.pt_heap.specs.Limits.{entry_limit}
use Rattle.pt_heap.specs.declared.value.Value.{Value}
use Rattle.pt_heap.specs.declared.value.Value.TheVariants as value
use Rattle.pt_heap.specs.declared.object.Object.{Object}
use Rattle.pt_heap.specs.declared.object.Object.TheVariants as object
use Rattle.pt_heap.specs.declared.object.Cursor.{Cursor}
use Rattle.pt_heap.specs.declared.object.Part.{Part}
use Rattle.pt_heap.specs.declared.object.Part.TheVariants as part
use Rattle.pt_heap.specs.declared.object.Range.{Range}
use Rattle.pt_heap.specs.Sound.{place_in, place_of, IsClassAt, IsSound, IsWithin}
use Rattle.pt_builtin_objects.specs.Start.{start_objects}
use Rattle.pt_strs.specs.Answer as strs
use Rattle.pt_strs.specs.Answer.{length_limit}
use Rattle.pt_content.specs.pt_attrs.Look.{object_of}
use Rattle.pt_content.specs.declared.answer.Helper.{Helper}
use Rattle.pt_content.specs.declared.answer.Helper.TheVariants as helper
use Rattle.pt_content.specs.declared.answer.PrimAns.TheVariants as answer
use Rattle.pt_content.specs.declared.class.TheConstants.{TYPE_ERROR}
use Rattle.pt_content.specs.declared.content.Content.{Content}
use Rattle.pt_content.specs.declared.content.Content.TheVariants as content
use Rattle.pt_content.specs.declared.content.NewObject.{NewObject}
use Rattle.pt_content.specs.declared.content.NewObject.TheVariants as new
use Rattle.pt_content.specs.declared.function.Function.{Function}
use Rattle.pt_content.specs.declared.function.Function.TheVariants as function
use Rattle.pt_content.specs.declared.op.Op.{Op}
use Rattle.pt_content.specs.declared.op.Op.TheVariants as op
use Rattle.pt_content.specs.declared.operand.Operand.{Operand}
use Rattle.pt_content.specs.declared.operand.Operand.TheVariants as operand
use Rattle.pt_content.specs.Operands.{operand_of, text_of}
use Rattle.pt_methods.specs.pt_sequences.Cursors as cursors
use Rattle.pt_methods.specs.pt_sequences.Displays.{bounded, fit, list_content, repeated, repeated_list, repeated_tuple, times, tuple_content}
use Rattle.pt_methods.specs.pt_sequences.Items as items
use Rattle.pt_methods.specs.pt_sequences.Lengths.{length_by, length_of, lengthless}
use Rattle.pt_methods.specs.pt_sequences.Ranges.{range_by, range_content, range_length, range_of, range_value}
use Rattle.pt_methods.specs.pt_sequences.Starred as stars
use Rattle.pt_methods.specs.pt_sequences.Unpacking as unpacking
use Rattle.pt_methods.specs.pt_reprs.declared.writer.WriteErr.{WriteErr}
use Rattle.pt_methods.specs.pt_reprs.declared.writer.WriteErr.TheVariants as write
use Rattle.pt_methods.specs.pt_reprs.Pieces.{written, Piece}
use Rattle.pt_methods.specs.pt_reprs.Reached.{need_help, needs_help, parts_of}
use Rattle.pt_methods.specs.pt_reprs.Reprs.{depth_limit, repr_pieces}
use Rattle.pt_methods.specs.pt_reprs.Shown.{shown}
use Rattle.pt_methods.specs.pt_reprs.Texts as texts
use Rattle.pt_methods.specs.pt_comparisons.declared.equality.Equality.{Equality}
use Rattle.pt_methods.specs.pt_comparisons.declared.equality.Equality.TheVariants as equality
use Rattle.pt_prims.specs.Arithmetic.{binary_by, binary_content, integer_content, truth_binary, truths_binary, unary_by}
use Rattle.pt_prims.specs.AttributeCalls as asked
use Rattle.pt_methods.specs.declared.attribute.Attribute.{Attribute}
use Rattle.pt_methods.specs.declared.attribute.Attribute.TheVariants as attribute
use Rattle.pt_methods.specs.Attributes.{attribute_of, receiver_of}
use Rattle.pt_prims.specs.Calls as calls
use Rattle.pt_prims.specs.Classes as classes
use Rattle.pt_prims.specs.Hidden as hidden
use Rattle.pt_special_methods.specs.Containers as special
use Rattle.pt_special_methods.specs.Instances.{method_of}
use Rattle.pt_prims.specs.declared.classes.Kinship.{Kinship}
use Rattle.pt_prims.specs.declared.classes.Kinship.TheVariants as kinship
use Rattle.pt_prims.specs.IntegerTexts as texts_as_integers
use Rattle.pt_methods.specs.pt_comparisons.Comparisons as comparisons
use Rattle.pt_methods.specs.pt_comparisons.Equalities as equalities
use Rattle.pt_methods.specs.pt_comparisons.Equalities.{any_equal, equality as equality_of}
use Rattle.pt_methods.specs.pt_comparisons.declared.order.Difference.{Difference}
use Rattle.pt_methods.specs.pt_comparisons.declared.order.Difference.TheVariants as difference
use Rattle.pt_methods.specs.pt_comparisons.Orders as orders
use Rattle.pt_methods.specs.pt_comparisons.Orders.{items_order}
use Rattle.pt_prims.specs.InPlace.{extended, in_place, in_place_by, list_repeated, set_changed}
use Rattle.pt_prims.specs.Laws.{AllWithin, IsWithinIf}
use Rattle.pt_methods.specs.pt_comparisons.Membership as membership
use Rattle.pt_methods.specs.pt_comparisons.Membership.{among, contained, equality_answer, in_range, in_text}
use Rattle.pt_prims.specs.Operations.{content_of, content_of_few, content_of_one, content_of_three, content_of_two}
use Rattle.pt_prims.specs.Sequences as sequences
use Rattle.pt_prims.specs.Spreads as spreads
use Rattle.pt_prims.specs.Subscripts as subscripts
use Rattle.pt_sorting.specs.Keys.{common_kind}
use Rattle.pt_sorting.specs.Sorting.{first_fault, keyed as pairs_of, sorted, sorted_content, unless_wrong}
use Rattle.pt_tree.specs.declared.expression.Conversion.{Conversion}
use Rattle.pt_tree.specs.declared.expression.Conversion.TheVariants as conversion
use Rattle.pt_heap.specs.declared.object.Slice.{Slice}
use Rattle.pt_strs.specs.Slice.{behind, bound, place, sliced}
use Rattle.pt_formats.specs.declared.value.FormatValue.{FormatValue}
use Rattle.pt_formats.specs.declared.value.FormatValue.TheVariants as laid
use Rattle.pt_formats.specs.Layout.{formatted}
use Rattle.pt_formats.specs.Spec.{spec_of}
use Rattle.pt_methods.specs.pt_text_operations.declared.bounds.Bounds.{Bounds}
use Rattle.pt_methods.specs.pt_text_operations.declared.place.Stride.{Stride}
use Rattle.pt_methods.specs.pt_text_operations.declared.place.Stride.TheVariants as stride
use Rattle.pt_methods.specs.pt_text_operations.Answers as answers
use Rattle.pt_methods.specs.pt_text_operations.Bounds as bounds
use Rattle.pt_methods.specs.pt_text_operations.Picked as picks
use Rattle.pt_methods.specs.pt_text_operations.Slices as slices
use Rattle.pt_methods.specs.pt_fields.Fields as fields
use Rattle.pt_methods.specs.pt_list_changes.Changed as lists
use Rattle.pt_methods.specs.pt_list_changes.Items as list
use Rattle.pt_prims.proofs.AttributeLemmas.{attribute-within, error-arguments, receiver-within, AttributeWithin}
use Rattle.pt_prims.proofs.InstanceLemmas.{get-name-within, has-name-within, length-given-within, parts-within, refuse-within, text-given-within, truth-given-within, write-within}
use Rattle.pt_prims.proofs.ValueLists.{all-left, all-picked, all-set}
use Rattle.pt_methods.specs.pt_views.Cursors as views
use Rattle.pt_heap.specs.Entries.{Entry, found}
use Rattle.pt_methods.specs.pt_mappings.declared.keyed.Keyed.{Keyed}
use Rattle.pt_methods.specs.pt_mappings.declared.keyed.Keyed.TheVariants as keyed
use Rattle.pt_methods.specs.pt_mappings.Keyed.{key_in}
use Rattle.pt_content.specs.pt_attrs.pt_dicts.Combine.{is_set_operator}
use Rattle.pt_methods.specs.pt_sets.Operators.{combined_in_place}
use Rattle.pt_prims.proofs.EntryLemmas.{entry-at-within, AreWithin}
use Rattle.pt_prims.proofs.ContainerLemmas.{add-within, combined-content-within, delete-item-within, dict-entries, dict-item-within, dict-within, entries-below, has-item-within, has-key-within, in-place-set-within, key-within, set-entries, set-item-within, set-within, KeyedIsWithin}
use Rattle.pt_methods.specs.pt_comparisons.Truths.{truth_by, turned}
use Rattle.pt_prims.proofs.Places.{all-append, all-grow, all-repeated, below-values, both-below, class-within, none-below, object-below, one-below, one-within, start-class, value-below, values-below, within-grows, Below}
use Rattle.pt_prims.proofs.MethodLemmas.{answered-within, joined-within, method-within}
use Rattle.pt_prims.proofs.SortLemmas.{fault-within, sorted-within, FaultIsWithin}
use Rattle.pt_prims.proofs.SoundLemmas.{IsWithinHeap, NewAreWithin}
use Rattle.pt_prims.proofs.StarLemmas.{starred-items-within}
use Rattle.pt_prims.proofs.UnpackLemmas.{integers-within, range-value-within, unpack-star-within, unpack-within}

-- the characters of a text, each as a text
chars-within : (h : List Object) (cs : List ℕ) → NewAreWithin h (unpacking.char_texts cs)
chars-within h [] = tt
chars-within h (c ∷ cs) = (none-below (length h), chars-within (h ++ object.Str (encode_utf8 c) ∷ []) cs)

-- numbers and truth values
integer-within : (h : List Object) (a : IntAns) → IsWithinHeap h (integer_content a)
integer-within h (integer.Value z) = tt
integer-within h integer.ZeroDivide = (_, refl)
integer-within h integer.NegativeShift = (_, refl)
integer-within h integer.Float = tt
integer-within h integer.Range = tt

truths-within : (h : List Object) (o : BinOp) (a b : Bool) → IsWithinHeap h (truths_binary o a b)
truths-within h binary.BitAnd a b = tt
truths-within h binary.BitOr a b = tt
truths-within h binary.BitXor a b = tt
truths-within h o a b = integer-within h (binary_answer o (truth a) (truth b))

unary-within : (o : UnOp) (h : List Object) (a : Value) (k : Operand) → IsWithinHeap h (unary_by o h a k)
unary-within o h a (operand.Number x) = integer-within h (unary_answer o x)
unary-within o h a operand.Text = (_, refl)
unary-within o h a operand.Instance = (_, refl)
unary-within o h a operand.Compound = (_, refl)
unary-within o h a operand.Plain = (_, refl)

truth-within : (h : List Object) (v : Value) (k : Operand) → IsWithinHeap h (truth_by h v k)
truth-within h value.None k = tt
truth-within h v (operand.Number z) = tt
truth-within h v operand.Text = tt
truth-within h v operand.Instance = tt
truth-within h v operand.Compound = tt
truth-within h v operand.Plain = tt

turned-within : (h : List Object) (c : Content) → IsWithinHeap h c → IsWithinHeap h (turned c)
turned-within h (content.Value (value.Bool b)) w = tt
turned-within h (content.Help k inverted) w = tt
turned-within h c w = w

-- lists, tuples and texts
bounded-within : (h : List Object) (n : ℕ) (o : NewObject) → IsWithinHeap h (content.New o) → IsWithinHeap h (bounded n o)
bounded-within h n o w = by (nat_le n entry_limit)
  where
    by : (b : Bool) → IsWithinHeap h (if b then content.New o else content.Outside what.Length)
    by true = w
    by false = tt

list-within : (h : List Object) (vs : List Value) → AllWithin h vs → IsWithinHeap h (list_content vs)
list-within h vs w = bounded-within h (length vs) (new.List vs) (values-below h vs w)

tuple-within : (h : List Object) (vs : List Value) → AllWithin h vs → IsWithinHeap h (tuple_content vs)
tuple-within h vs w = bounded-within h (length vs) (new.Tuple vs) (values-below h vs w)

text-within : (h : List Object) (t : List ℕ) (b : Bool) → IsWithinHeap h (if b then content.New (new.Text t) else content.Outside what.Length)
text-within h t true = none-below (length h)
text-within h t false = tt

repeated-list-within : (h : List Object) (z : ℤ) (vs : List Value) → AllWithin h vs → IsWithinHeap h (repeated_list z vs)
repeated-list-within h z vs w = by (fit z vs)
  where
    by : (b : Bool) → IsWithinHeap h (if b then content.New (new.List (repeated (times z) vs)) else content.Outside what.Length)
    by true = values-below h (repeated (times z) vs) (all-repeated h (times z) vs w)
    by false = tt

repeated-tuple-within : (h : List Object) (z : ℤ) (vs : List Value) → AllWithin h vs → IsWithinHeap h (repeated_tuple z vs)
repeated-tuple-within h z vs w = by (fit z vs)
  where
    by : (b : Bool) → IsWithinHeap h (if b then content.New (new.Tuple (repeated (times z) vs)) else content.Outside what.Length)
    by true = values-below h (repeated (times z) vs) (all-repeated h (times z) vs w)
    by false = tt

module _ (h : List Object) (s : IsSound start_objects h) where
  -- the items of a list or tuple
  list-items : (v : Value) (vs : List Value) → object_of h v ≡ Some (object.List vs) → AllWithin h vs
  list-items v vs e = below-values h vs (object-below h v (object.List vs) s e)

  tuple-items : (v : Value) (vs : List Value) → object_of h v ≡ Some (object.Tuple vs) → AllWithin h vs
  tuple-items v vs e = below-values h vs (object-below h v (object.Tuple vs) s e)

  added-within : (a b : Value) (o p : Option Object) → object_of h a ≡ o → object_of h b ≡ p → IsWithinHeap h (sequences.objects_added h a b o p)
  added-within a b (Some (object.Str t)) (Some (object.Str u)) e f = text-within h (t ++ u) (nat_le (length (chars t) + length (chars u)) length_limit)
  added-within a b (Some (object.List vs)) (Some (object.List ws)) e f = list-within h (vs ++ ws) (all-append h vs ws (list-items a vs e) (list-items b ws f))
  added-within a b (Some (object.Tuple vs)) (Some (object.Tuple ws)) e f = tuple-within h (vs ++ ws) (all-append h vs ws (tuple-items a vs e) (tuple-items b ws f))
  added-within a b o p e f = (_, refl)

  object-repeated-within : (a b : Value) (z : ℤ) (v : Value) (o : Option Object) → object_of h v ≡ o → IsWithinHeap h (sequences.object_repeated h a b z o)
  object-repeated-within a b z v (Some (object.Str t)) e = text-within h _ (sequences.is_short z t)
  object-repeated-within a b z v (Some (object.List vs)) e = repeated-list-within h z vs (list-items v vs e)
  object-repeated-within a b z v (Some (object.Tuple vs)) e = repeated-tuple-within h z vs (tuple-items v vs e)
  object-repeated-within a b z v o e = (_, refl)

  repeated-within : (a b : Value) (k l : Operand) → IsWithinHeap h (sequences.repeated_by h a b k l)
  repeated-within a b (operand.Number z) l = object-repeated-within a b z b (object_of h b) refl
  repeated-within a b k (operand.Number z) = object-repeated-within a b z a (object_of h a) refl
  repeated-within a b k l = (_, refl)

  formatted-within : (a b : Value) (o : Option Object) → IsWithinHeap h (sequences.formatted h a b o)
  formatted-within a b (Some (object.Str t)) = tt
  formatted-within a b o = (_, refl)

  sets-within : (op : BinOp) (a b : Value) (o p : Option Object) → object_of h a ≡ o → object_of h b ≡ p → IsWithinHeap h (sequences.sets_combined op h a b o p)
  sets-within op a b (Some (object.Set es)) (Some (object.Set fs)) e f = combined-content-within h s op es fs (set-entries h s a es e) (set-entries h s b fs f)
  sets-within op a b o p e f = (_, refl)

  sequences-within : (op : BinOp) (a b : Value) → IsWithinHeap h (sequences.sequences_binary op h a b)
  sequences-within binary.Add a b = added-within a b (object_of h a) (object_of h b) refl refl
  sequences-within binary.Mul a b = repeated-within a b (operand_of h a) (operand_of h b)
  sequences-within binary.Mod a b = formatted-within a b (object_of h a)
  sequences-within binary.Sub a b = sets-within binary.Sub a b (object_of h a) (object_of h b) refl refl
  sequences-within binary.BitAnd a b = sets-within binary.BitAnd a b (object_of h a) (object_of h b) refl refl
  sequences-within binary.BitOr a b = sets-within binary.BitOr a b (object_of h a) (object_of h b) refl refl
  sequences-within binary.BitXor a b = sets-within binary.BitXor a b (object_of h a) (object_of h b) refl refl
  sequences-within op a b = (_, refl)

  binary-by-within : (op : BinOp) (a b : Value) (k l : Operand) → IsWithinHeap h (binary_by op h a b k l)
  binary-by-within op a b operand.Instance l = tt
  binary-by-within op a b k operand.Instance = tt
  binary-by-within op a b (operand.Number x) (operand.Number y) = integer-within h (binary_answer op x y)
  binary-by-within op a b k l = sequences-within op a b

  truth-binary-within : (op : BinOp) (a : Bool) (b : Value) → IsWithinHeap h (truth_binary op h a b)
  truth-binary-within op a (value.Bool b) = truths-within h op a b
  truth-binary-within op a b = binary-by-within op (value.Bool a) b (operand_of h (value.Bool a)) (operand_of h b)

  binary-within : (op : BinOp) (a b : Value) → IsWithinHeap h (binary_content op h a b)
  binary-within op (value.Bool a) b = truth-binary-within op a b
  binary-within op a b = binary-by-within op a b (operand_of h a) (operand_of h b)

  -- in place
  asked-within : (k : Helper) (t : List ℕ) (v : Value) (l : Operand) → IsWithinHeap h (cursors.asked_or k t h v l)
  asked-within k t v operand.Instance = tt
  asked-within k t v l = (_, refl)

  behind-nothing : (v : Value) → IsWithin h v → IsWithin (h ++ []) v
  behind-nothing v w = within-grows h (h ++ []) v (omega (arith, length-append h [])) w

  in-place-within : (a : Value) (c : Content) → IsWithin h a → IsWithinHeap h c → IsWithinHeap h (in_place a c)
  in-place-within (value.Obj id) (content.New (new.List vs)) i w = (w, tt, behind-nothing (value.Obj id) i)
  in-place-within a c i w = w

  extended-within : (a : Value) (vs : List Value) (b : Value) (o : Option Object) → IsWithin h a → AllWithin h vs → object_of h b ≡ o → IsWithinHeap h (extended h a vs b o)
  extended-within a vs b (Some (object.List ws)) i w e = in-place-within a (list_content (vs ++ ws)) i (list-within h (vs ++ ws) (all-append h vs ws w (list-items b ws e)))
  extended-within a vs b (Some (object.Tuple ws)) i w e = in-place-within a (list_content (vs ++ ws)) i (list-within h (vs ++ ws) (all-append h vs ws w (tuple-items b ws e)))
  extended-within a vs b (Some (object.Str t)) i w e = tt
  extended-within a vs b (Some (object.Range r)) i w e = tt
  extended-within a vs b (Some (object.Cursor c)) i w e = tt
  extended-within a vs b (Some (object.Dict es)) i w e = tt
  extended-within a vs b (Some (object.Set es)) i w e = tt
  extended-within a vs b (Some (object.View v)) i w e = tt
  extended-within a vs b (Some (object.Generator n)) i w e = tt
  extended-within a vs b o i w e = asked-within helper.ExtendOf (codes "iterable") b (operand_of h b)

  list-repeated-within : (a : Value) (vs : List Value) (b : Value) (k : Operand) → IsWithin h a → AllWithin h vs → IsWithinHeap h (list_repeated h a vs b k)
  list-repeated-within a vs b (operand.Number z) i w = in-place-within a (repeated_list z vs) i (repeated-list-within h z vs w)
  list-repeated-within a vs b k i w = binary-within binary.Mul a b

  set-changed-within : (op : BinOp) (a b : Value) (es : List Entry) (o : Option Object) → IsWithin h a → object_of h a ≡ Some (object.Set es) → object_of h b ≡ o → IsWithinHeap h (set_changed op h a b es o)
  set-changed-within op (value.Obj id) b es (Some (object.Set fs)) i e f = by (is_set_operator op)
    where
      by : (c : Bool) → IsWithinHeap h (if c then combined_in_place op id es fs else binary_content op h (value.Obj id) b)
      by true = in-place-set-within h s op id es fs i (set-entries h s (value.Obj id) es e) (set-entries h s b fs f)
      by false = binary-within op (value.Obj id) b
  set-changed-within op a b es o i e f = binary-within op a b

  in-place-by-within : (op : BinOp) (a b : Value) (o : Option Object) → IsWithin h a → object_of h a ≡ o → IsWithinHeap h (in_place_by op h a b o)
  in-place-by-within binary.Add a b (Some (object.List vs)) i e = extended-within a vs b (object_of h b) i (list-items a vs e) refl
  in-place-by-within binary.Mul a b (Some (object.List vs)) i e = list-repeated-within a vs b (operand_of h b) i (list-items a vs e)
  in-place-by-within op a b (Some (object.Set es)) i e = set-changed-within op a b es (object_of h b) i e refl
  in-place-by-within op a b o i e = binary-within op a b

  -- comparisons
  equality-within : (e : Equality) → IsWithinHeap h (equality_answer e)
  equality-within (equality.Told b) = tt
  equality-within equality.Deep = (_, refl)
  equality-within equality.Feature = tt

  helped-or-within : (o : Option Helper) (a b : Value) → IsWithinHeap h (comparisons.helped_or o h a b)
  helped-or-within (Some k) a b = by (need_help h (a ∷ b ∷ []))
    where
      by : (c : Bool) → IsWithinHeap h (if c then content.Help k false else equality_answer (equality_of h a b))
      by true = tt
      by false = equality-within (equality_of h a b)
  helped-or-within None a b = equality-within (equality_of h a b)

  equal-within : (a b : Value) (k l : Operand) → IsWithinHeap h (comparisons.equal_by h a b k l)
  equal-within a b (operand.Number x) (operand.Number y) = tt
  equal-within a b k l = helped-or-within (comparisons.comparing_helper (object_of h a) (object_of h b)) a b

  -- orders: what is answered of items that differ, and of what their kinds are
  difference-within : (op : CompareOp) (item : Value → Value → Content) → ((v w : Value) → IsWithinHeap h (item v w)) → (vs ws : List Value) (d : Difference)
      → IsWithinHeap h (orders.order_by_difference op item vs ws d)
  difference-within op item w vs ws (difference.At v x) = w v x
  difference-within op item w vs ws difference.Nowhere = tt
  difference-within op item w vs ws (difference.Untold e) = equality-within e

  objects-order-within : (op : CompareOp) (items : List Value → List Value → Content) → ((vs ws : List Value) → IsWithinHeap h (items vs ws)) → (a b : Value) (o p : Option Object)
      → IsWithinHeap h (orders.objects_order op items h a b o p)
  objects-order-within op items w a b (Some (object.Str t)) (Some (object.Str u)) = tt
  objects-order-within op items w a b (Some (object.List vs)) (Some (object.List ws)) = w vs ws
  objects-order-within op items w a b (Some (object.Tuple vs)) (Some (object.Tuple ws)) = w vs ws
  objects-order-within op items w a b (Some (object.Slice x)) (Some (object.Slice y)) = w (equalities.bounds x) (equalities.bounds y)
  objects-order-within op items w a b o p = (_, refl)

  operands-order-within : (op : CompareOp) (items : List Value → List Value → Content) → ((vs ws : List Value) → IsWithinHeap h (items vs ws)) → (a b : Value) (k l : Operand)
      → IsWithinHeap h (orders.operands_order op items h a b k l)
  operands-order-within op items w a b (operand.Number x) (operand.Number y) = tt
  operands-order-within op items w a b k l = objects-order-within op items w a b (object_of h a) (object_of h b)

  item-order-within : (op : CompareOp) (items : List Value → List Value → Content) → ((vs ws : List Value) → IsWithinHeap h (items vs ws)) → (a b : Value)
      → IsWithinHeap h (orders.item_order op items h a b)
  item-order-within op items w a b = operands-order-within op items w a b (operand_of h a) (operand_of h b)

  items-order-within : (op : CompareOp) (depth : ℕ) (vs ws : List Value) → IsWithinHeap h (items_order op h depth vs ws)
  unfolding items_order
  items-order-within op zero vs ws = equality-within equality.Deep
  items-order-within op (suc depth) vs ws =
      difference-within op (orders.item_order op (items_order op h depth) h) (item-order-within op (items_order op h depth) (items-order-within op depth)) vs ws
      (orders.first_difference (equalities.item_equality (equalities.insides_equality h depth) h) vs ws)

  ordered-within : (op : CompareOp) (a b : Value) → IsWithinHeap h (comparisons.objects_ordered op h a b)
  ordered-within op a b = by (comparisons.are_sequences (object_of h a) (object_of h b) && need_help h (a ∷ b ∷ []))
    where
      by : (c : Bool) → IsWithinHeap h (if c then content.Outside what.Feature else orders.item_order op (items_order op h depth_limit) h a b)
      by true = tt
      by false = item-order-within op (items_order op h depth_limit) (items-order-within op depth_limit) a b

  order-within : (op : CompareOp) (a b : Value) (k l : Operand) → IsWithinHeap h (comparisons.order_by op h a b k l)
  order-within op a b (operand.Number x) (operand.Number y) = tt
  order-within op a b k l = ordered-within op a b

  plain-within : (op : CompareOp) (a b : Value) (k l : Operand) → IsWithinHeap h (comparisons.plain_by op h a b k l)
  plain-within comparison.Equal a b k l = equal-within a b k l
  plain-within comparison.NotEqual a b k l = turned-within h (comparisons.equal_by h a b k l) (equal-within a b k l)
  plain-within op a b k l = order-within op a b k l

  compared-within : (op : CompareOp) (a b : Value) (k l : Operand) → IsWithinHeap h (comparisons.compared_by op h a b k l)
  compared-within op a b operand.Instance l = tt
  compared-within op a b k operand.Instance = tt
  compared-within op a b k l = plain-within op a b k l

  in-text-within : (o : Option (List ℕ)) (t : List ℕ) → IsWithinHeap h (in_text o t)
  in-text-within None t = (_, refl)
  in-text-within (Some u) t = tt

  in-range-within : (k : Operand) (r : Range) → IsWithinHeap h (in_range k r)
  in-range-within (operand.Number z) r = tt
  in-range-within operand.Instance r = tt
  in-range-within k r = tt

  among-within : (a b : Value) (vs : List Value) → IsWithinHeap h (among h a b vs)
  among-within a b vs = by (need_help h (a ∷ b ∷ []))
    where
      by : (c : Bool) → IsWithinHeap h (if c then content.Help helper.InOf false else equality_answer (any_equal h a vs))
      by true = tt
      by false = equality-within (any_equal h a vs)

  behind-key-within : (v : Value) (o : Option Value) → IsWithinHeap h (membership.behind_key h v o)
  behind-key-within v (Some w) = equality-within (equality_of h w v)
  behind-key-within v None = tt

  pair-within : (es : List Entry) (v : Value) (k : Keyed) → KeyedIsWithin h k → IsWithinHeap h (membership.pair_by h es v k)
  pair-within es v (keyed.Key k) w = behind-key-within v (found k es)
  pair-within es v (keyed.Refused c) w = w

  in-pairs-within : (es : List Entry) (o : Option (Value × Value)) → IsWithinHeap h (membership.in_pairs h es o)
  in-pairs-within es (Some q) = pair-within es q.1 (key_in h q.0) (key-within h q.0)
  in-pairs-within es None = tt

  in-part-within : (a : Value) (p : Part) (es : List Entry) → IsWithinHeap h (membership.in_part h a p es)
  in-part-within a part.Keys es = has-key-within h s es a
  in-part-within a part.Values es = equality-within (any_equal h a (shown part.Values es))
  in-part-within a part.Items es = in-pairs-within es (membership.pair_in (object_of h a))

  in-view-within : (a : Value) (p : Part) (o : Option (List Entry)) → IsWithinHeap h (membership.in_view h a p o)
  in-view-within a p (Some es) = by (need_help h (a ∷ shown p es))
    where
      by : (c : Bool) → IsWithinHeap h (if c then content.Help helper.InOf false else membership.in_part h a p es)
      by true = tt
      by false = in-part-within a p es
  in-view-within a p None = tt

  contained-within : (a b : Value) (o : Option Object) → IsWithinHeap h (contained h a b o)
  contained-within a b (Some (object.Str t)) = in-text-within (text_of h a) t
  contained-within a b (Some (object.Range r)) = in-range-within (operand_of h a) r
  contained-within a b (Some (object.List vs)) = among-within a b vs
  contained-within a b (Some (object.Tuple vs)) = among-within a b vs
  contained-within a b (Some (object.Dict es)) = has-key-within h s es a
  contained-within a b (Some (object.Set es)) = has-item-within h s es a
  contained-within a b (Some (object.View v)) = in-view-within a v.part (Rattle.pt_methods.specs.pt_views.Cursors.dict_at h v.dict)
  contained-within a b o = tt

  comparison-within : (op : CompareOp) (a b : Value) → IsWithinHeap h (comparisons.comparison_content op h a b)
  comparison-within comparison.In a b = contained-within a b (object_of h b)
  comparison-within comparison.NotIn a b = turned-within h (contained h a b (object_of h b)) (contained-within a b (object_of h b))
  comparison-within comparison.Is a b = tt
  comparison-within comparison.IsNot a b = tt
  comparison-within op a b = compared-within op a b (operand_of h a) (operand_of h b)

  -- items
  item-or-within : (o : Option Value) → ((v : Value) → o ≡ Some v → IsWithin h v) → IsWithinHeap h (items.item_or o)
  item-or-within None w = (_, refl)
  item-or-within (Some v) w = w v refl

  value-at-within : (vs : List Value) (o : Option ℕ) → AllWithin h vs → IsWithinHeap h (items.value_at vs o)
  value-at-within vs None w = (_, refl)
  value-at-within vs (Some i) w = item-or-within (slice_get vs i) (λ v e. one-within h vs i v e w)

  integer-at-within : (r : Range) (o : Option ℕ) → IsWithinHeap h (items.integer_at r o)
  integer-at-within r None = (_, refl)
  integer-at-within r (Some i) = item-or-within (range_value r i) (λ v e. range-value-within h r i v e)

  char-or-within : (o : Option ℕ) → IsWithinHeap h (items.char_or o)
  char-or-within None = (_, refl)
  char-or-within (Some c) = none-below (length h)

  char-at-within : (cs : List ℕ) (o : Option ℕ) → IsWithinHeap h (items.char_at cs o)
  char-at-within cs None = (_, refl)
  char-at-within cs (Some i) = char-or-within (slice_get cs i)

  item-at-within : (v : Value) (z : ℤ) (o : Option Object) → object_of h v ≡ o → IsWithinHeap h (items.item_at h v z o)
  item-at-within v z (Some (object.List vs)) e = value-at-within vs (items.place_of (length vs) z) (list-items v vs e)
  item-at-within v z (Some (object.Tuple vs)) e = value-at-within vs (items.place_of (length vs) z) (tuple-items v vs e)
  item-at-within v z (Some (object.Range r)) e = integer-at-within r (items.place_of (range_length r) z)
  item-at-within v z (Some (object.Str t)) e = char-at-within (chars t) (items.place_of (length (chars t)) z)
  item-at-within v z (Some (object.Dict es)) e = tt
  item-at-within v z o e = (_, refl)

  unindexed-within : (v : Value) (o : Option Object) → IsWithinHeap h (items.unindexed h v o)
  unindexed-within v (Some (object.List vs)) = (_, refl)
  unindexed-within v (Some (object.Tuple vs)) = (_, refl)
  unindexed-within v (Some (object.Range r)) = (_, refl)
  unindexed-within v (Some (object.Str t)) = (_, refl)
  unindexed-within v (Some (object.Dict es)) = tt
  unindexed-within v o = (_, refl)

  item-within : (v i : Value) → IsWithinHeap h (items.item_content h v i)
  item-within v i = by (items.index_of h i)
    where
      by : (x : Rattle.pt_methods.specs.pt_sequences.declared.item.Index.Index) → IsWithinHeap h (items.item_of h v x (object_of h v))
      by (Rattle.pt_methods.specs.pt_sequences.declared.item.Index.TheVariants.Number z) = item-at-within v z (object_of h v) refl
      by Rattle.pt_methods.specs.pt_sequences.declared.item.Index.TheVariants.Slice = tt
      by Rattle.pt_methods.specs.pt_sequences.declared.item.Index.TheVariants.Other = unindexed-within v (object_of h v)

  -- slices
  slice-within : (a b c : Value) → IsWithin h a → IsWithin h b → IsWithin h c → IsWithinHeap h (slices.slice_content a b c)
  slice-within a b c x y z =
      both-below (length h) (place_of a ++ place_of b) (place_of c)
      (both-below (length h) (place_of a) (place_of b) (value-below h a x) (value-below h b y)) (value-below h c z)

  exact-range-within : (a b c : Option ℤ) → IsWithinHeap h (picks.exact_range a b c)
  exact-range-within (Some a) (Some b) (Some c) = none-below (length h)
  exact-range-within a b c = tt

  range-strided-within : (t : Stride) (b : Bounds) (n : ℕ) (r : Range) → IsWithinHeap h (picks.range_strided t b n r)
  range-strided-within (stride.Forward k) b n r =
      exact-range-within (picks.standing r (bound (place n) 0 b.start)) (picks.standing r (bound (place n) n b.stop)) (picks.step_by b.step r)
  range-strided-within (stride.Back k) b n r =
      exact-range-within (picks.standing_before r (bound (behind n) n b.start)) (picks.standing_before r (bound (behind n) 0 b.stop)) (picks.step_by b.step r)

  sliced-by-within : (v : Value) (b : Bounds) (o : Option Object) → object_of h v ≡ o → IsWithinHeap h (slices.sliced_by h v b o)
  sliced-by-within v b (Some (object.Str t)) e = answered-within h (strs.within (sliced b.start b.stop b.step (chars t)))
  sliced-by-within v b (Some (object.List vs)) e = list-within h (picks.picked b vs) (all-picked h b vs (list-items v vs e))
  sliced-by-within v b (Some (object.Tuple vs)) e = tuple-within h (picks.picked b vs) (all-picked h b vs (tuple-items v vs e))
  sliced-by-within v b (Some (object.Range r)) e = range-strided-within (picks.stride_of b.step) b (range_length r) r
  sliced-by-within v b o e = unindexed-within v o

  sliced-made-within : (v : Value) (a b c : Option (Option ℤ)) → IsWithinHeap h (slices.sliced_if h v (bounds.made_of a b c))
  sliced-made-within v (Some a) (Some b) (Some c) = sliced-by-within v (record { start = a; stop = b; step = c }) (object_of h v) refl
  sliced-made-within v a b c = (_, refl)

  sliced-if-within : (v : Value) (a b c : Option (Option ℤ)) → IsWithinHeap h (slices.sliced_if h v (bounds.bounds_by a b c))
  sliced-if-within v a b (Some (Some (pos zero))) = (_, refl)
  sliced-if-within v a b c = sliced-made-within v a b c

  sliced-in-within : (v : Value) (x : Slice) (o : Option Object) → IsWithinHeap h (slices.sliced_in h v x o)
  sliced-in-within v x (Some (object.Str t)) = sliced-if-within v (bounds.part_of h x.start) (bounds.part_of h x.stop) (bounds.part_of h x.step)
  sliced-in-within v x (Some (object.List vs)) = sliced-if-within v (bounds.part_of h x.start) (bounds.part_of h x.stop) (bounds.part_of h x.step)
  sliced-in-within v x (Some (object.Tuple vs)) = sliced-if-within v (bounds.part_of h x.start) (bounds.part_of h x.stop) (bounds.part_of h x.step)
  sliced-in-within v x (Some (object.Range r)) = sliced-if-within v (bounds.part_of h x.start) (bounds.part_of h x.stop) (bounds.part_of h x.step)
  sliced-in-within v x o = unindexed-within v o

  subscript-by-within : (v i : Value) (o : Option Object) → IsWithinHeap h (slices.subscript_by h v i o)
  subscript-by-within v i (Some (object.Slice x)) = sliced-in-within v x (object_of h v)
  subscript-by-within v i o = item-within v i

  -- lists that change
  list-changed-within : (l : Value) (vs : List Value) (a : Value) → AllWithin h vs → IsWithin h a → IsWithinHeap h (lists.list_changed l vs a)
  list-changed-within (value.Obj id) vs a w x = (values-below h vs w, tt, behind-nothing a x)
  list-changed-within l vs a w x = tt

  list-grown-within : (l : Value) (vs : List Value) → AllWithin h vs → IsWithinHeap h (lists.list_grown l vs)
  list-grown-within l vs w = by (nat_le (length vs) entry_limit)
    where
      by : (b : Bool) → IsWithinHeap h (if b then lists.list_changed l vs value.None else content.Outside what.Length)
      by true = list-changed-within l vs value.None w tt
      by false = tt

  set-at-within : (l : Value) (vs : List Value) (x : Value) (o : Option ℕ) → AllWithin h vs → IsWithin h x → IsWithinHeap h (list.set_at l vs x o)
  set-at-within l vs x (Some i) w a = list-changed-within l (set vs i x) value.None (all-set h vs i x w a) tt
  set-at-within l vs x None w a = (_, refl)

  deleted-at-within : (l : Value) (vs : List Value) (o : Option ℕ) → AllWithin h vs → IsWithinHeap h (list.deleted_at l vs o)
  deleted-at-within l vs (Some i) w = list-changed-within l (remove vs i) value.None (all-left h vs i w) tt
  deleted-at-within l vs None w = (_, refl)

  set-by-within : (l : Value) (vs : List Value) (x : Value) (k : Operand) → AllWithin h vs → IsWithin h x → IsWithinHeap h (list.set_by l vs x k)
  set-by-within l vs x (operand.Number z) w a = set-at-within l vs x (items.place_of (length vs) z) w a
  set-by-within l vs x k w a = (_, refl)

  deleted-by-within : (l : Value) (vs : List Value) (k : Operand) → AllWithin h vs → IsWithinHeap h (list.deleted_by l vs k)
  deleted-by-within l vs (operand.Number z) w = deleted-at-within l vs (items.place_of (length vs) z) w
  deleted-by-within l vs k w = (_, refl)

  set-in-list-within : (x v : Value) (k : Operand) (o : Option Object) → IsWithin h x → object_of h v ≡ o → IsWithinHeap h (list.set_in h x v k o)
  set-in-list-within x v k (Some (object.List vs)) a e = set-by-within v vs x k (list-items v vs e) a
  set-in-list-within x v k (Some (object.Dict es)) a e = tt
  set-in-list-within x v k o a e = (_, refl)

  deleted-in-list-within : (v : Value) (k : Operand) (o : Option Object) → object_of h v ≡ o → IsWithinHeap h (list.deleted_in h v k o)
  deleted-in-list-within v k (Some (object.List vs)) e = deleted-by-within v vs k (list-items v vs e)
  deleted-in-list-within v k (Some (object.Dict es)) e = tt
  deleted-in-list-within v k o e = (_, refl)

  list-add-within : (l x : Value) (o : Option Object) → IsWithin h x → object_of h l ≡ o → IsWithinHeap h (list.added_to l x o)
  list-add-within l x (Some (object.List vs)) a e = list-grown-within l (vs ++ x ∷ []) (all-append h vs (x ∷ []) (list-items l vs e) (a, tt))
  list-add-within l x o a e = tt

  -- subscripts of any value, and what comprehensions put in
  subscript-in-within : (v i : Value) (o : Option Object) → IsWithin h i → object_of h v ≡ o → IsWithinHeap h (subscripts.item_in h v i o)
  subscript-in-within v i (Some (object.Dict es)) w e = dict-item-within h s es i w (dict-entries h s v es e)
  subscript-in-within v i o w e = subscript-by-within v i (object_of h i)

  set-in-within : (id : ObjId) (i v : Value) (o : Option Object) → IsWithin h i → IsWithin h v → slice_get h id.0 ≡ o → IsWithinHeap h (subscripts.set_in h id i v o)
  set-in-within id i v (Some (object.Dict es)) a b e = set-item-within h s id es i v a b (dict-entries h s (value.Obj id) es e)
  set-in-within id i v (Some (object.List vs)) a b e = set-in-list-within v (value.Obj id) (operand_of h i) (object_of h (value.Obj id)) b refl
  set-in-within id i v o a b e = (_, refl)

  set-subscript-within : (v a i : Value) → IsWithin h v → IsWithin h i → IsWithinHeap h (subscripts.set_subscript h v a i)
  set-subscript-within v (value.Obj id) i x y = set-in-within id i v (slice_get h id.0) y x refl
  set-subscript-within v a i x y = (_, refl)

  delete-in-within : (id : ObjId) (i : Value) (o : Option Object) → IsWithin h i → slice_get h id.0 ≡ o → IsWithinHeap h (subscripts.delete_in h id i o)
  delete-in-within id i (Some (object.Dict es)) a e = delete-item-within h s id es i a (dict-entries h s (value.Obj id) es e)
  delete-in-within id i (Some (object.List vs)) a e = deleted-in-list-within (value.Obj id) (operand_of h i) (object_of h (value.Obj id)) refl
  delete-in-within id i o a e = (_, refl)

  delete-subscript-within : (a i : Value) → IsWithin h i → IsWithinHeap h (subscripts.delete_subscript h a i)
  delete-subscript-within (value.Obj id) i w = delete-in-within id i (slice_get h id.0) w refl
  delete-subscript-within a i w = (_, refl)

  added-in-within : (id : ObjId) (v : Value) (o : Option Object) → IsWithin h v → slice_get h id.0 ≡ o → IsWithinHeap h (subscripts.added_in h id v o)
  added-in-within id v (Some (object.Set es)) a e = add-within h s id es v a (set-entries h s (value.Obj id) es e)
  added-in-within id v o a e = tt

  add-to-set-within : (made v : Value) → IsWithin h v → IsWithinHeap h (subscripts.add_to_set h made v)
  add-to-set-within (value.Obj id) v w = added-in-within id v (slice_get h id.0) w refl
  add-to-set-within a v w = tt

  entered-in-within : (id : ObjId) (k v : Value) (o : Option Object) → IsWithin h k → IsWithin h v → slice_get h id.0 ≡ o → IsWithinHeap h (subscripts.entered_in h id k v o)
  entered-in-within id k v (Some (object.Dict es)) a b e = set-item-within h s id es k v a b (dict-entries h s (value.Obj id) es e)
  entered-in-within id k v o a b e = tt

  add-to-dict-within : (made k v : Value) → IsWithin h k → IsWithin h v → IsWithinHeap h (subscripts.add_to_dict h made k v)
  add-to-dict-within (value.Obj id) k v a b = entered-in-within id k v (slice_get h id.0) a b refl
  add-to-dict-within m k v a b = tt

  -- iterators
  iterator-over-within : (id : ObjId) (o : Option Object) → IsWithin h (value.Obj id) → IsWithinHeap h (cursors.iterator_over h id o)
  iterator-over-within id (Some (object.Str t)) w = one-below (length h) id.0 w
  iterator-over-within id (Some (object.List vs)) w = one-below (length h) id.0 w
  iterator-over-within id (Some (object.Tuple vs)) w = one-below (length h) id.0 w
  iterator-over-within id (Some (object.Range r)) w = one-below (length h) id.0 w
  iterator-over-within id (Some (object.Cursor c)) w = w
  iterator-over-within id (Some (object.Generator n)) w = w
  iterator-over-within id (Some (object.Dict es)) w = tt
  iterator-over-within id (Some (object.Set es)) w = tt
  iterator-over-within id (Some (object.View v)) w = tt
  iterator-over-within id o w = asked-within helper.IterOf (codes "iterable") (value.Obj id) (operand_of h (value.Obj id))

  iterator-within : (v : Value) → IsWithin h v → IsWithinHeap h (cursors.iterator_content h v)
  iterator-within (value.Obj id) w = iterator-over-within id (slice_get h id.0) w
  iterator-within v w = asked-within helper.IterOf (codes "iterable") v (operand_of h v)

  ended-within : (id : ObjId) (c : Cursor) → IsWithinHeap h (cursors.ended id c)
  ended-within id c = (none-below (length h), tt, tt)

  at-item-within : (id : ObjId) (c : Cursor) (o : Option Value) → Below (length h) (place_in c.over) → ((v : Value) → o ≡ Some v → IsWithin h v) → IsWithinHeap h (cursors.at_item id c o)
  at-item-within id c None b w = ended-within id c
  at-item-within id c (Some v) b w = (b, tt, behind-nothing v (w v refl))

  at-char-within : (id : ObjId) (c : Cursor) (cs : List ℕ) → Below (length h) (place_in c.over) → IsWithinHeap h (cursors.at_char h id c cs)
  at-char-within id c [] b = ended-within id c
  at-char-within id c (x ∷ cs) b = (b, (none-below (length h), tt), omega (arith, length-append h (object.Str (encode_utf8 x) ∷ [])))

  next-item-within : (id over : ObjId) (c : Cursor) (o : Option Object) → Below (length h) (place_in c.over) → object_of h (value.Obj over) ≡ o → IsWithinHeap h (cursors.item_of h id c o)
  next-item-within id over c (Some (object.List vs)) b e = at-item-within id c (slice_get vs c.place) b (λ v f. one-within h vs c.place v f (list-items (value.Obj over) vs e))
  next-item-within id over c (Some (object.Tuple vs)) b e = at-item-within id c (slice_get vs c.place) b (λ v f. one-within h vs c.place v f (tuple-items (value.Obj over) vs e))
  next-item-within id over c (Some (object.Range r)) b e = at-item-within id c (range_value r c.place) b (λ v f. range-value-within h r c.place v f)
  next-item-within id over c (Some (object.Str t)) b e = at-char-within id c (cursors.chars_from t c.place) b
  next-item-within id over c o b e = tt

  next-over-within : (id : ObjId) (c : Cursor) (o : Option ObjId) → Below (length h) (place_in c.over) → IsWithinHeap h (cursors.next_over h id c o)
  next-over-within id c None b = ended-within id c
  next-over-within id c (Some over) b = next-item-within id over c (slice_get h over.0) b refl

  next-in-within : (id : ObjId) (o : Option Object) → slice_get h id.0 ≡ o → IsWithinHeap h (cursors.next_in h id o)
  next-in-within id (Some (object.Cursor c)) e = next-over-within id c c.over (object-below h (value.Obj id) (object.Cursor c) s e)
  next-in-within id (Some (object.Generator n)) e = tt
  next-in-within id o e = asked-within helper.NextOf (codes "an iterator") (value.Obj id) (operand_of h (value.Obj id))

  next-within : (v : Value) → IsWithinHeap h (cursors.next_content h v)
  next-within (value.Obj id) = next-in-within id (slice_get h id.0) refl
  next-within v = asked-within helper.NextOf (codes "an iterator") v (operand_of h v)

  -- iterators over dictionaries, sets and views
  entries-iterator-over-within : (id : ObjId) (o : Option Object) → IsWithin h (value.Obj id) → IsWithinHeap h (views.iterator_over h id o)
  entries-iterator-over-within id (Some (object.Dict es)) w = one-below (length h) id.0 w
  entries-iterator-over-within id (Some (object.Set es)) w = one-below (length h) id.0 w
  entries-iterator-over-within id (Some (object.View v)) w = one-below (length h) id.0 w
  entries-iterator-over-within id o w = iterator-within (value.Obj id) w

  any-iterator-within : (v : Value) → IsWithin h v → IsWithinHeap h (views.iterator_content h v)
  any-iterator-within (value.Obj id) w = entries-iterator-over-within id (slice_get h id.0) w
  any-iterator-within v w = iterator-within v w

  given-within : (id : ObjId) (c : Cursor) (p : Part) (v x : Value) → Below (length h) (place_in c.over) → IsWithin h v → IsWithin h x → IsWithinHeap h (views.given h id c p v x)
  given-within id c part.Keys v x b a w = (b, tt, behind-nothing v a)
  given-within id c part.Values v x b a w = (b, tt, behind-nothing x w)
  given-within id c part.Items v x b a w =
      (b, (values-below h (v ∷ x ∷ []) (a, (w, tt)), tt), omega (arith, length-append h (object.Tuple (v ∷ x ∷ []) ∷ [])))

  at-entry-within : (id : ObjId) (c : Cursor) (p : Part) (o : Option (Value × Value)) → Below (length h) (place_in c.over)
      → ((q : Value × Value) → o ≡ Some q → IsWithin h q.0 × IsWithin h q.1) → IsWithinHeap h (views.at_entry h id c p o)
  at-entry-within id c p (Some q) b w = let within = w q refl in given-within id c p q.0 q.1 b within.0 within.1
  at-entry-within id c p None b w = ended-within id c

  next-entry-within : (id : ObjId) (c : Cursor) (p : Part) (es : List Entry) → Below (length h) (place_in c.over) → AreWithin h es → IsWithinHeap h (views.next_entry h id c p es)
  next-entry-within id c p es b w = by (Rattle.std.specs.Prelude.nat_eq c.count (length es))
    where
      by : (k : Bool)
          → IsWithinHeap h (if k then views.at_entry h id c p (views.entry_at es c.place) else content.Raise Rattle.pt_methods.specs.pt_views.declared.cursor.TheConstants.RUNTIME_ERROR (codes "container changed during iteration"))
      by true = at-entry-within id c p (views.entry_at es c.place) b (λ q e. entry-at-within h es c.place q e w)
      by false = (_, refl)

  next-of-view-within : (id : ObjId) (c : Cursor) (p : Part) (dict : ObjId) (o : Option Object) → Below (length h) (place_in c.over) → slice_get h dict.0 ≡ o → IsWithinHeap h (views.next_of_view h id c p (views.dict_in o))
  next-of-view-within id c p dict (Some (object.Dict es)) b e = next-entry-within id c p es b (dict-entries h s (value.Obj dict) es e)
  next-of-view-within id c p dict o b e = ended-within id c

  next-of-within : (id over : ObjId) (c : Cursor) (o : Option Object) → Below (length h) (place_in c.over) → slice_get h over.0 ≡ o → IsWithinHeap h (views.next_of h id c o)
  next-of-within id over c (Some (object.Dict es)) b e = next-entry-within id c part.Keys es b (dict-entries h s (value.Obj over) es e)
  next-of-within id over c (Some (object.Set es)) b e = next-entry-within id c part.Keys es b (set-entries h s (value.Obj over) es e)
  next-of-within id over c (Some (object.View v)) b e = next-of-view-within id c v.part v.dict (slice_get h v.dict.0) b refl
  next-of-within id over c o b e = next-within (value.Obj id)

  any-next-over-within : (id : ObjId) (c : Cursor) (o : Option ObjId) → Below (length h) (place_in c.over) → IsWithinHeap h (views.next_over h id c o)
  any-next-over-within id c (Some over) b = next-of-within id over c (slice_get h over.0) b refl
  any-next-over-within id c None b = next-within (value.Obj id)

  any-next-in-within : (id : ObjId) (o : Option Object) → slice_get h id.0 ≡ o → IsWithinHeap h (views.next_in h id o)
  any-next-in-within id (Some (object.Cursor c)) e = any-next-over-within id c c.over (object-below h (value.Obj id) (object.Cursor c) s e)
  any-next-in-within id o e = next-within (value.Obj id)

  any-next-within : (v : Value) → IsWithinHeap h (views.next_content h v)
  any-next-within (value.Obj id) = any-next-in-within id (slice_get h id.0) refl
  any-next-within v = next-within v

  -- unpacking
  unless-within : (o : Option Content) (c : Content) → ((d : Content) → o ≡ Some d → IsWithinHeap h d) → IsWithinHeap h c → IsWithinHeap h (unpacking.unless o c)
  unless-within None c m w = w
  unless-within (Some d) c m w = m d refl

  mismatch-within : (n m : ℕ) (d : Content) → unpacking.mismatch n m ≡ Some d → IsWithinHeap h d
  mismatch-within n m d = by (nat_lt n m) (nat_lt m n)
    where
      long : Content
      long = content.Raise Rattle.pt_content.specs.declared.class.TheConstants.VALUE_ERROR (codes "too many values to unpack")

      short : Content
      short = content.Raise Rattle.pt_content.specs.declared.class.TheConstants.VALUE_ERROR (codes "not enough values to unpack")

      by : (a b : Bool) → (if a then Some long else (if b then Some short else None)) ≡ Some d → IsWithinHeap h d
      by true b e = let same : long ≡ d = cc in subst (λ x. IsWithinHeap h x) same (_, refl)
      by false true e = let same : short ≡ d = cc in subst (λ x. IsWithinHeap h x) same (_, refl)
      by false false e = absurd cc

  values-within : (vs : List Value) → AllWithin h vs → IsWithinHeap h (unpacking.values vs)
  values-within vs w = (tt, tt, all-grow h (h ++ []) vs (omega (arith, length-append h [])) w)

  items-within : (n : ℕ) (vs : List Value) → AllWithin h vs → IsWithinHeap h (unpacking.items_content n vs)
  items-within n vs w = unless-within (unpacking.mismatch n (length vs)) (unpacking.values vs) (mismatch-within n (length vs)) (values-within vs w)

  unpacked-within : (n : ℕ) (v : Value) (o : Option Object) → object_of h v ≡ o → IsWithinHeap h (unpacking.unpacked h n v o)
  unpacked-within n v (Some (object.List vs)) e = items-within n vs (list-items v vs e)
  unpacked-within n v (Some (object.Tuple vs)) e = items-within n vs (tuple-items v vs e)
  unpacked-within n v (Some (object.Range r)) e =
      unless-within (unpacking.mismatch n (range_length r)) (unpacking.values (unpacking.integers_from r 0 n)) (mismatch-within n (range_length r)) (values-within (unpacking.integers_from r 0 n) (integers-within h r 0 n))
  unpacked-within n v (Some (object.Str t)) e =
      unless-within (unpacking.mismatch n (length (chars t))) (content.NewValues (unpacking.char_texts (chars t))) (mismatch-within n (length (chars t))) (chars-within h (chars t))
  unpacked-within n v (Some (object.Dict es)) e = tt
  unpacked-within n v (Some (object.Set es)) e = tt
  unpacked-within n v (Some (object.View w)) e = tt
  unpacked-within n v (Some (object.Cursor c)) e = tt
  unpacked-within n v (Some (object.Generator g)) e = tt
  unpacked-within n v o e = asked-within (helper.TakeOf n) (codes "iterable") v (operand_of h v)

  starred-within : (n m : ℕ) (v : Value) (o : Option Object) → object_of h v ≡ o → IsWithinHeap h (stars.starred h n m v o)
  starred-within n m v (Some (object.List vs)) e = starred-items-within h n m vs (list-items v vs e)
  starred-within n m v (Some (object.Tuple vs)) e = starred-items-within h n m vs (tuple-items v vs e)
  starred-within n m v (Some (object.Range r)) e = tt
  starred-within n m v (Some (object.Str t)) e = tt
  starred-within n m v (Some (object.Dict es)) e = tt
  starred-within n m v (Some (object.Set es)) e = tt
  starred-within n m v (Some (object.View w)) e = tt
  starred-within n m v (Some (object.Cursor c)) e = tt
  starred-within n m v (Some (object.Generator g)) e = tt
  starred-within n m v o e = asked-within helper.ListOf (codes "iterable") v (operand_of h v)

  -- calls
  length-within : (v : Value) (o : Option ℕ) → IsWithinHeap h (length_by h v o)
  length-within v (Some n) = by (is_in_range (pos n))
    where
      by : (b : Bool) → IsWithinHeap h (if b then content.Value (value.Int (pos n)) else content.Outside what.Integer)
      by true = tt
      by false = tt
  length-within v None = by (operand_of h v)
    where
      by : (k : Operand) → IsWithinHeap h (lengthless h v k)
      by operand.Instance = tt
      by k = (_, refl)

  written-within : (make : List ℕ → Content) → ((t : List ℕ) → IsWithinHeap h (make t)) → (r : Result (List ℕ) WriteErr) → IsWithinHeap h (texts.by_text make r)
  written-within make w (Ok t) = w t
  written-within make w (Err write.Deep) = (_, refl)
  written-within make w (Err write.Length) = tt
  written-within make w (Err write.Feature) = tt

  pieces-within : (ps : List Piece) → IsWithinHeap h (texts.text_content ps)
  pieces-within ps = written-within texts.new_text (λ t. none-below (length h)) (written length_limit ps)

  helped-within : (k : Helper) (ps : List Piece) (b : Bool) → IsWithinHeap h (if b then content.Help k false else texts.text_content ps)
  helped-within k ps true = tt
  helped-within k ps false = pieces-within ps

  str-within : (v : Value) (o : Option (List ℕ)) → IsWithin h v → IsWithinHeap h (texts.str_by h v o)
  str-within v (Some t) w = w
  str-within v None w = helped-within helper.StrOf (texts.str_pieces h v) (needs_help h v)

  printed-within : (s t : List ℕ) (vs : List Value) → IsWithinHeap h (texts.printed h s t vs)
  printed-within s t vs = by (need_help h vs)
    where
      by : (b : Bool)
          → IsWithinHeap h (if b then content.Help helper.PrintOf false else texts.by_text content.Print (written length_limit (texts.between_separators h s vs ++ Ok t ∷ [])))
      by true = tt
      by false = written-within content.Print (λ u. tt) (written length_limit (texts.between_separators h s vs ++ Ok t ∷ []))

  print-within : (s t : Option (List ℕ)) (vs : List Value) → IsWithinHeap h (texts.printed_between h s t vs)
  print-within (Some s) (Some t) vs = printed-within s t vs
  print-within s t vs = (_, refl)

  range-of-within : (a b z : ℤ) → IsWithinHeap h (range_of a b z)
  range-of-within a b (pos zero) = (_, refl)
  range-of-within a b z = none-below (length h)

  range-by-within : (k l m : Operand) → IsWithinHeap h (range_by k l m)
  range-by-within (operand.Number a) (operand.Number b) (operand.Number z) = range-of-within a b z
  range-by-within k l m = (_, refl)

  range-within : (vs : List Value) → IsWithinHeap h (range_content h vs)
  range-within (stop ∷ []) = range-by-within (operand.Number (pos 0)) (operand_of h stop) (operand.Number (pos 1))
  range-within (start ∷ stop ∷ []) = range-by-within (operand_of h start) (operand_of h stop) (operand.Number (pos 1))
  range-within (start ∷ stop ∷ step ∷ []) = range-by-within (operand_of h start) (operand_of h stop) (operand_of h step)
  range-within vs = tt

  raise-within : (c : Content) → IsWithinHeap h c → IsWithinHeap h (calls.or_raise c)
  raise-within (content.Changed c answer.End) w = (w.0, w.1, ((_, refl), tt))
  raise-within c w = w

  default-within : (v : Value) (c : Content) → IsWithin h v → IsWithinHeap h c → IsWithinHeap h (calls.or_default v c)
  default-within v (content.Changed c answer.End) i w = (w.0, w.1, within-grows h (h ++ map Rattle.pt_content.specs.Changes.made c.objects) v (omega (arith, length-append h (map Rattle.pt_content.specs.Changes.made c.objects))) i)
  default-within v (content.Help helper.NextOf inverted) i w = tt
  default-within v c i w = w

  magnitude-within : (k : Operand) → IsWithinHeap h (calls.magnitude_by k)
  magnitude-within (operand.Number z) = integer-within h (calls.magnitude z)
  magnitude-within k = (_, refl)

  quotient-within : (q r : IntAns) → IsWithinHeap h (calls.quotient_and_remainder q r)
  quotient-within (integer.Value q) (integer.Value r) = tuple-within h (value.Int q ∷ value.Int r ∷ []) (tt, (tt, tt))
  quotient-within (integer.Value q) r = integer-within h r
  quotient-within q r = integer-within h q

  division-within : (k l : Operand) → IsWithinHeap h (calls.division_by k l)
  division-within (operand.Number a) (operand.Number b) = quotient-within (binary_answer binary.FloorDiv a b) (binary_answer binary.Mod a b)
  division-within k l = (_, refl)

  code-of-within : (cs : List ℕ) → IsWithinHeap h (calls.code_of cs)
  code-of-within (c ∷ []) = tt
  code-of-within cs = (_, refl)

  code-within : (o : Option (List ℕ)) → IsWithinHeap h (calls.code_by o)
  code-within (Some t) = code-of-within (chars t)
  code-within None = (_, refl)

  char-of-within : (n : ℕ) → IsWithinHeap h (calls.char_of n)
  char-of-within n = by (nat_le 1114112 n) (nat_le 55296 n && nat_lt n 57344)
    where
      by : (a b : Bool)
          → IsWithinHeap h (if a then Rattle.pt_content.specs.TypeErrors.bad_argument Rattle.pt_content.specs.declared.class.TheConstants.VALUE_ERROR else (if b then content.Outside what.Surrogate else texts.new_text (encode_utf8 n)))
      by true b = (_, refl)
      by false true = tt
      by false false = none-below (length h)

  char-within : (k : Operand) → IsWithinHeap h (calls.char_by k)
  char-within (operand.Number (pos n)) = char-of-within n
  char-within (operand.Number (negsuc n)) = (_, refl)
  char-within k = (_, refl)

  integer-or-error-within : (o : Option ℤ) → IsWithinHeap h (texts_as_integers.integer_or_error o)
  integer-or-error-within (Some z) = integer-within h (ranged z)
  integer-or-error-within None = (_, refl)

  integer-by-within : (k : Operand) (t : Option (List ℕ)) → IsWithinHeap h (calls.integer_by k t)
  integer-by-within (operand.Number z) t = tt
  integer-by-within k (Some t) = integer-or-error-within (texts_as_integers.signed_number (texts_as_integers.without_blanks (chars t)))
  integer-by-within k None = (_, refl)

  callable-within : (k : Operand) (c : Bool) (o : Option Object) → IsWithinHeap h (calls.callable_by k c o)
  callable-within operand.Instance c o = tt
  callable-within k c (Some (object.Function f)) = tt
  callable-within k c (Some (object.Method m)) = tt
  callable-within k c (Some (object.Builtin b)) = tt
  callable-within k c (Some (object.Class x)) = tt
  callable-within k c o = tt

  kinship-within : (k : Kinship) → IsWithinHeap h (classes.kinship_answer k)
  kinship-within (kinship.Told b) = tt
  kinship-within kinship.Deep = (_, refl)
  kinship-within kinship.NoClass = (_, refl)

  of-classes-within : (c v : Value) → IsWithinHeap h (classes.is_of_classes h c v)
  of-classes-within c v = kinship-within (classes.kinship_of (classes.tuple_kinship h depth_limit c) h c v)

  subclass-within : (c v : Value) → IsWithinHeap h (classes.subclass_by h c v)
  subclass-within c v = by (classes.is_class h c)
    where
      by : (b : Bool)
          → IsWithinHeap h (if b then classes.is_of_classes h c v else Rattle.pt_content.specs.TypeErrors.bad_argument Rattle.pt_content.specs.declared.class.TheConstants.TYPE_ERROR)
      by true = of-classes-within c v
      by false = (_, refl)

  has-within : (a : Attribute) → IsWithinHeap h (asked.has a)
  has-within (attribute.Method m) = tt
  has-within (attribute.Held v) = tt
  has-within (attribute.Bound f) = tt
  has-within attribute.NameOf = tt
  has-within attribute.Arguments = tt
  has-within attribute.Missing = tt
  has-within attribute.Unbuilt = tt

  has-attribute-within : (v : Value) (o : Option (List ℕ)) → IsWithinHeap h (asked.has_attribute h v o)
  has-attribute-within v (Some name) = has-within (attribute_of h v name)
  has-attribute-within v None = (_, refl)

  name-by-within : (o : Option Object) → IsWithinHeap h (asked.name_by o)
  name-by-within (Some (object.Class c)) = none-below (length h)
  name-by-within o = tt

  arguments-by-within : (v : Value) (o : Option Object) → object_of h v ≡ o → IsWithinHeap h (asked.arguments_by o)
  arguments-by-within v (Some (object.Error x)) e = tuple-within h x.args (error-arguments h s v x e)
  arguments-by-within v o e = tt

  gotten-within : (v : Value) (a : Attribute) (c : Content) → IsWithin h v → AttributeWithin h a → IsWithinHeap h c → IsWithinHeap h (asked.gotten h v a c)
  gotten-within v (attribute.Method m) c x i w = value-below h v x
  gotten-within v (attribute.Held u) c x i w = i
  gotten-within v (attribute.Bound f) c x i w =
      both-below (length h) (place_of f) (place_of (receiver_of h v)) (value-below h f i) (value-below h (receiver_of h v) (receiver-within h s v x))
  gotten-within v attribute.NameOf c x i w = name-by-within (object_of h v)
  gotten-within v attribute.Arguments c x i w = arguments-by-within v (object_of h v) refl
  gotten-within v attribute.Missing c x i w = w
  gotten-within v attribute.Unbuilt c x i w = tt

  get-attribute-within : (v : Value) (o : Option (List ℕ)) → IsWithin h v → IsWithinHeap h (asked.get_attribute h v o)
  get-attribute-within v (Some name) i = gotten-within v (attribute_of h v name) (asked.attribute_error h v name) i (attribute-within h s v name) (_, refl)
  get-attribute-within v None i = (_, refl)

  get-attribute-or-within : (v : Value) (o : Option (List ℕ)) (x : Value) → IsWithin h v → IsWithin h x → IsWithinHeap h (asked.get_attribute_or h v o x)
  get-attribute-or-within v (Some name) x i w = gotten-within v (attribute_of h v name) (content.Value x) i (attribute-within h s v name) w
  get-attribute-or-within v None x i w = (_, refl)

  call-getattr-within : (vs : List Value) → AllWithin h vs → IsWithinHeap h (asked.call_getattr vs h)
  call-getattr-within (v ∷ n ∷ []) w = get-attribute-within v (text_of h n) w.0
  call-getattr-within (v ∷ n ∷ x ∷ []) w = get-attribute-or-within v (text_of h n) x w.0 w.1.1.0
  call-getattr-within vs w = tt

  builtin : (n : ℕ) → IsClassAt start_objects n → IsWithin h (calls.builtin_class n)
  builtin n c = start-class h n s c

  view-within : (p : Part) → IsWithin h (calls.view_class p)
  view-within part.Keys = builtin 22 (_, refl)
  view-within part.Values = builtin 23 (_, refl)
  view-within part.Items = builtin 24 (_, refl)

  function-class-within : (hidden : Bool) → IsWithin h (calls.function_class hidden)
  function-class-within true = builtin 16 (_, refl)
  function-class-within false = builtin 14 (_, refl)

  class-of-object-within : (id : ObjId) (o : Option Object) → slice_get h id.0 ≡ o → IsWithin h (calls.class_of_object o)
  class-of-object-within id (Some (object.Str t)) e = builtin 4 (_, refl)
  class-of-object-within id (Some (object.List vs)) e = builtin 5 (_, refl)
  class-of-object-within id (Some (object.Tuple vs)) e = builtin 6 (_, refl)
  class-of-object-within id (Some (object.Set es)) e = builtin 7 (_, refl)
  class-of-object-within id (Some (object.Dict es)) e = builtin 8 (_, refl)
  class-of-object-within id (Some (object.Range r)) e = builtin 9 (_, refl)
  class-of-object-within id (Some (object.Slice x)) e = builtin 10 (_, refl)
  class-of-object-within id (Some (object.Function f)) e = function-class-within f.hidden
  class-of-object-within id (Some (object.Method m)) e = builtin 15 (_, refl)
  class-of-object-within id (Some (object.Builtin b)) e = builtin 16 (_, refl)
  class-of-object-within id (Some (object.Generator n)) e = builtin 17 (_, refl)
  class-of-object-within id (Some (object.Frame f)) e = builtin 18 (_, refl)
  class-of-object-within id (Some (object.CodeRef b g)) e = builtin 19 (_, refl)
  class-of-object-within id (Some (object.Module m)) e = builtin 20 (_, refl)
  class-of-object-within id (Some (object.Super x)) e = builtin 21 (_, refl)
  class-of-object-within id (Some (object.View v)) e = view-within v.part
  class-of-object-within id (Some (object.Cursor c)) e = builtin 25 (_, refl)
  class-of-object-within id (Some (object.Class c)) e = builtin 1 (_, refl)
  class-of-object-within id (Some (object.Instance x)) e = class-within h x.class.0 (s.fits id.0 (object.Instance x) e).classes
  class-of-object-within id (Some (object.Error x)) e = class-within h x.class.0 (s.fits id.0 (object.Error x) e).classes
  class-of-object-within id None e = builtin 0 (_, refl)

  class-of-within : (v : Value) → IsWithin h (calls.class_of h v)
  class-of-within (value.Bool b) = builtin 3 (_, refl)
  class-of-within (value.Int z) = builtin 2 (_, refl)
  class-of-within value.None = builtin 11 (_, refl)
  class-of-within value.Ellipsis = builtin 12 (_, refl)
  class-of-within value.NotImplemented = builtin 13 (_, refl)
  class-of-within (value.Obj id) = class-of-object-within id (slice_get h id.0) refl

  call-next-within : (vs : List Value) → AllWithin h vs → IsWithinHeap h (calls.call_next vs h)
  call-next-within (a ∷ []) w = raise-within (views.next_content h a) (any-next-within a)
  call-next-within (a ∷ b ∷ []) w = default-within b (views.next_content h a) w.1.0 (any-next-within a)
  call-next-within vs w = tt

  call-int-within : (vs : List Value) → IsWithinHeap h (calls.call_int vs h)
  call-int-within [] = tt
  call-int-within (a ∷ []) = integer-by-within (operand_of h a) (text_of h a)
  call-int-within vs = tt

  call-bool-within : (vs : List Value) → IsWithinHeap h (calls.call_bool vs h)
  call-bool-within [] = tt
  call-bool-within (a ∷ []) = truth-within h a (operand_of h a)
  call-bool-within vs = tt

  call-str-within : (vs : List Value) → AllWithin h vs → IsWithinHeap h (calls.call_str vs h)
  call-str-within [] w = none-below (length h)
  call-str-within (a ∷ []) w = str-within a (text_of h a) w.0
  call-str-within vs w = tt

  status-within : (v : Value) → IsWithin h v → IsWithinIf h (calls.status_in v)
  status-within value.None w = tt
  status-within (value.Bool b) w = w
  status-within (value.Int z) w = w
  status-within value.Ellipsis w = w
  status-within value.NotImplemented w = w
  status-within (value.Obj id) w = w

  exits-within : (o : Option Value) → IsWithinIf h o → IsWithinHeap h (calls.exits_with o)
  exits-within None w = (tt, tt, ((_, refl), tt))
  exits-within (Some v) w = (tt, tt, ((_, refl), behind-nothing v w))

  call-exit-within : (vs : List Value) → AllWithin h vs → IsWithinHeap h (calls.call_exit vs)
  call-exit-within [] w = exits-within None tt
  call-exit-within (a ∷ []) w = exits-within (calls.status_in a) (status-within a w.0)
  call-exit-within (a ∷ b ∷ vs) w = tt

  -- what functions that are written in Python ask
  tuple-by-within : (a : Value) (o : Option Object) → object_of h a ≡ o → IsWithinHeap h (hidden.tuple_by o)
  tuple-by-within a (Some (object.List vs)) e = tuple-within h vs (list-items a vs e)
  tuple-by-within a o e = tt

  make-tuple-within : (vs : List Value) → IsWithinHeap h (hidden.make_tuple vs h)
  make-tuple-within (a ∷ []) = tuple-by-within a (object_of h a) refl
  make-tuple-within vs = tt

  make-set-within : (vs : List Value) → IsWithinHeap h (hidden.make_set vs)
  make-set-within [] = none-below (length h)
  make-set-within (a ∷ vs) = tt

  is-of-by-within : (a : Value) (o : Option (List ℕ)) → IsWithinHeap h (hidden.is_of_by h a o)
  is-of-by-within a (Some name) = tt
  is-of-by-within a None = tt

  is-of-within : (vs : List Value) → IsWithinHeap h (hidden.is_of vs h)
  is-of-within (a ∷ n ∷ []) = is-of-by-within a (text_of h n)
  is-of-within vs = tt

  join-by-within : (t : Option (List ℕ)) (o : Option Object) → IsWithinHeap h (hidden.join_by h t o)
  join-by-within (Some sep) (Some (object.List vs)) = joined-within h sep (answers.texts_of h vs)
  join-by-within t o = tt

  join-items-within : (vs : List Value) → IsWithinHeap h (hidden.join_items vs h)
  join-items-within (x ∷ l ∷ []) = join-by-within (text_of h x) (object_of h l)
  join-items-within vs = tt

  sorted-content-within : (falling : Bool) (vs ks : List Value) → AllWithin h vs → IsWithinHeap h (sorted_content h falling vs ks)
  sorted-content-within falling vs ks w = by (first_fault h ks) (fault-within h ks)
    where
      by : (o : Option Content) → FaultIsWithin h o → IsWithinHeap h (unless_wrong o (sorted h (common_kind h ks) falling (pairs_of ks vs)))
      by (Some c) i = i
      by None i = list-within h (sorted h (common_kind h ks) falling (pairs_of ks vs)) (sorted-within h (common_kind h ks) falling ks vs w)

  sort-by-within : (a : Value) (o p : Option Object) (v : Value) → object_of h a ≡ o → IsWithinHeap h (hidden.sort_by h o p v)
  sort-by-within a (Some (object.List vs)) (Some (object.List ks)) (value.Bool b) e = sorted-content-within b vs ks (list-items a vs e)
  sort-by-within a o p v e = tt

  sort-items-within : (vs : List Value) → IsWithinHeap h (hidden.sort_items vs h)
  sort-items-within (l ∷ k ∷ v ∷ []) = sort-by-within l (object_of h l) (object_of h k) v refl
  sort-items-within vs = tt

  refill-by-within : (l a : Value) (o : Option Object) → object_of h a ≡ o → IsWithinHeap h (hidden.refill_by l o)
  refill-by-within l a (Some (object.List vs)) e = list-changed-within l vs value.None (list-items a vs e) tt
  refill-by-within l a o e = tt

  refill-within : (vs : List Value) → IsWithinHeap h (hidden.refill vs h)
  refill-within (l ∷ a ∷ []) = refill-by-within l a (object_of h a) refl
  refill-within vs = tt

  wrap-by-within : (o p : Option Object) → IsWithinHeap h (special.wrap_by h o p)
  wrap-by-within o (Some (object.List ts)) = pieces-within (special.wrapped h o ts)
  wrap-by-within o p = tt

  wrap-within : (vs : List Value) → IsWithinHeap h (special.wrap vs h)
  wrap-within (a ∷ ts ∷ []) = wrap-by-within (object_of h a) (object_of h ts)
  wrap-within vs = tt

  hidden-call-within : (f : Function) (vs : List Value) → AllWithin h vs → IsWithinHeap h (calls.hidden_content f vs h)
  hidden-call-within function.MakeTuple vs w = make-tuple-within vs
  hidden-call-within function.MakeSet vs w = make-set-within vs
  hidden-call-within function.IsOf vs w = is-of-within vs
  hidden-call-within function.JoinItems vs w = join-items-within vs
  hidden-call-within function.SortItems vs w = sort-items-within vs
  hidden-call-within function.Refill vs w = refill-within vs
  hidden-call-within function.HasName vs w = has-name-within h s vs
  hidden-call-within function.GetName vs w = get-name-within h s vs w
  hidden-call-within function.Refuse vs w = refuse-within h s vs
  hidden-call-within function.IsError (a ∷ []) w = tt
  hidden-call-within function.HoldsInstance (a ∷ []) w = tt
  hidden-call-within function.PlainRepr (a ∷ []) w = pieces-within (repr_pieces h a)
  hidden-call-within function.Dots (a ∷ []) w = none-below (length h)
  hidden-call-within function.Parts (a ∷ []) w = list-within h (parts_of h a) (parts-within h s a)
  hidden-call-within function.Wrap vs w = wrap-within vs
  hidden-call-within function.TextGiven (a ∷ []) w = text-given-within h s a (text_of h a) w.0
  hidden-call-within function.TruthGiven (a ∷ []) w = truth-given-within h s a
  hidden-call-within function.LengthGiven (a ∷ []) w = length-given-within h s (operand_of h a)
  hidden-call-within function.Write (a ∷ []) w = write-within h s (text_of h a)
  hidden-call-within f vs w = tt

  builtin-call-within : (f : Function) (vs : List Value) → AllWithin h vs → IsWithinHeap h (calls.builtin_content f vs h)
  builtin-call-within function.Print (x ∷ y ∷ vs) w = print-within (texts.text_or (codes " ") h x) (texts.text_or (10 ∷ []) h y) vs
  builtin-call-within function.Len (a ∷ []) w = length-within a (length_of h a)
  builtin-call-within function.Repr (a ∷ []) w = helped-within helper.ReprOf (repr_pieces h a) (needs_help h a)
  builtin-call-within function.Isinstance (a ∷ c ∷ []) w = of-classes-within (calls.class_of h a) c
  builtin-call-within function.Issubclass (a ∷ c ∷ []) w = subclass-within a c
  builtin-call-within function.Iter (a ∷ []) w = any-iterator-within a w.0
  builtin-call-within function.Next vs w = call-next-within vs w
  builtin-call-within function.Abs (a ∷ []) w = magnitude-within (operand_of h a)
  builtin-call-within function.Divmod (a ∷ b ∷ []) w = division-within (operand_of h a) (operand_of h b)
  builtin-call-within function.Ord (a ∷ []) w = code-within (text_of h a)
  builtin-call-within function.Chr (a ∷ []) w = char-within (operand_of h a)
  builtin-call-within function.Hasattr (a ∷ n ∷ []) w = has-attribute-within a (text_of h n)
  builtin-call-within function.Getattr vs w = call-getattr-within vs w
  builtin-call-within function.Callable (a ∷ []) w = callable-within (operand_of h a) (is_some (method_of h a (codes "__call__"))) (object_of h a)
  builtin-call-within function.Exit vs w = call-exit-within vs w
  builtin-call-within function.Type (a ∷ []) w = class-of-within a
  builtin-call-within function.Int vs w = call-int-within vs
  builtin-call-within function.Bool vs w = call-bool-within vs
  builtin-call-within function.Str vs w = call-str-within vs w
  builtin-call-within function.Range vs w = range-within vs
  builtin-call-within f vs w = tt

  call-within : (f : Function) (vs : List Value) → AllWithin h vs → IsWithinHeap h (calls.call_content f vs h)
  call-within f vs w = by (calls.is_hidden f)
    where
      by : (b : Bool) → IsWithinHeap h (if b then calls.hidden_content f vs h else calls.builtin_content f vs h)
      by true = hidden-call-within f vs w
      by false = builtin-call-within f vs w

  -- fields of f-strings
  converted-within : (c : Option Conversion) (v : Value) → IsWithin h v → IsWithinHeap h (fields.converted c h v)
  converted-within (Some conversion.Repr) v w = helped-within helper.ReprOf (repr_pieces h v) (needs_help h v)
  converted-within c v w = str-within v (text_of h v) w

  laid-out-within : (spec : List ℕ) (v : FormatValue) → IsWithinHeap h (fields.laid_out spec v)
  laid-out-within spec v = answered-within h (formatted v (spec_of (chars spec)))

  laid-text-within : (spec : List ℕ) (o : Option (List ℕ)) (c : Content) → IsWithinHeap h c → IsWithinHeap h (fields.laid_text spec o c)
  laid-text-within spec (Some t) c w = laid-out-within spec (laid.Str t)
  laid-text-within spec None c w = w

  laid-content-within : (spec : List ℕ) (c : Content) → IsWithinHeap h c → IsWithinHeap h (fields.laid_content h spec c)
  laid-content-within spec (content.Value v) w = laid-text-within spec (text_of h v) (content.Value v) w
  laid-content-within spec (content.New (new.Text t)) w = laid-out-within spec (laid.Str t)
  laid-content-within spec c w = w

  specified-within : (c : Option Conversion) (v : Value) (spec : List ℕ) (k : Operand) → IsWithin h v → IsWithinHeap h (fields.specified c h v spec k)
  specified-within None v spec (operand.Number z) w = laid-out-within spec (laid.Int z)
  specified-within c v spec k w = laid-content-within spec (fields.converted c h v) (converted-within c v w)

  format-by-within : (c : Option Conversion) (v : Value) (spec : List ℕ) → IsWithin h v → IsWithinHeap h (fields.format_by c h v spec)
  format-by-within c v [] w = converted-within c v w
  format-by-within c v (x ∷ spec) w = specified-within c v (x ∷ spec) (operand_of h v) w

  format-if-within : (c : Option Conversion) (v : Value) (o : Option (List ℕ)) → IsWithin h v → IsWithinHeap h (fields.format_if c h v o)
  format-if-within c v (Some spec) w = format-by-within c v spec w
  format-if-within c v None w = (_, refl)

  format-within : (c : Option Conversion) (v spec : Value) → IsWithin h v → IsWithinHeap h (fields.format_content c h v spec)
  format-within c v value.None w = converted-within c v w
  format-within c v spec w = format-if-within c v (text_of h spec) w

  -- arguments that are spread
  spread-within : (v : Value) (o : Option Object) → object_of h v ≡ o → IsWithinHeap h (spreads.spread_in o)
  spread-within v (Some (object.List vs)) e = tuple-within h vs (list-items v vs e)
  spread-within v (Some (object.Tuple vs)) e = tuple-within h vs (tuple-items v vs e)
  spread-within v o e = tt

  spread-named-within : (v : Value) (o : Option Object) → object_of h v ≡ o → IsWithinHeap h (spreads.spread_named_in h o)
  spread-named-within v (Some (object.Dict es)) e = by (spreads.are_named h es)
    where
      by : (b : Bool) → IsWithinHeap h (if b then content.New (new.Dict es) else content.Raise TYPE_ERROR (codes "bad argument"))
      by true = entries-below h es (dict-entries h s v es e)
      by false = (_, refl)
  spread-named-within v o e = (_, refl)

  content-one-within : (o : Op) (a : Value) → IsWithin h a → IsWithinHeap h (content_of_one o a h)
  content-one-within op.Truth a w = truth-within h a (operand_of h a)
  content-one-within op.Not a w = turned-within h (truth_by h a (operand_of h a)) (truth-within h a (operand_of h a))
  content-one-within (op.Unary o) a w = unary-within o h a (operand_of h a)
  content-one-within op.Iter a w = any-iterator-within a w
  content-one-within op.Next a w = any-next-within a
  content-one-within (op.Unpack n) a w = unpack-within h s n a (unpacked-within n a (object_of h a) refl)
  content-one-within (op.UnpackStar n m) a w = unpack-star-within h s n m a (starred-within n m a (object_of h a) refl)
  content-one-within op.SpreadOut a w = spread-within a (object_of h a) refl
  content-one-within op.SpreadNamed a w = spread-named-within a (object_of h a) refl
  content-one-within o a w = tt

  content-two-within : (o : Op) (a b : Value) → IsWithin h a → IsWithin h b → IsWithinHeap h (content_of_two o a b h)
  content-two-within (op.Binary o) a b v w = binary-within o a b
  content-two-within (op.InPlace o) a b v w = in-place-by-within o a b (object_of h a) v refl
  content-two-within (op.Compare o) a b v w = comparison-within o a b
  content-two-within op.Item a i v w = subscript-in-within a i (object_of h a) w refl
  content-two-within op.DelItem a i v w = delete-subscript-within a i w
  content-two-within (op.Format c) a x v w = format-within c a x v
  content-two-within op.ListAdd made x v w = list-add-within made x (object_of h made) w refl
  content-two-within op.SetAdd made x v w = add-to-set-within made x w
  content-two-within o a b v w = tt

  content-three-within : (o : Op) (a b c : Value) → IsWithin h a → IsWithin h b → IsWithin h c → IsWithinHeap h (content_of_three o a b c h)
  content-three-within op.SetItem x a i u v w = set-subscript-within x a i u w
  content-three-within op.Slice a b c u v w = slice-within a b c u v w
  content-three-within op.DictAdd made k x u v w = add-to-dict-within made k x v w
  content-three-within o a b c u v w = tt

  content-few-within : (o : Op) (vs : List Value) → AllWithin h vs → IsWithinHeap h (content_of_few o vs h)
  content-few-within o (a ∷ []) w = content-one-within o a w.0
  content-few-within o (a ∷ b ∷ []) w = content-two-within o a b w.0 w.1.0
  content-few-within o (a ∷ b ∷ c ∷ []) w = content-three-within o a b c w.0 w.1.0 w.1.1.0
  content-few-within o vs w = tt

  pub content-within : (o : Op) (vs : List Value) → AllWithin h vs → IsWithinHeap h (content_of o vs h)
  content-within op.Tuple vs w = tuple-within h vs w
  content-within op.List vs w = list-within h vs w
  content-within op.Set vs w = set-within h s vs w
  content-within op.Dict vs w = dict-within h s vs w
  content-within op.Join vs w = joined-within h [] (answers.texts_of h vs)
  content-within (op.Call f) vs w = call-within f vs w
  content-within (op.CallMethod m) vs w = method-within h s (comparison-within comparison.Equal) m vs w
  content-within o vs w = content-few-within o vs w
