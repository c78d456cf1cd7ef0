-- What each operation answers, and what is in the heap then (Language Reference 6 to 8; Library Reference, "Built-in Functions").
use Rattle.std.specs.Prelude.{List, [], ◌∷◌, Some, length, if◌then◌else◌}
use Rattle.pt_base.specs.declared.what.What.TheVariants.{Feature, Heap}
use Rattle.pt_heap.specs.declared.value.Value.{Value}
use Rattle.pt_heap.specs.declared.object.Object.{Object}
use Rattle.pt_content.specs.declared.op.Op.{Op}
use Rattle.pt_content.specs.declared.op.Op.TheVariants.{Truth, Not, Unary, Binary, InPlace, Compare, Tuple, List as ListOf, Set, Dict, Item, SetItem, DelItem, Slice, Format, Join, Iter, Next, Unpack, UnpackStar, ListAdd, SetAdd, DictAdd, SpreadOut, SpreadNamed, Call, CallMethod}
use Rattle.pt_content.specs.declared.content.Content.{Content}
use Rattle.pt_content.specs.declared.content.Content.TheVariants as content
use Rattle.pt_content.specs.declared.content.NewObject.{NewObject}
use Rattle.pt_content.specs.declared.content.NewObject.TheVariants.{Text}
use Rattle.pt_content.specs.declared.answer.PrimAns.{PrimAns}
use Rattle.pt_content.specs.declared.answer.PrimAns.TheVariants as answer
use Rattle.pt_content.specs.Changes.{added, changed, has_room, next_object, places_from}
use Rattle.pt_methods.specs.pt_mappings.Entering.{dict_content}
use Rattle.pt_methods.specs.pt_sets.Members.{set_content}
use Rattle.pt_methods.specs.pt_sequences.Displays.{list_content, tuple_content}
use Rattle.pt_methods.specs.pt_views.Cursors.{iterator_content, next_content}
use Rattle.pt_methods.specs.pt_views.Unpacking.{starred_content, unpack_content}
use Rattle.pt_methods.specs.pt_list_changes.Items.{list_add_content}
use Rattle.pt_methods.specs.pt_text_operations.Slices.{slice_content}
use Rattle.pt_methods.specs.pt_fields.Fields.{format_content, join_content}
use Rattle.pt_methods.specs.Methods.{method_content}
use Rattle.pt_prims.specs.Arithmetic.{binary_content, unary_content}
use Rattle.pt_prims.specs.Calls.{call_content}
use Rattle.pt_methods.specs.pt_comparisons.Comparisons.{comparison_content}
use Rattle.pt_prims.specs.InPlace.{in_place_content}
use Rattle.pt_prims.specs.Spreads.{spread, spread_named}
use Rattle.pt_prims.specs.Subscripts.{add_to_dict, add_to_set, delete_subscript, set_subscript, subscript}
use Rattle.pt_methods.specs.pt_comparisons.Truths.{truth_content, inverse_content}

-- a row for each operation, by its number of operands; of another number of operands, and of operations that aren't there yet, there is none
abbrev pub content_of_one : Op → Value → List Object → Content
content_of_one Truth a h = truth_content h a
content_of_one Not a h = inverse_content h a
content_of_one (Unary op) a h = unary_content op h a
content_of_one Iter a h = iterator_content h a
content_of_one Next a h = next_content h a
content_of_one (Unpack n) a h = unpack_content h n a
content_of_one (UnpackStar n m) a h = starred_content h n m a
content_of_one SpreadOut a h = spread h a
content_of_one SpreadNamed a h = spread_named h a
content_of_one op a h = content.Outside Feature

abbrev pub content_of_two : Op → (a b : Value) → List Object → Content
content_of_two (Binary op) a b h = binary_content op h a b
content_of_two (InPlace op) a b h = in_place_content op h a b
content_of_two (Compare op) a b h = comparison_content op h a b
content_of_two Item a i h = subscript h a i
content_of_two DelItem a i h = delete_subscript h a i
content_of_two (Format c) v s h = format_content c h v s
content_of_two ListAdd made v h = list_add_content h made v
content_of_two SetAdd made v h = add_to_set h made v
content_of_two op a b h = content.Outside Feature

abbrev pub content_of_three : Op → (a b c : Value) → List Object → Content
content_of_three SetItem v a i h = set_subscript h v a i
content_of_three Slice a b s h = slice_content a b s
content_of_three DictAdd made k v h = add_to_dict h made k v
content_of_three op a b c h = content.Outside Feature

abbrev pub content_of_few : Op → List Value → List Object → Content
content_of_few op (a ∷ []) h = content_of_one op a h
content_of_few op (a ∷ b ∷ []) h = content_of_two op a b h
content_of_few op (a ∷ b ∷ c ∷ []) h = content_of_three op a b c h
content_of_few op vs h = content.Outside Feature

-- displays, f-strings and calls take any number of operands
abbrev pub content_of : Op → List Value → List Object → Content
content_of Tuple vs h = tuple_content vs
content_of ListOf vs h = list_content vs
content_of Set vs h = set_content h vs
content_of Dict vs h = dict_content h vs
content_of Join vs h = join_content h vs
content_of (Call f) vs h = call_content f vs h
content_of (CallMethod m) vs h = method_content m vs h
content_of op vs h = content_of_few op vs h

-- an answer for which objects are made, if there is room for them
abbrev pub if_room : List NewObject → List Object → PrimAns → PrimAns
if_room os h a = if has_room os h then a else answer.Outside Heap

-- the answer of a content, of an operation on these operands: new objects stand behind those that the heap has
abbrev pub placed : Content → List Value → List Object → PrimAns
placed (content.Value v) vs h = answer.Value v
placed (content.New o) vs h = if_room (o ∷ []) h (answer.Value (next_object h))
placed (content.NewValues os) vs h = if_room os h (answer.Values (places_from (length h) (length os)))
placed (content.Raise class t) vs h = if_room (Text t ∷ []) h (answer.Raise class (Some (next_object h)))
placed (content.Help helper inverted) vs h = answer.Help helper vs inverted
placed (content.Print t) vs h = answer.Print t
placed (content.Outside what) vs h = answer.Outside what
placed (content.Changed c a) vs h = if_room c.objects h a

-- the heap behind it: new objects, among them the text of an exception, are put behind the others
abbrev pub grown : Content → List Object → List Object
grown (content.New o) h = changed (added (o ∷ [])) h
grown (content.NewValues os) h = changed (added os) h
grown (content.Raise class t) h = changed (added (Text t ∷ [])) h
grown (content.Changed c a) h = changed c h
grown c h = h

abbrev pub prim_answer : Op → List Value → List Object → PrimAns
prim_answer op vs h = placed (content_of op vs h) vs h

abbrev pub prim_heap : Op → List Value → List Object → List Object
prim_heap op vs h = grown (content_of op vs h) h
