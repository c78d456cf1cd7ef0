-- Subscripts of any value, and what comprehensions put into what they make (Language Reference 6.2.4, 6.3.2, 7.2, 7.5).
use Rattle.std.specs.Prelude.{List, Option, Some, slice_get}
use Rattle.pt_base.specs.declared.numbers.ObjId.{ObjId}
use Rattle.pt_base.specs.declared.what.What.TheVariants.{Feature}
use Rattle.pt_heap.specs.declared.value.Value.{Value}
use Rattle.pt_heap.specs.declared.value.Value.TheVariants as value
use Rattle.pt_heap.specs.declared.object.Object.{Object}
use Rattle.pt_heap.specs.declared.object.Object.TheVariants as object
use Rattle.pt_content.specs.pt_attrs.Look.{object_of}
use Rattle.pt_content.specs.declared.content.Content.{Content}
use Rattle.pt_content.specs.declared.content.Content.TheVariants as content
use Rattle.pt_methods.specs.pt_mappings.Items.{delete_item_content, set_item_content}
use Rattle.pt_methods.specs.pt_mappings.Items as dictionary
use Rattle.pt_methods.specs.pt_sequences.Items.{not_subscriptable}
use Rattle.pt_methods.specs.pt_list_changes.Items as list
use Rattle.pt_methods.specs.pt_sets.Members.{add_content}
use Rattle.pt_methods.specs.pt_text_operations.Slices.{subscript_content}

-- `a[b]`
abbrev pub item_in : List Object → (container index : Value) → Option Object → Content
item_in h a i (Some (object.Dict es)) = dictionary.item_content h es i
item_in h a i o = subscript_content h a i

abbrev pub subscript : List Object → (container index : Value) → Content
subscript h a i = item_in h a i (object_of h a)

-- `a[b] = c`
abbrev pub set_in : List Object → ObjId → (index value : Value) → Option Object → Content
set_in h id i v (Some (object.Dict es)) = set_item_content h id es i v
set_in h id i v (Some (object.List vs)) = list.set_item_content h v (value.Obj id) i
set_in h id i v o = not_subscriptable h (value.Obj id)

abbrev pub set_subscript : List Object → (value container index : Value) → Content
set_subscript h v (value.Obj id) i = set_in h id i v (slice_get h id.0)
set_subscript h v a i = not_subscriptable h a

-- `del a[b]`
abbrev pub delete_in : List Object → ObjId → (index : Value) → Option Object → Content
delete_in h id i (Some (object.Dict es)) = delete_item_content h id es i
delete_in h id i (Some (object.List vs)) = list.delete_item_content h (value.Obj id) i
delete_in h id i o = not_subscriptable h (value.Obj id)

abbrev pub delete_subscript : List Object → (container index : Value) → Content
delete_subscript h (value.Obj id) i = delete_in h id i (slice_get h id.0)
delete_subscript h a i = not_subscriptable h a

-- an item of the set that a comprehension makes
abbrev pub added_in : List Object → ObjId → (item : Value) → Option Object → Content
added_in h id v (Some (object.Set es)) = add_content h id es v
added_in h id v o = content.Outside Feature

abbrev pub add_to_set : List Object → (made item : Value) → Content
add_to_set h (value.Obj id) v = added_in h id v (slice_get h id.0)
add_to_set h a v = content.Outside Feature

-- an entry of the dictionary that a comprehension makes
abbrev pub entered_in : List Object → ObjId → (key value : Value) → Option Object → Content
entered_in h id k v (Some (object.Dict es)) = set_item_content h id es k v
entered_in h id k v o = content.Outside Feature

abbrev pub add_to_dict : List Object → (made key value : Value) → Content
add_to_dict h (value.Obj id) k v = entered_in h id k v (slice_get h id.0)
add_to_dict h a k v = content.Outside Feature
