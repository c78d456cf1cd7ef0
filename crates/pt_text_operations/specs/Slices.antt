-- Slices, and items by slices (Language Reference 6.3.2, 6.3.3; Library Reference, "Common Sequence Operations").
use Rattle.std.specs.Prelude.{List, Option, Some, Result, Ok, Err}
use Rattle.std.specs.Str.{chars}
use Rattle.pt_base.specs.declared.numbers.ObjId.{ObjId}
use Rattle.pt_heap.specs.declared.value.Value.{Value}
use Rattle.pt_heap.specs.declared.object.Object.{Object}
use Rattle.pt_heap.specs.declared.object.Object.TheVariants as object
use Rattle.pt_heap.specs.declared.object.Slice.{Slice}
use Rattle.pt_strs.specs.Answer.{within}
use Rattle.pt_strs.specs.Slice.{sliced}
use Rattle.pt_content.specs.pt_attrs.Look.{object_of}
use Rattle.pt_content.specs.declared.content.Content.{Content}
use Rattle.pt_content.specs.declared.content.Content.TheVariants as content
use Rattle.pt_content.specs.declared.content.NewObject.TheVariants as new
use Rattle.pt_content.specs.TypeErrors.{bad_argument}
use Rattle.pt_sequences.specs.Displays.{list_content, tuple_content}
use Rattle.pt_sequences.specs.Items.{item_content, unindexed}
use Rattle.pt_text_operations.specs.Answers.{answered}
use Rattle.pt_text_operations.specs.declared.bounds.Bounds.{Bounds}
use Rattle.pt_text_operations.specs.Bounds.{bounds_of}
use Rattle.pt_text_operations.specs.Picked.{picked, picked_range}

-- a slice of any three values
abbrev pub slice_content : (start stop step : Value) → Content
slice_content a b s = content.New (new.Slice (record { start = a; stop = b; step = s }))

-- by parts that are known; another container is asked for no such item
abbrev pub sliced_by : List Object → (container : Value) → Bounds → Option Object → Content
sliced_by h v b (Some (object.Str t)) = answered (within (sliced b.start b.stop b.step (chars t)))
sliced_by h v b (Some (object.List vs)) = list_content (picked b vs)
sliced_by h v b (Some (object.Tuple vs)) = tuple_content (picked b vs)
sliced_by h v b (Some (object.Range r)) = picked_range b r
sliced_by h v b o = unindexed h v o

abbrev pub sliced_if : List Object → (container : Value) → Result Bounds ObjId → Content
sliced_if h v (Ok b) = sliced_by h v b (object_of h v)
sliced_if h v (Err class) = bad_argument class

-- the parts are looked at where a text, list, tuple or range is asked for them
abbrev pub sliced_in : List Object → (container : Value) → Slice → Option Object → Content
sliced_in h v s (Some (object.Str t)) = sliced_if h v (bounds_of h s)
sliced_in h v s (Some (object.List vs)) = sliced_if h v (bounds_of h s)
sliced_in h v s (Some (object.Tuple vs)) = sliced_if h v (bounds_of h s)
sliced_in h v s (Some (object.Range r)) = sliced_if h v (bounds_of h s)
sliced_in h v s o = unindexed h v o

abbrev pub subscript_by : List Object → (container index : Value) → Option Object → Content
subscript_by h v i (Some (object.Slice s)) = sliced_in h v s (object_of h v)
subscript_by h v i o = item_content h v i

-- `a[b]`, also by a slice
abbrev pub subscript_content : List Object → (container index : Value) → Content
subscript_content h v i = subscript_by h v i (object_of h i)
