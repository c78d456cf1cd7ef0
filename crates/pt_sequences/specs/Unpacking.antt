-- As many items of a value as there are targets (Language Reference 7.2).
use Rattle.std.specs.Prelude.{ℕ, zero, suc, ◌+◌, false, List, [], ◌++◌, Option, Some, None, length, codes, map, nat_lt, option_to_list, if◌then◌else◌}
use Rattle.std.specs.Str.{chars}
use Rattle.std.specs.Char.{encode_utf8}
use Rattle.pt_base.specs.declared.what.What.TheVariants.{Feature}
use Rattle.pt_heap.specs.declared.value.Value.{Value}
use Rattle.pt_heap.specs.declared.object.Object.{Object}
use Rattle.pt_heap.specs.declared.object.Object.TheVariants as object
use Rattle.pt_heap.specs.declared.object.Range.{Range}
use Rattle.pt_content.specs.pt_attrs.Look.{object_of}
use Rattle.pt_content.specs.declared.answer.Helper.TheVariants.{TakeOf}
use Rattle.pt_content.specs.declared.answer.PrimAns.TheVariants as answer
use Rattle.pt_content.specs.declared.class.TheConstants.{VALUE_ERROR}
use Rattle.pt_content.specs.declared.content.Content.{Content}
use Rattle.pt_content.specs.declared.content.Content.TheVariants as content
use Rattle.pt_content.specs.declared.content.NewObject.{NewObject}
use Rattle.pt_content.specs.declared.content.NewObject.TheVariants as new
use Rattle.pt_content.specs.Changes.{added}
use Rattle.pt_content.specs.Operands.{operand_of}
use Rattle.pt_sequences.specs.Cursors.{asked_or}
use Rattle.pt_sequences.specs.Ranges.{range_length, range_value}

-- more or fewer values than are wanted
abbrev pub mismatch : (wanted there : ℕ) → Option Content
mismatch n m =
    if nat_lt n m then Some (content.Raise VALUE_ERROR (codes "too many values to unpack"))
    else (if nat_lt m n then Some (content.Raise VALUE_ERROR (codes "not enough values to unpack")) else None)

abbrev pub unless : Option Content → Content → Content
unless (Some c) d = c
unless None d = d

abbrev pub values : List Value → Content
values vs = content.Changed (added []) (answer.Values vs)

abbrev pub items_content : (count : ℕ) → List Value → Content
items_content n vs = unless (mismatch n (length vs)) (values vs)

-- the integers of a range at so many places from one on
abbrev pub integers_from : Range → (place count : ℕ) → List Value
integers_from r i zero = []
integers_from r i (suc n) = option_to_list (range_value r i) ++ integers_from r (i + 1) n

abbrev pub integers_content : (count : ℕ) → Range → Content
integers_content n r = unless (mismatch n (range_length r)) (values (integers_from r 0 n))

-- each character is a text of its own
abbrev pub char_texts : List ℕ → List NewObject
char_texts cs = map (λ c. new.Text (encode_utf8 c)) cs

abbrev pub chars_content : (count : ℕ) → List ℕ → Content
chars_content n cs = unless (mismatch n (length cs)) (content.NewValues (char_texts cs))

abbrev pub unpacked : List Object → (count : ℕ) → Value → Option Object → Content
unpacked h n v (Some (object.List vs)) = items_content n vs
unpacked h n v (Some (object.Tuple vs)) = items_content n vs
unpacked h n v (Some (object.Range r)) = integers_content n r
unpacked h n v (Some (object.Str t)) = chars_content n (chars t)
unpacked h n v (Some (object.Dict es)) = content.Outside Feature
unpacked h n v (Some (object.Set es)) = content.Outside Feature
unpacked h n v (Some (object.View w)) = content.Outside Feature
unpacked h n v (Some (object.Cursor c)) = content.Outside Feature
unpacked h n v (Some (object.Generator g)) = content.Help (TakeOf n) false
unpacked h n v o = asked_or (TakeOf n) (codes "iterable") h v (operand_of h v)

abbrev pub unpack_content : List Object → (count : ℕ) → Value → Content
unpack_content h n v = unpacked h n v (object_of h v)
