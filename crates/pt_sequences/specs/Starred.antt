-- Items of a value for targets of which one has a star (Language Reference 7.2).
use Rattle.std.specs.Prelude.{ℕ, ◌+◌, ◌-◌, List, [], ◌∷◌, ◌++◌, Option, Some, None, codes, length, nat_lt, take, drop, if◌then◌else◌}
use Rattle.pt_base.specs.declared.what.What.TheVariants.{Feature}
use Rattle.pt_heap.specs.declared.value.Value.{Value}
use Rattle.pt_heap.specs.declared.object.Object.{Object}
use Rattle.pt_heap.specs.declared.object.Object.TheVariants as object
use Rattle.pt_content.specs.pt_attrs.Look.{object_of}
use Rattle.pt_content.specs.declared.answer.Helper.TheVariants.{ListOf}
use Rattle.pt_content.specs.declared.answer.PrimAns.TheVariants as answer
use Rattle.pt_content.specs.declared.class.TheConstants.{VALUE_ERROR}
use Rattle.pt_content.specs.declared.content.Content.{Content}
use Rattle.pt_content.specs.declared.content.Content.TheVariants as content
use Rattle.pt_content.specs.declared.content.NewObject.TheVariants as new
use Rattle.pt_content.specs.Changes.{added, next_object}
use Rattle.pt_content.specs.Operands.{operand_of}
use Rattle.pt_sequences.specs.Cursors.{asked_or}

-- the first items, a new list of those between, and the last ones
abbrev pub around_list : List Object → (first between last : List Value) → Content
around_list h first between last =
    content.Changed (added (new.List between ∷ [])) (answer.Values (first ++ next_object h ∷ last))

-- of what stands behind the first items, all but so many last ones are between
abbrev pub parted_behind : List Object → (after : ℕ) → (first behind : List Value) → Content
parted_behind h m first behind =
    around_list h first (take (length behind - m) behind) (drop (length behind - m) behind)

abbrev pub starred_items : List Object → (before after : ℕ) → List Value → Content
starred_items h n m vs =
    if nat_lt (length vs) (n + m) then content.Raise VALUE_ERROR (codes "not enough values to unpack")
    else parted_behind h m (take n vs) (drop n vs)

abbrev pub starred : List Object → (before after : ℕ) → Value → Option Object → Content
starred h n m v (Some (object.List vs)) = starred_items h n m vs
starred h n m v (Some (object.Tuple vs)) = starred_items h n m vs
starred h n m v (Some (object.Range r)) = content.Outside Feature
starred h n m v (Some (object.Str t)) = content.Outside Feature
starred h n m v (Some (object.Dict es)) = content.Outside Feature
starred h n m v (Some (object.Set es)) = content.Outside Feature
starred h n m v (Some (object.View w)) = content.Outside Feature
starred h n m v (Some (object.Cursor c)) = content.Outside Feature
starred h n m v (Some (object.Generator g)) = content.Outside Feature
starred h n m v o = asked_or ListOf (codes "iterable") h v (operand_of h v)

abbrev pub starred_content : List Object → (before after : ℕ) → Value → Content
starred_content h n m v = starred h n m v (object_of h v)
