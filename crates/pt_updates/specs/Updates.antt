-- What an object holds behind an update, and the heap then (Language Reference 6.2.4, 7.2; Library Reference, "Mutable Sequence Types",
-- "Set Types", "Mapping Types": a key that is there keeps its place and its first form).
use Rattle.std.specs.Prelude.{◌≡◌, Bool, true, false, List, [], ◌∷◌, ◌++◌, Option, Some, None, length, nat_lt, slice_get, slice_set}
use Rattle.pt_base.specs.declared.numbers.ObjId.{ObjId}
use Rattle.pt_heap.specs.Entries.{put}
use Rattle.pt_heap.specs.Limits.{entry_limit}
use Rattle.pt_heap.specs.declared.value.Value.TheVariants as value
use Rattle.pt_heap.specs.declared.object.Object.{Object}
use Rattle.pt_heap.specs.declared.object.Object.TheVariants as object
use Rattle.pt_mappings.specs.Entering.{has_room}
use Rattle.pt_updates.specs.declared.update.Update.{Update}
use Rattle.pt_updates.specs.declared.update.Update.TheVariants as update

abbrev pub unless : Bool → Object → Option Object
unless true o = Some o
unless false o = None

-- none, where the object is of another kind, has no room or has no such item
abbrev pub with_update : Update → Object → Option Object
with_update (update.Append v) (object.List vs) = unless (nat_lt (length vs) entry_limit) (object.List (vs ++ v ∷ []))
with_update (update.Item i v) (object.List vs) = unless (nat_lt i (length vs)) (object.List (slice_set vs i v))
with_update (update.Entry k first v) (object.Dict es) = unless (has_room k es) (object.Dict (put k first v es))
with_update (update.Member k v) (object.Set es) = unless (has_room k es) (object.Set (put k v value.None es))
with_update u o = None

abbrev pub put_in : ObjId → List Object → Option Object → Option (List Object)
put_in id h None = None
put_in id h (Some o) = Some (slice_set h id.0 o)

abbrev pub updated_at : Update → ObjId → List Object → Option Object → Option (List Object)
updated_at u id h None = None
updated_at u id h (Some o) = put_in id h (with_update u o)

-- the heap behind an update of the object at a place
abbrev pub updated : Update → ObjId → List Object → Option (List Object)
updated u id h = updated_at u id h (slice_get h id.0)

-- an update was made, or it can't be, and all is as before
abbrev pub IsWith : Option Object → (old new : Object) → Bool → Type 0
IsWith u old new true = u ≡ Some new
IsWith u old new false = (u ≡ None) × (new ≡ old)

abbrev pub IsUpdated : Option (List Object) → (old new : List Object) → Bool → Type 0
IsUpdated u old new true = u ≡ Some new
IsUpdated u old new false = (u ≡ None) × (new ≡ old)
