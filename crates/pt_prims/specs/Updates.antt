-- Operations that put an item into a list, dictionary or set (Language Reference 6.2.4, 7.2; Library Reference, "Mutable Sequence Types").
use Rattle.std.specs.Prelude.{◌≡◌, ℕ, pos, Bool, true, false, List, [], ◌∷◌, Option, Some, None, length, nat_lt, slice_get, if◌then◌else◌}
use Rattle.pt_base.specs.declared.numbers.ObjId.{ObjId}
use Rattle.pt_heap.specs.declared.value.Value.{Value}
use Rattle.pt_heap.specs.declared.value.Value.TheVariants as value
use Rattle.pt_heap.specs.declared.object.Object.{Object}
use Rattle.pt_heap.specs.declared.object.Object.TheVariants as object
use Rattle.pt_content.specs.declared.answer.PrimAns.TheVariants as answer
use Rattle.pt_content.specs.declared.method_name.MethodName.TheVariants.{Append, Add}
use Rattle.pt_content.specs.declared.op.Op.{Op}
use Rattle.pt_content.specs.declared.op.Op.TheVariants.{SetItem, ListAdd, SetAdd, DictAdd, CallMethod}
use Rattle.pt_methods.specs.pt_mappings.Keyed.{key_in}
use Rattle.pt_methods.specs.pt_mappings.declared.keyed.Keyed.{Keyed}
use Rattle.pt_methods.specs.pt_mappings.declared.keyed.Keyed.TheVariants as keyed
use Rattle.pt_updates.specs.declared.update.Update.{Update}
use Rattle.pt_updates.specs.declared.update.Update.TheVariants as update
use Rattle.pt_prims.specs.Operations.{prim_answer, prim_heap}

-- by an index from 0; one below 0 counts from the end, and what is no number is refused
abbrev pub as_item : ObjId → (count : ℕ) → (index value : Value) → Option (ObjId × Update)
as_item id n (value.Int (pos i)) v = if nat_lt i n then Some (id, update.Item i v) else None
as_item id n i v = None

abbrev pub entry_by : ObjId → (first value : Value) → Keyed → Option (ObjId × Update)
entry_by id w v (keyed.Key k) = Some (id, update.Entry k w v)
entry_by id w v (keyed.Refused c) = None

abbrev pub as_entry : List Object → ObjId → (first value : Value) → Option (ObjId × Update)
as_entry h id w v = entry_by id w v (key_in h w)

abbrev pub member_by : ObjId → (item : Value) → Keyed → Option (ObjId × Update)
member_by id v (keyed.Key k) = Some (id, update.Member k v)
member_by id v (keyed.Refused c) = None

abbrev pub as_member : List Object → ObjId → (item : Value) → Option (ObjId × Update)
as_member h id v = member_by id v (key_in h v)

-- `a[b] = c`
abbrev pub stored_in : List Object → ObjId → (index value : Value) → Option Object → Option (ObjId × Update)
stored_in h id i v (Some (object.List vs)) = as_item id (length vs) i v
stored_in h id i v (Some (object.Dict es)) = as_entry h id i v
stored_in h id i v o = None

-- the update that an operation is, and the place of its object
abbrev pub update_of : Op → List Value → List Object → Option (ObjId × Update)
update_of ListAdd (value.Obj id ∷ v ∷ []) h = Some (id, update.Append v)
update_of (CallMethod Append) (value.Obj id ∷ v ∷ []) h = Some (id, update.Append v)
update_of SetItem (v ∷ value.Obj id ∷ i ∷ []) h = stored_in h id i v (slice_get h id.0)
update_of DictAdd (value.Obj id ∷ k ∷ v ∷ []) h = as_entry h id k v
update_of SetAdd (value.Obj id ∷ v ∷ []) h = as_member h id v
update_of (CallMethod Add) (value.Obj id ∷ v ∷ []) h = as_member h id v
update_of op vs h = None

-- an operation was done, which answers None; or all is as before
abbrev pub IsMade : Op → List Value → (old new : List Object) → Bool → Type 0
IsMade op vs old new true = (prim_answer op vs old ≡ answer.Value value.None) × (new ≡ prim_heap op vs old)
IsMade op vs old new false = new ≡ old
