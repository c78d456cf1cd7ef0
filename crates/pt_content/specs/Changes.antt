-- What operations change in the heap (Language Reference 3.1): new objects go behind those that are there, and an object that
-- changes keeps its place and its kind.
use Rattle.std.specs.Prelude.{ℕ, zero, suc, ◌+◌, Bool, true, false, List, [], ◌∷◌, ◌++◌, Option, Some, None, length, map, nat_eq, slice_get, slice_set, if◌then◌else◌}
use Rattle.pt_base.specs.declared.numbers.ObjId.{ObjId}
use Rattle.pt_heap.specs.Limits.{object_limit}
use Rattle.pt_heap.specs.declared.value.Value.{Value}
use Rattle.pt_heap.specs.declared.value.Value.TheVariants.{Obj}
use Rattle.pt_heap.specs.declared.object.Object.{Object}
use Rattle.pt_heap.specs.declared.object.Object.TheVariants as object
use Rattle.pt_content.specs.declared.content.NewObject.{NewObject}
use Rattle.pt_content.specs.declared.content.NewObject.TheVariants as new
use Rattle.pt_content.specs.declared.content.Mutable.{Mutable}
use Rattle.pt_content.specs.declared.content.Mutable.TheVariants as mutable
use Rattle.pt_content.specs.declared.content.Replacement.{Replacement}
use Rattle.pt_content.specs.declared.content.Change.{Change}

-- a new object as it stands in the heap
abbrev pub made : NewObject → Object
made (new.Text t) = object.Str t
made (new.List vs) = object.List vs
made (new.Tuple vs) = object.Tuple vs
made (new.Dict es) = object.Dict es
made (new.Set es) = object.Set es
made (new.Range r) = object.Range r
made (new.Slice s) = object.Slice s
made (new.Cursor c) = object.Cursor c
made (new.View v) = object.View v
made (new.Method m) = object.Method m
made (new.Builtin b) = object.Builtin b

-- an object of the kind that holds this
abbrev pub has_kind : Mutable → Option Object → Bool
has_kind (mutable.List vs) (Some (object.List ws)) = true
has_kind (mutable.Dict es) (Some (object.Dict fs)) = true
has_kind (mutable.Set es) (Some (object.Set fs)) = true
has_kind (mutable.Cursor c) (Some (object.Cursor d)) = true
has_kind m o = false

abbrev pub holding : Mutable → Object
holding (mutable.List vs) = object.List vs
holding (mutable.Dict es) = object.Dict es
holding (mutable.Set es) = object.Set es
holding (mutable.Cursor c) = object.Cursor c

-- an object holds something else from now on; one of another kind stays as it is
abbrev pub replaced_by : Replacement → List Object → List Object
replaced_by r h = if has_kind r.object (slice_get h r.id.0) then slice_set h r.id.0 (holding r.object) else h

abbrev pub replaced : Option Replacement → List Object → List Object
replaced None h = h
replaced (Some r) h = replaced_by r h

-- whether the heap isn't full before any of some objects is put behind the others
abbrev pub room_from : (place : ℕ) → List NewObject → Bool
room_from p [] = true
room_from p (o ∷ os) = if nat_eq p object_limit then false else room_from (p + 1) os

abbrev pub has_room : List NewObject → List Object → Bool
has_room os h = room_from (length h) os

-- a change happens whole or, where there isn't room, not at all
abbrev pub changed : Change → List Object → List Object
changed c h = if has_room c.objects h then replaced c.replacement (h ++ map made c.objects) else h

abbrev pub added : List NewObject → Change
added os = record { replacement = None; objects = os }

abbrev pub replacing : ObjId → Mutable → Change
replacing id m = record { replacement = Some (record { id = id; object = m }); objects = [] }

-- the objects at so many places from one on
abbrev pub places_from : (place count : ℕ) → List Value
places_from p zero = []
places_from p (suc n) = Obj (record { 0 = p }) ∷ places_from (p + 1) n

-- the place of the next new object
abbrev pub next_place : List Object → ObjId
next_place h = record { 0 = length h }

abbrev pub next_object : List Object → Value
next_object h = Obj (next_place h)
