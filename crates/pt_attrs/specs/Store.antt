-- Names that are given to a value, and taken from it (Language Reference 7.2, 7.5).
use Rattle.std.specs.Prelude.{◌≡◌, ℕ, Bool, true, false, List, [], Option, None, Some, Result, Ok, Err, slice_get, slice_set, if◌then◌else◌, IsSome}
use Rattle.pt_base.specs.declared.failure.Failure.{Failure}
use Rattle.pt_base.specs.declared.failure.Failure.TheVariants.{Refused, Memory}
use Rattle.pt_base.specs.declared.numbers.ObjId.{ObjId}
use Rattle.pt_heap.specs.declared.value.Value.{Value}
use Rattle.pt_heap.specs.declared.value.Value.TheVariants as value
use Rattle.pt_heap.specs.declared.object.Object.{Object}
use Rattle.pt_heap.specs.declared.object.Object.TheVariants as object
use Rattle.pt_heap.specs.declared.object.Class.{Class as ClassObject}
use Rattle.pt_heap.specs.Entries.{Entry, found, put, without}
use Rattle.pt_heap.specs.Sound.{IsSound}
use Rattle.pt_builtin_objects.specs.Start.{start_objects}
use Rattle.pt_dicts.specs.Chain.{class_in}
use Rattle.pt_dicts.specs.Keys.{name_codes}
use Rattle.pt_attrs.specs.declared.look.NoAttr.{NoAttr}

abbrev pub is_scripted : Option ClassObject → Bool
is_scripted (Some c) = c.scripted
is_scripted None = false

-- the names that an object holds: those of a script's class, and of an instance of one
abbrev pub held : List Object → Object → Option (List Entry)
held h (object.Class c) = if c.scripted then Some c.names else None
held h (object.Instance x) = if is_scripted (class_in (slice_get h x.class.0)) then Some x.names else None
held h (object.Error x) = if is_scripted (class_in (slice_get h x.class.0)) then Some x.names else None
held h _ = None

-- the object with other names
abbrev pub with_names : Object → List Entry → Object
with_names (object.Class c) names = object.Class (record c { names = names })
with_names (object.Instance x) names = object.Instance (record x { names = names })
with_names (object.Error x) names = object.Error (record x { names = names })
with_names o names = o

-- the names in an object, whether or not it holds some for scripts
abbrev pub names_in : Object → List Entry
names_in (object.Class c) = c.names
names_in (object.Instance x) = x.names
names_in (object.Error x) = x.names
names_in o = []

-- with a name given a value
abbrev pub with_name : Object → (key : List ℕ) → Value → Object
with_name o key v = with_names o (put key value.None v (names_in o))

-- an object stands there and holds names
abbrev pub Holds : List Object → Option Object → Type 0
Holds h None = ⊥
Holds h (Some o) = IsSome (held h o)

abbrev pub stored_in : List Object → (place : ℕ) → (key : List ℕ) → Value → Object → Option (List Entry) → Option (List Object)
stored_in h p key v o None = None
stored_in h p key v o (Some names) = Some (slice_set h p (with_names o (put key value.None v names)))

abbrev pub stored_at : List Object → (place : ℕ) → (key : List ℕ) → Value → Option Object → Option (List Object)
stored_at h p key v None = None
stored_at h p key v (Some o) = stored_in h p key v o (held h o)

-- the heap with a name given to a value, where that can hold names
abbrev pub stored : List Object → (to : Value) → (key : List ℕ) → Value → Option (List Object)
stored h (value.Obj id) key v = stored_at h id.0 key v (slice_get h id.0)
stored h _ key v = None

abbrev pub without_name : List Object → (place : ℕ) → (key : List ℕ) → Object → (names : List Entry) → Option Value → Option (List Object)
without_name h p key o names None = None
without_name h p key o names (Some v) = Some (slice_set h p (with_names o (without key names)))

abbrev pub deleted_in : List Object → (place : ℕ) → (key : List ℕ) → Object → Option (List Entry) → Option (List Object)
deleted_in h p key o None = None
deleted_in h p key o (Some names) = without_name h p key o names (found key names)

-- the heap without a name of a value, where that holds it
abbrev pub deleted_at : List Object → (place : ℕ) → (key : List ℕ) → Option Object → Option (List Object)
deleted_at h p key None = None
deleted_at h p key (Some o) = deleted_in h p key o (held h o)

abbrev pub deleted : List Object → (from : Value) → (key : List ℕ) → Option (List Object)
deleted h (value.Obj id) key = deleted_at h id.0 key (slice_get h id.0)
deleted h _ key = None

-- the same by the name
abbrev pub assigned : List Object → (to : Value) → (name : List ℕ) → Value → Option (List Object)
assigned h to name v = stored h to (name_codes name) v

abbrev pub unassigned : List Object → (from : Value) → (name : List ℕ) → Option (List Object)
unassigned h from name = deleted h from (name_codes name)

-- the heap is this, unless memory ran out; else it is as before
abbrev pub Changes : (old new : List Object) → Result (Unit {0}) (Failure NoAttr) → Option (List Object) → Type 0
Changes old new (Ok u) wanted = wanted ≡ Some new
Changes old new (Err Memory) wanted = new ≡ old
Changes old new (Err (Refused e)) wanted = (wanted ≡ None) × (new ≡ old)

-- a heap that is sound over what each run starts with stays so
abbrev pub StaysSound : (old new : List Object) → Type 0
StaysSound old new = IsSound start_objects old → IsSound start_objects new

-- the heap without the name, or as before
abbrev pub TakesAt : (old new : List Object) → ObjId → (key : List ℕ) → Bool → Type 0
TakesAt old new id key true = deleted old (value.Obj id) key ≡ Some new
TakesAt old new id key false = (deleted old (value.Obj id) key ≡ None) × (new ≡ old)
