-- When a heap is sound. It begins with the builtin objects; every place that an object names lies in it; what stands where
-- a class is asked is one; and the base of a class stands before it, so that a chain of bases ends.
use Rattle.std.specs.Prelude.{◌≡◌, ℕ, ◌<◌, ◌≤◌, List, [], ◌∷◌, ◌++◌, Option, None, Some, length, take, slice_get, Contains}
use Rattle.pt_heap.specs.declared.value.Value.{Value}
use Rattle.pt_heap.specs.declared.value.Value.TheVariants.{Obj}
use Rattle.pt_heap.specs.declared.object.Class.{Class as ClassObject}
use Rattle.pt_heap.specs.declared.object.Object.{Object}
use Rattle.pt_heap.specs.declared.object.Object.TheVariants.{List as ListOf, Tuple, Dict, Set, Slice, Cursor, View, Function, Method, Builtin, Class, Instance, Error, Super}
use Rattle.pt_heap.specs.declared.view.Binding.{Binding}
use Rattle.pt_base.specs.declared.numbers.ObjId.{ObjId}
use Rattle.pt_heap.specs.Entries.{Entry}

-- the place that a value names
abbrev pub place_of : Value → List ℕ
place_of (Obj id) = id.0 ∷ []
place_of _ = []

abbrev pub place_in : Option ObjId → List ℕ
place_in None = []
place_in (Some id) = id.0 ∷ []

abbrev pub places_in : List Value → List ℕ
places_in [] = []
places_in (v ∷ vs) = place_of v ++ places_in vs

abbrev pub entry_places : List Entry → List ℕ
entry_places [] = []
entry_places (e ∷ es) = place_of e.first ++ place_of e.value ++ entry_places es

abbrev pub binding_places : List Binding → List ℕ
binding_places [] = []
binding_places (b ∷ bs) = place_of b.value ++ binding_places bs

abbrev pub receiver_place : Option Value → List ℕ
receiver_place None = []
receiver_place (Some v) = place_of v

-- the places that an object names
abbrev pub places_of : Object → List ℕ
places_of (ListOf vs) = places_in vs
places_of (Tuple vs) = places_in vs
places_of (Dict es) = entry_places es
places_of (Set es) = entry_places es
places_of (Slice s) = place_of s.start ++ place_of s.stop ++ place_of s.step
places_of (Cursor c) = place_in c.over
places_of (View v) = v.dict.0 ∷ []
places_of (Function f) = binding_places f.defaults
places_of (Method m) = place_of m.function ++ place_of m.receiver
places_of (Builtin b) = receiver_place b.receiver
places_of (Class c) = place_in c.base ++ entry_places c.names
places_of (Instance x) = x.class.0 ∷ entry_places x.names
places_of (Error x) = x.class.0 ∷ places_in x.args ++ place_in x.cause ++ place_in x.context ++ entry_places x.names
places_of (Super s) = s.class.0 ∷ place_of s.receiver
places_of _ = []

-- a class stands at a place
abbrev pub IsClassAt : List Object → ℕ → Type 0
IsClassAt h p = (c : ClassObject) × (slice_get h p ≡ Some (Class c))

-- the base of a class that stands at i
abbrev pub IsBase : List Object → ℕ → Option ObjId → Type 0
IsBase h i None = Unit {0}
IsBase h i (Some base) = (base.0 < i) × IsClassAt h base.0

-- classes stand where an object at i asks for one
abbrev pub HasClasses : List Object → ℕ → Object → Type 0
HasClasses h i (Class c) = IsBase h i c.base
HasClasses h i (Instance x) = IsClassAt h x.class.0
HasClasses h i (Error x) = IsClassAt h x.class.0
HasClasses h i (Super s) = IsClassAt h s.class.0
HasClasses h i _ = Unit {0}

-- an object fits a heap at a place
pub record Fits (h : List Object) (i : ℕ) (object : Object) : Type 0 where
  pub places : (p : ℕ) → Contains (places_of object) p → p < length h
  pub classes : HasClasses h i object

abbrev pub FitsLast : List Object → Object → Type 0
FitsLast h object = Fits h (length h) object

-- what a value names lies in a heap
abbrev pub IsWithin : List Object → Value → Type 0
IsWithin h (Obj id) = id.0 < length h
IsWithin h _ = Unit {0}

pub record IsSound (builtins h : List Object) : Type 0 where
  pub begins : take (length builtins) h ≡ builtins
  pub fits : (i : ℕ) (object : Object) → slice_get h i ≡ Some object → Fits h i object

-- an object may take the place of another: it fits there, a class stays a class, and no builtin object goes
pub record MayReplace (builtins h : List Object) (i : ℕ) (object : Object) : Type 0 where
  pub fits : Fits h i object
  pub class : IsClassAt h i → (c : ClassObject) × (object ≡ Class c)
  pub keeps_builtins : length builtins ≤ i

-- what stands below a place names nothing from there on, and the builtin objects stand below it
pub record IsClosedBelow (builtins h : List Object) (n : ℕ) : Type 0 where
  pub closed : (i : ℕ) (object : Object) → i < n → slice_get h i ≡ Some object → (p : ℕ) → Contains (places_of object) p → p < n
  pub keeps_builtins : length builtins ≤ n

-- a sound heap stays sound where something holds
abbrev pub StaysSound : List Object → List Object → (List Object → Type 0) → Type 0
StaysSound old new holds = (builtins : List Object) → IsSound builtins old → holds builtins → IsSound builtins new
