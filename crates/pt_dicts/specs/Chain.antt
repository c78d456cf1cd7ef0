-- What a class and its bases have under a name (Language Reference 3.3.1, 8.8).
use Rattle.std.specs.Prelude.{ℕ, zero, suc, ◌+◌, List, Option, None, Some, slice_get}
use Rattle.pt_base.specs.declared.numbers.ObjId.{ObjId}
use Rattle.pt_heap.specs.declared.value.Value.{Value}
use Rattle.pt_heap.specs.declared.object.Class.{Class as ClassObject}
use Rattle.pt_heap.specs.declared.object.Object.{Object}
use Rattle.pt_heap.specs.declared.object.Object.TheVariants.{Class}
use Rattle.pt_heap.specs.Entries.{found}

abbrev pub class_in : Option Object → Option ClassObject
class_in (Some (Class c)) = Some c
class_in _ = None

-- the value of a class, else what its base has
abbrev pub or_base : (ℕ → Option Value) → Option ObjId → Option Value → Option Value
or_base above base (Some v) = Some v
or_base above (Some id) None = above id.0
or_base above None None = None

abbrev pub found_in : (ℕ → Option Value) → (key : List ℕ) → Option ClassObject → Option Value
found_in above key None = None
found_in above key (Some c) = or_base above c.base (found key c.names)

-- the value under a key in a class or the nearest of its bases, of at most so many classes
unfoldable pub found_along : List Object → (most : ℕ) → (key : List ℕ) → (class : ℕ) → Option Value
found_along h zero key p = None
found_along h (suc most) key p = found_in (found_along h most key) key (class_in (slice_get h p))

-- a base stands before its class, so a class has no more bases than its place says
abbrev pub class_value : List Object → (key : List ℕ) → ObjId → Option Value
class_value h key id = found_along h (id.0 + 1) key id.0
