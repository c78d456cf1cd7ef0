-- Places that are marked one after the other, each once, and what is known of them.
use Rattle.std.specs.Prelude.{◌≡◌, ◌+◌, ◌<◌, ◌≤◌, ◌⊎◌, ℕ, Bool, true, false, List, [], Option, Some, length, nat_eq, slice_get, if◌then◌else◌}
use Rattle.indexmap.specs.IndexSet.{insert_key}
use Rattle.pt_base.specs.declared.numbers.ObjId.{ObjId}
use Rattle.pt_heap.specs.declared.value.Value.{Value}
use Rattle.pt_heap.specs.declared.value.Value.TheVariants.{Obj}
use Rattle.pt_heap.specs.declared.object.Object.{Object}
use Rattle.pt_heap.specs.declared.object.Object.TheVariants as object
use Rattle.pt_content.specs.Operands.{operand_of}
use Rattle.pt_reprs.specs.Reached.{any_of, is_instance, parts_of, reaches}

abbrev pub is_container : Option Object → Bool
is_container (Some (object.List vs)) = true
is_container (Some (object.Tuple vs)) = true
is_container (Some (object.Dict es)) = true
is_container (Some (object.Set es)) = true
is_container (Some (object.View v)) = true
is_container (Some (object.Error x)) = true
is_container o = false

-- a container, view or exception is marked by its place
abbrev pub with_mark : List Object → List ℕ → Value → List ℕ
with_mark h ks (Obj id) = if is_container (slice_get h id.0) then insert_key nat_eq ks id.0 else ks
with_mark h ks v = ks

abbrev pub at_place : ℕ → Value
at_place p = Obj (record { 0 = p })

abbrev pub has_instance : List Object → List Value → Bool
has_instance h vs = any_of (λ v. is_instance (operand_of h v)) vs

abbrev pub IsMarked : List ℕ → ℕ → Type 0
IsMarked ks p = (i : ℕ) × (slice_get ks i ≡ Some p)

-- no instance, and what is reached from it is reached from what is marked
abbrev pub Settled : List Object → List ℕ → Value → Type 0
Settled h ks v = (is_instance (operand_of h v) ≡ false) × ((parts_of h v ≡ []) ⊎ ((p : ℕ) × (v ≡ at_place p) × IsMarked ks p))

-- the first of some values are marked too, behind those that were marked before
pub record MarksFirst (h : List Object) (old new : List ℕ) (vs : List Value) (n : ℕ) : Type 0 where
  pub grows : length old ≤ length new
  pub stay : (i p : ℕ) → slice_get old i ≡ Some p → slice_get new i ≡ Some p
  pub added : (i p : ℕ) → slice_get new i ≡ Some p → (slice_get old i ≡ Some p) ⊎ ((length old ≤ i) × (p < length h) × ((j : ℕ) × (slice_get vs j ≡ Some (at_place p))))
  pub settled : (j : ℕ) (v : Value) → j < n → slice_get vs j ≡ Some v → Settled h new v

-- a place from which no more is reached than from a value, at most so many steps later
pub record Leads (h : List Object) (v : Value) (i p : ℕ) : Type 0 where
  pub plain : is_instance (operand_of h (at_place p)) ≡ false
  pub within : p < length h
  pub reached : (n : ℕ) → reaches h n (at_place p) ≡ true → reaches h (n + i) v ≡ true

-- what is reached from the first marked places is marked
pub record Follows (h : List Object) (v : Value) (ks : List ℕ) (n : ℕ) : Type 0 where
  pub begins : (p : ℕ) × (v ≡ at_place p) × IsMarked ks p
  pub leads : (i p : ℕ) → slice_get ks i ≡ Some p → Leads h v i p
  pub closed : (i p j : ℕ) (w : Value) → i < n → slice_get ks i ≡ Some p → slice_get (parts_of h (at_place p)) j ≡ Some w → Settled h ks w
