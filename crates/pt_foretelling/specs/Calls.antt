-- The first positional argument of a call whose values lie in slots: below the others lies what is
-- called, and above that the arguments, the last on top (Language Reference 6.3.4).
use Rattle.std.specs.Prelude.{ℕ, zero, suc, nat_lt, ◌-◌, List, [], ◌∷◌, Option, Some, None, slice_get, if◌then◌else◌}
use Rattle.std.specs.Option.{option_or}
use Rattle.pt_heap.specs.declared.value.Value.{Value}
use Rattle.pt_heap.specs.declared.value.Value.TheVariants as value
use Rattle.pt_heap.specs.declared.object.Object.{Object}
use Rattle.pt_heap.specs.declared.object.Object.TheVariants as object
use Rattle.pt_content.specs.pt_attrs.Look.{object_of}
use Rattle.pt_frames.specs.declared.slot.Slot.{Slot}
use Rattle.pt_frames.specs.declared.slot.Slot.TheVariants as slot
use Rattle.pt_tree.specs.Syntax.{Name}
use Rattle.sem_control.specs.control.Turn as T
use Rattle.sem_control.specs.control.Turn.{Role}
use Rattle.sem_code.specs.slots.Instructions.{role_of}
use Rattle.pt_host.specs.declared.places.TheConstants.{MISSING}

abbrev pub value_in : Option Slot → Value
value_in (Some (slot.Value v)) = v
value_in o = value.None

-- the values in so many uppermost slots, the lowest first
abbrev pub values_in : ℕ → List Slot → List Value
values_in zero slots = []
values_in (suc n) slots = value_in (slice_get slots n) ∷ values_in n slots

abbrev pub first_item : Option Object → Option Value
first_item (Some (object.Tuple (v ∷ vs))) = Some v
first_item o = None

-- that among what one argument passes
abbrev pub first_of : List Object → Role → Value → Option Value
first_of h T.positional v = Some v
first_of h T.spread v = first_item (object_of h v)
first_of h r v = None

-- each is passed as its text says
abbrev pub first_by : List Object → List Name → ℕ → List Slot → Option Value
first_by h (x ∷ xs) (suc n) slots =
    option_or (first_of h (role_of x) (value_in (slice_get slots n))) (first_by h xs n slots)
first_by h xs n slots = None

-- all but the last ones are passed by position
abbrev pub first_plain : (count named : ℕ) → List Slot → Option Value
first_plain n k slots =
    if nat_lt k n then Some (value_in (slice_get slots (n - 1))) else None

abbrev pub or_missing : Option Value → Value
or_missing (Some v) = v
or_missing None = value.Obj MISSING
