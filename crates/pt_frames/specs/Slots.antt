-- The exception that slots are busy with (Language Reference 8.4 "The try statement", 7.8 "The raise statement").
use Rattle.std.specs.Prelude.{List, [], ◌∷◌, Option, None, Some}
use Rattle.std.specs.Option.{option_or}
use Rattle.pt_heap.specs.declared.value.Value.{Value}
use Rattle.pt_heap.specs.declared.completion.Completion.TheVariants.{Raise}
use Rattle.pt_frames.specs.declared.slot.Slot.{Slot}
use Rattle.pt_frames.specs.declared.slot.Slot.TheVariants.{Exc, Pending}

-- a handler and its tests are busy with their exception, a `finally` part and an exit with the raise that they hold
abbrev pub busy_with : Slot → Option Value
busy_with (Exc exception) = Some exception
busy_with (Pending (Raise exception)) = Some exception
busy_with slot = None

-- what the first of a list gives that gives anything
abbrev pub first_given : {A : Type 0} → (A → Option Value) → List A → Option Value
first_given f [] = None
first_given f (x ∷ xs) = option_or (f x) (first_given f xs)

abbrev pub active_in : List Slot → Option Value
active_in slots = first_given busy_with slots
