-- What a landing is to the machine of code, whose slots and completions stand in sem_code::slots: the state in which it goes on.
use Rattle.std.specs.Prelude.{◌≡◌, List, ◌∷◌}
use Rattle.pt_base.specs.declared.numbers.Pc.{Pc}
use Rattle.pt_heap.specs.declared.value.Value.{Value}
use Rattle.pt_heap.specs.declared.completion.Completion.{Completion}
use Rattle.pt_heap.specs.declared.completion.Completion.TheVariants.{Raise, Return, Leave}
use Rattle.pt_ranges.specs.declared.handlers.Handler.{Handler}
use Rattle.sem_code.specs.slots.Slots.{Abrupt, raise, return, jump_to, Slots, State, on}
use Rattle.sem_code.specs.slots.CodeObject.{CodeObject}
use Rattle.sem_code.specs.slots.Landing as slots
use Rattle.sem_code.specs.slots.Landing.{cut, held_by, leaves}
use Rattle.pt_unwind.specs.declared.Landing.{Landing}
use Rattle.pt_unwind.specs.declared.Landing.TheVariants.{Enter, Jump, Out}
use Rattle.pt_unwind.specs.Landings.{takes, landing_among}

abbrev pub completion_of : Abrupt Value → Completion
completion_of (raise v) = Raise v
completion_of (return v) = Return v
completion_of (jump_to t) = Leave (record { 0 = t })

-- at a handler the slots are cut and what it holds is put on them, at another place they are as many as lie there, and else the block ends
abbrev pub state_behind : CodeObject Value → Abrupt Value → Slots Value → Landing → State Value
state_behind code a ss (Enter pc depth always) = on pc.0 (held_by always a ∷ cut depth ss)
state_behind code a ss (Jump pc) = on pc.0 (cut (code.depth_at pc.0) ss)
state_behind code a ss Out = leaves code a ss

-- a row takes the same there and here
abbrev pub TakesSame : Handler → Abrupt Value → Type 0
TakesSame row a = slots.takes row a ≡ takes row (completion_of a)

-- what leaves a place under these rows goes on there as it lands here
abbrev pub LandsSame : CodeObject Value → List Handler → (from : Pc) → Abrupt Value → Slots Value → Type 0
LandsSame code rows from a ss = slots.land code rows a ss ≡ state_behind code a ss (landing_among rows from (completion_of a))
