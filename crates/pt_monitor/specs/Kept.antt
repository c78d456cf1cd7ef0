-- What maps and sets keep of the tools: blocks' own sets, callbacks, and places.
use Rattle.std.specs.Prelude.{◌≡◌, ℕ, Bool, false, ◌&&◌, List, map, is_some}
use Rattle.std.specs.List.{list_any}
use Rattle.pt_heap.specs.declared.value.Value.{Value}
use Rattle.sem_run.specs.run.Machine.{BlockId}
use Rattle.sem_run.specs.run.Tools.{Tool, LocalSet, Callback, Location, has, has_event, callback}
use Rattle.pt_monitor.specs.declared.event.MonEvent.{MonEvent}
use Rattle.pt_monitor.specs.declared.set.EventSet.{EventSet}
use Rattle.pt_monitor.specs.declared.place.Place.{Place}
use Rattle.pt_monitor.specs.Events.{bit_of}

-- a block of the script
abbrev pub block : (number : ℕ) → BlockId
block n = record { hidden = false; number = n }

abbrev pub local_sets : List (ℕ × EventSet) → List LocalSet
local_sets es = map (λ e. record { block = block e.0; set = e.1.0 }) es

abbrev pub callbacks_of : List (ℕ × Value) → List (Callback Value)
callbacks_of es = map (λ e. record { bit = e.0; function = e.1 }) es

abbrev pub location : Place → Location
location p = record { tool = p.tool; bit = p.bit; block = block p.block; act = p.act }

abbrev pub locations : List Place → List Location
locations ps = map location ps

-- a set has the events for which there is a callback
abbrev pub HasCallbacks : (set : ℕ) → List (Callback Value) → Type 0
HasCallbacks s cs = (e : MonEvent) → has s (bit_of e) ≡ is_some (callback cs (bit_of e))

-- somewhere in a block an event can be due: the tool's own set or its set for the block has it, and it has a callback
abbrev pub can_be_due : {V : Type 0} → (block : BlockId) (bit : ℕ) → Tool V → Bool
can_be_due b e t = has_event t (record { tool = 0; bit = e; block = b; act = 0 }) && is_some (callback t.callbacks e)

abbrev pub is_wanted : {V : Type 0} → (block : BlockId) (bit : ℕ) → List (Tool V) → Bool
is_wanted b e ts = list_any (can_be_due b e) ts
