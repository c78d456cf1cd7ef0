-- The turn of code, and where a block begins.
use Rattle.std.specs.Prelude.{ℕ, List, [], ◌∷◌, Option, Some, None}
use Rattle.pt_ranges.specs.declared.handlers.Handler.{Handler}
use Rattle.pt_code.specs.View.{Ins}
use Rattle.sem_control.specs.control.Turn.{raised_again, Reply, got, raised, Turn, note, over, stuck}
use Rattle.sem_code.specs.slots.Slots.{raise, iterator, Slots, State, on, thrown_to, reraises, off}
use Rattle.sem_code.specs.slots.CodeObject.{CodeObject}
use Rattle.sem_code.specs.slots.Landing.{land}
use Rattle.sem_code.specs.slots.Pops.{one, an_iterator}
use Rattle.sem_code.specs.slots.Steps.{delegates}
use Rattle.sem_code.specs.slots.Instructions.{perform}

module _ {V : Type 0} (code : CodeObject V) where
  -- the instruction at a place, if there is one
  abbrev pub here : (pc : ℕ) → Option Ins → Slots V → Turn (State V) V
  here pc (Some i) ss = perform code pc i i.instr ss
  here pc None ss = stuck

  abbrev pub thrown_here : (pc : ℕ) → Option Ins → (exception : V) → Slots V → Turn (State V) V
  thrown_here pc (Some i) e ss = one ss (λ u below. an_iterator below (λ it under. delegates code pc i (raised e) it u under))
  thrown_here pc None e ss = stuck

  -- a raise that goes on is told by a note, which may raise another
  abbrev pub after_note : (exception : V) → List Handler → Slots V → Reply V (Unit {0}) → State V
  after_note e rows ss (got u) = land code rows (raise e) ss
  after_note e rows ss (raised v) = land code rows (raise v) ss

  abbrev pub turn : State V → Turn (State V) V
  turn (on pc ss) = here pc (code.at pc) ss
  turn (thrown_to pc e ss) = thrown_here pc (code.at pc) e ss
  turn (reraises e rows ss) = note (raised_again e) (after_note e rows ss)
  turn (off e) = over e

-- a block begins: a generator expression's with its first iterator (6.2.8)
abbrev pub start : {V : Type 0} → State V
start = on 0 []

abbrev pub start_generator : {V : Type 0} → (iterator : V) → State V
start_generator it = on 0 (iterator it ∷ [])
