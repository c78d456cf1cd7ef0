-- What laws say of the machine of code.
use Rattle.std.specs.Prelude.{◌≡◌, ℕ, List, [], ◌∷◌, not, Some, None, option_map}
use Rattle.pt_tree.specs.Syntax.{Stms}
use Rattle.pt_instr.specs.declared.kinds.Kind.TheVariants.{Value, Iter}
use Rattle.pt_code.specs.View.{Ins}
use Rattle.sem_control.specs.control.Turn.{stuck}
use Rattle.sem_code.specs.slots.Slots.{Slots, on, thrown_to}
use Rattle.sem_code.specs.slots.CodeObject.{CodeObject}
use Rattle.sem_code.specs.slots.Steps.{mark_of}
use Rattle.sem_code.specs.slots.Machine.{turn}
use Rattle.sem_code.specs.slots.Needs.{is_stuck, begin_with, have, needs, Begins}
use Rattle.sem_code.specs.slots.Traces.{Given}
use Rattle.sem_code.specs.slots.Samples.{by_tree, by_code}

module _ {V : Type 0} (code : CodeObject V) (pc : ℕ) where
  -- the state at an instruction is stuck exactly where the slots haven't what the row of its effect takes
  abbrev pub StuckWhereItLacks : Type 0
  StuckWhereItLacks = (i : Ins) (ss : Slots V) → code.at pc ≡ Some i → is_stuck (turn code (on pc ss)) ≡ not (have ss (needs code.pool i.instr))

  -- and where a raise is sent to it, exactly where it has no iterator with a value above
  abbrev pub SentWhereItLacks : Type 0
  SentWhereItLacks = (i : Ins) (e : V) (ss : Slots V) → code.at pc ≡ Some i → is_stuck (turn code (thrown_to pc e ss)) ≡ not (begin_with (Value ∷ Iter ∷ []) ss)

  abbrev pub StuckNowhere : Type 0
  StuckNowhere = (e : V) (ss : Slots V) → code.at pc ≡ None → (turn code (on pc ss) ≡ stuck) × (turn code (thrown_to pc e ss) ≡ stuck)

  -- an act begins exactly where a mark stands, and has that mark
  abbrev pub BeginsAtMark : Type 0
  BeginsAtMark = (i : Ins) (ss : Slots V) → code.at pc ≡ Some i → Begins (option_map mark_of i.mark) (turn code (on pc ss))

-- by these answers a script and its code tell the same
abbrev pub TellSame : Stms → CodeObject ℕ → List Given → Type 0
TellSame ss code gs = by_code code gs ≡ by_tree ss gs
