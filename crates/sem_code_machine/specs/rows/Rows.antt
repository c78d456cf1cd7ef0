-- What an instruction does in the newest activation, on its slots and by the answer of a host (Library Reference, "dis").
use Rattle.std.specs.Prelude.{ℕ}
use Rattle.pt_instr.specs.declared.Instr.{Instr}
use Rattle.sem_code.specs.slots.Slots.{Slots, State}
use Rattle.sem_code.specs.slots.CodeObject.{CodeObject}
use Rattle.sem_code.specs.slots.Instructions.{perform}
use Rattle.pt_code.specs.View.{Ins}
use Rattle.sem_run.specs.run.Host.{Host, Here, Store}
use Rattle.sem_run.specs.transitions.Transitions.{transition}
use Rattle.sem_run.specs.transitions.Successors.{Successor, successor}

module _ {N V W : Type 0} (host : Host N V W) (code : CodeObject V) (pc : ℕ) (i : Ins) where
  -- the row of an instruction that stands at a place: where its turn leads
  abbrev pub row_of : Instr → Slots V → Here V → Store N W → Successor (State V) N V W
  row_of j ss h st = successor (transition host (perform code pc i j ss) h st)

  abbrev pub row : Slots V → Here V → Store N W → Successor (State V) N V W
  row ss h st = row_of i.instr ss h st
