-- That an instruction leads where the host's answer does, with a mark or without.
use Rattle.std.specs.Prelude.{◌≡◌}
use Rattle.pt_heap.specs.declared.value.Value.{Value}
use Rattle.pt_code.specs.View.{Ins}
use Rattle.sem_control.specs.control.Turn as T
use Rattle.sem_control.specs.control.Turn.{Ask, Answer, Leave, Turn}
use Rattle.sem_code.specs.slots.Slots as S
use Rattle.sem_code.specs.slots.Slots.{Abrupt, Slots, State}
use Rattle.sem_code.specs.slots.CodeObject.{CodeObject}
use Rattle.sem_code.specs.slots.Steps.{unmarked, asks, does, goes, leaves}
use Rattle.sem_code.specs.slots.Landing.{land}
use Rattle.sem_run.specs.run.Host.{Here}
use Rattle.pt_host.specs.World.{Stores, Program}
use Rattle.pt_host.specs.HeapHost.{heap_host}
use Rattle.pt_host.specs.Answers.{answers}
use Rattle.sem_run.specs.transitions.Transitions.{transition}
use Rattle.sem_run.specs.transitions.Successors.{successor, to}
use Rattle.sem_rows.specs.heap_rows.Leads.{HeapSuccessor, IsAnswered, by_tree, found}

module _ (program : Program) (code : CodeObject Value) (i : Ins) (h : Here Value) (st : Stores) where
  abbrev pub reached : Turn (State Value) Value → HeapSuccessor
  reached t = successor (transition (heap_host program) t h st)

  -- an ask, whatever it is
  abbrev pub AsksLead : Type 0
  AsksLead = (a : Ask Value) (next : Answer Value a → State Value) (ss : Slots Value) → IsAnswered a
      → reached (asks code i a ss next) ≡ by_tree code i (found a next) ss (answers program a h st)

  -- a move, and an act that asks for nothing; what leaves a part; a value that is dropped
  abbrev pub MovesLead : Type 0
  MovesLead = (s : State Value) (ss : Slots Value) → reached (goes code i s ss) ≡ to s st

  abbrev pub LeavesLead : Type 0
  LeavesLead = (l : Leave Value) (a : Abrupt Value) (ss : Slots Value) → reached (leaves code i l a ss) ≡ to (land code i.rows a ss) st

  abbrev pub DiscardsLead : Type 0
  DiscardsLead = (v : Value) (ss : Slots Value)
      → reached (unmarked i.mark (S.on i.next ss) (does code i (T.discard v) ss)) ≡ to (S.on i.next ss) st
