-- That a run over code does what rows say: what begins at an instruction, and where it leads once its ask is done.
use Rattle.std.specs.Prelude.{◌≡◌, ℕ, List, [], Some}
use Rattle.pt_code.specs.View.{Ins}
use Rattle.sem_control.specs.control.Turn.{Reply, got, raised, Note, End}
use Rattle.sem_code.specs.slots.Slots as S
use Rattle.sem_code.specs.slots.Slots.{Slots}
use Rattle.sem_code.specs.slots.CodeObject.{CodeObject}
use Rattle.sem_code.specs.slots.Machine.{turn}
use Rattle.sem_run.specs.run.Machine.{Machine}
use Rattle.sem_run.specs.run.Events.{Happening}
use Rattle.sem_run.specs.run.Host.{Host, Here, Store}
use Rattle.sem_run.specs.run.State.{OpenAsk, doing, going, ending, telling, turning, State, at, in_state}
use Rattle.sem_run.specs.run.Outcome as O
use Rattle.sem_run.specs.run.Outcome.{Output, Step, goes, ends, is_stuck}
use Rattle.sem_run.specs.run.Step.{step}
use Rattle.sem_run.specs.transitions.Transitions.{of_open_ask}
use Rattle.sem_run.specs.transitions.Successors.{Successor, to, behind_note, end, none, successor}
use Rattle.sem_code_machine.specs.rows.Rows.{row}

module _ {S N V W : Type 0} (host : Host N V W) where
  -- what begins in a state, where this is where it leads: a move; an ask, which leads there once it is done, behind what is told
  -- before it; a note; the end of the block; or a unit is wanted and none is left
  pub data Begins (leads : Here V → Store N W → Successor S N V W) (s : State S N V W) : Step S N V W → Type 0 where
    moves : (c : S) → ((h : Here V) (st : Store N W) → leads h st ≡ to c st) → Begins leads s (goes [] (in_state c s))
    asks : (q : OpenAsk S V) (due : List (Happening V)) (out : List (Output V)) (s1 : State S N V W)
        → ((h : Here V) (st : Store N W) → leads h st ≡ successor (of_open_ask host q h st)) → Begins leads s (goes out (at (telling due (doing q)) s1))
    notes : (a : Note V) (k : Reply V (Unit {0}) → S) (due : List (Happening V))
        → ((h : Here V) (st : Store N W) → leads h st ≡ behind_note a k) → Begins leads s (goes [] (at (telling due (going (k (got tt)) (λ v. k (raised v)))) s))
    ends_block : (e : End V) (due : List (Happening V)) → ((h : Here V) (st : Store N W) → leads h st ≡ end e) → Begins leads s (goes [] (at (telling due (ending e)) s))
    wants_unit : Begins leads s (ends O.spent)
    lacks : ((h : Here V) (st : Store N W) → leads h st ≡ none) → Begins leads s is_stuck

-- in a run over code the row of the instruction that is next begins
abbrev pub RowsBegin : {N V W : Type 0} → (machine : Machine (S.State V) V) → Host N V W → (n : ℕ) → Type 0
RowsBegin {N} {V} {W} machine host n =
    (code : CodeObject V) (s : State (S.State V) N V W) (pc : ℕ) (i : Ins) (ss : Slots V)
    → s.phase ≡ turning → s.here.state ≡ S.on pc ss → code.at pc ≡ Some i → machine.turn s.here.frame.block (S.on pc ss) ≡ turn code (S.on pc ss)
    → Begins host (row host code pc i ss) s (step machine host n s)
