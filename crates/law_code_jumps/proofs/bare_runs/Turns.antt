-- Code that is told of its slots takes the turns of its code objects.
use Rattle.std.proofs.Common.{◌≡◌, Option, refl}
use Rattle.pt_code.specs.declared.CodeBlock.{CodeBlock}
use Rattle.sem_control.specs.control.Turn as T
use Rattle.sem_control.specs.control.Turn.{Turn}
use Rattle.sem_code.specs.slots.Slots.{State}
use Rattle.sem_code.specs.slots.Machine as slots
use Rattle.sem_run.specs.run.Machine.{BlockId, Machine, turn_in}
use Rattle.sem_run.specs.run.Follows.{Nears, there}
use Rattle.pt_bare_runs.proofs.BareRuns.{bare_runs_are_runs}
use Rattle.pt_bare_writes.proofs.Fronting.{runs_write_it_first}
use Rattle.sem_code_machine.specs.code_machine.CodeBlocks as objects
use Rattle.sem_code_machine.specs.code_machine.CodeBlocks.{CodeBlocks}
use Rattle.pt_bare_code.specs.Turns.{AlikeTurns, alike_acts, alike_notes, alike_moves, alike_ends, alike_stuck, FollowsTurns}
use Rattle.pt_bare_code.proofs.Runs.{have_the_same_bare_runs}
use Rattle.pt_bare_code.proofs.Writes.{writes_nothing_else}
use Rattle.pt_bare_code.specs.law_code_runs.code_run.CodeMachine as coded
use Rattle.pt_bare_code.specs.law_code_runs.code_run.CodeMachine.{Position}
use Rattle.law_code_jumps.specs.jump_answers.Known.{SlotsKnown}
use Rattle.law_code_jumps.specs.told_code.Told.{told_code}
use Rattle.law_code_jumps.specs.bare_runs.Laws.{BareRunsAreRuns, BareFrontsAreFronts}

module _ {V : Type 0} (code : CodeBlocks V) (block : BlockId → Option CodeBlock)
    (known : BlockId → SlotsKnown) where
  abbrev Told : Machine (Position V) V
  Told = coded.machine (told_code code block known)

  abbrev Objects : Machine (State V) V
  Objects = objects.machine code

  data At (b : BlockId) : Position V → State V → Type 0 where
    at_state : (t : State V) → At b (coded.at t) t

  near : (b : BlockId) (t : State V) → Nears Told Objects At b (coded.at t) t
  near b t = there t (at_state t)

  alike : (b : BlockId) (x : Turn (State V) V) → AlikeTurns Told Objects At b (turn_in coded.at x) x
  alike b (T.act m a k) = alike_acts m a _ k (λ r. near b (k r))
  alike b (T.note a k) = alike_notes a _ k (λ r. near b (k r))
  alike b (T.move t) = alike_moves (coded.at t) t (near b t)
  alike b (T.over e) = alike_ends e
  alike b T.stuck = alike_stuck

  turns : (b : BlockId) (q : Position V) (t : State V) → At b q t
      → AlikeTurns Told Objects At b (Told.turn b q) (Objects.turn b t)
  turns b _ _ (at_state t) = alike b (slots.turn (code.object b) t)

  same_active : (b : BlockId) (q : Position V) (t : State V) → At b q t
      → Told.active q ≡ Objects.active t
  same_active b _ _ (at_state t) = refl

  follows : FollowsTurns Told Objects At
  follows = record {
    turns = turns;
    begins = λ b i. near b (objects.start_of code b i);
    active = same_active;
  }

module _ {N V W : Type 0} where
  pub code_bare_runs_are_runs : BareRunsAreRuns N V W
  code_bare_runs_are_runs code block known host n b names world o runs =
      let same = have_the_same_bare_runs (Told code block known) (Objects code block known)
      (At code block known) (follows code block known) host n b names world o in
      bare_runs_are_runs (Told code block known) host n b names world o (same.1 runs)

  pub code_bare_fronts_are_fronts : BareFrontsAreFronts N V W
  code_bare_fronts_are_fronts code block known host n b names world ws first =
      runs_write_it_first (Told code block known) host n b names world ws
      (writes_nothing_else (Told code block known) (Objects code block known) (At code block known)
      (follows code block known) host n b names world ws first)
