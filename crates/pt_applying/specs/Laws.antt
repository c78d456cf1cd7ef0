-- What the law says of instructions: what they come to is done so in each run for which the machine
-- stands.
use Rattle.std.specs.Prelude.{◌≡◌, ℕ, List, [], Bool}
use Rattle.pt_base.specs.declared.numbers.Pc.{Pc}
use Rattle.pt_base.specs.declared.what.What.{What}
use Rattle.pt_heap.specs.declared.value.Value.{Value}
use Rattle.pt_code.specs.View.{Ins}
use Rattle.sem_code.specs.slots.Slots.{State as CodeState}
use Rattle.sem_code_machine.specs.code_machine.CodeBlocks.{CodeBlocks}
use Rattle.sem_run.specs.run.Machine.{Machine}
use Rattle.sem_run.specs.run.Events.{Event}
use Rattle.sem_run.specs.run.Host.{Host}
use Rattle.sem_run.specs.run.State.{State, OpenAsk}
use Rattle.sem_run.specs.run.Views.{here_of, visible_line}
use Rattle.sem_run.specs.run.Outcome as O
use Rattle.sem_run.specs.run.Run.{Write}
use Rattle.sem_run.specs.run.Step.{step}
use Rattle.law_doing.specs.pt_answering.pt_opening.pt_host.World.{Names, World, Program}
use Rattle.law_doing.specs.pt_answering.pt_opening.pt_host.HeapHost.{heap_host}
use Rattle.law_doing.specs.pt_machine_state.pt_code_facts.sem_rows.declared.heap_rows.progress.Progress.{Progress}
use Rattle.law_doing.specs.pt_machine_state.pt_code_facts.sem_rows.declared.heap_rows.progress.Progress.TheVariants as progress
use Rattle.law_doing.specs.pt_machine_state.declared.blocks.BlockCode.{BlockCode}
use Rattle.law_doing.specs.pt_machine_state.declared.blocks.Blocks.{Blocks}
use Rattle.law_doing.specs.pt_machine_state.Blocks.{IsBlockOf, AreBlocksOf}
use Rattle.law_doing.specs.pt_answering.pt_opening.pt_purposes.Seen.{block_of}
use Rattle.law_doing.specs.pt_answering.pt_opening.pt_purposes.Openers.{Ways}
use Rattle.law_doing.specs.pt_answering.pt_opening.pt_run_state.declared.machine.Machine.{Machine as Held}
use Rattle.law_doing.specs.pt_answering.pt_opening.pt_run_state.Stands.{Stands}
use Rattle.law_doing.specs.pt_answering.pt_opening.pt_telling.Laws.{Comes}
use Rattle.law_doing.specs.pt_answering.declared.answering.Asked.{Asked}
use Rattle.law_doing.specs.pt_answering.Answering.{answer_writes}
use Rattle.law_doing.specs.pt_answering.Laws.{by_itself, IsAnswered}
use Rattle.law_doing.specs.pt_failing.Laws.{IsFailing}
use Rattle.law_doing.specs.pt_calling.Laws.{IsCalling}
use Rattle.law_doing.specs.pt_reraising.Laws.{IsRaising}
use Rattle.pt_applying.specs.declared.applying.Applied.{Applied}
use Rattle.pt_applying.specs.declared.applying.Applied.TheVariants.{Goes, Leaves, Lacks}
use Rattle.pt_applying.specs.Applying.{failing_of, AppliesSo}

module _ {S : Type 0} (program : Program) (code : CodeBlocks Value) (machine : Machine S Value)
    (embed : CodeState Value → S) (ways : Ways S) (minds : Event Value → Bool) (n : ℕ) where
  abbrev Run : Type 0
  Run = State S Names Value World

  abbrev host : Host Names Value World
  host = heap_host program

  abbrev Asks : Type 0
  Asks = OpenAsk (CodeState Value) Value

  abbrev Answers : Held → Asks → Ins → (next : Pc) → Progress → Asked → BlockCode → Run → Type 0
  Answers m q i next p d block s =
      IsAnswered program code machine embed ways minds n m q i next p d (here_of machine s) block s

  abbrev Fails : Held → Asks → Ins → Progress → Asked → Run → Type 0
  Fails m q i p d s =
      IsFailing program code machine embed ways minds n by_itself m q i p (failing_of d) s

  -- an ask is answered in the newest activation as the row of its instruction tells
  abbrev pub IsApplied : Held → Asks → Ins → (next : Pc) → Progress → Asked → BlockCode → Run
      → Type 0
  IsApplied m q i next (progress.Calls b hidden ls why) d block s =
      IsCalling program code machine embed ways minds n by_itself m q i b hidden ls why
      (failing_of d) s
  IsApplied m q i next progress.RaisesAgain d block s =
      IsRaising program code machine embed ways minds n by_itself m q i d.is_act d.active s
  IsApplied m q i next (progress.Raises e) d block s = Fails m q i (progress.Raises e) d s
  IsApplied m q i next (progress.Fails c a) d block s = Fails m q i (progress.Fails c a) d s
  IsApplied m q i next (progress.FailsSaying c t) d block s =
      Fails m q i (progress.FailsSaying c t) d s
  IsApplied m q i next (progress.Outside what) d block s = Fails m q i (progress.Outside what) d s
  IsApplied m q i next progress.Lacks d block s = Unit {0}
  IsApplied m q i next p d block s = Answers m q i next p d block s

  -- the run goes on, and this is written; it comes to where it leaves the profile, at the line that is
  -- visible; or nothing is said, where the slots lack what the instruction needs, or one activation too
  -- many was to give the next item of an iterator
  pub data BehindApplied (s : Run) (ws : List Write) : Applied → Held → Type 0 where
    goes_on : (event : Bool) (m : Held) (t : Run) → Comes program machine ways minds n s ws t
        → Stands program machine ways m t → BehindApplied s ws (Goes event) m
    leaves : (what : What) (m : Held) (t : Run) → Comes program machine ways minds n s [] t
        → step machine host n t ≡ O.ends (O.outside what (visible_line host.first_line t))
        → BehindApplied s ws (Leaves what) m
    lacks : (m : Held) → BehindApplied s ws Lacks m

  abbrev pub AppliesAsRun : Type 0
  AppliesAsRun = (m : Held) (q : Asks) (i : Ins) (next : Pc) (p : Progress) (d : Asked)
      (block : BlockCode) (s : Run) → IsApplied m q i next p d block s
      → IsBlockOf program code (block_of m.code.here) block → (blocks : Blocks)
      → AreBlocksOf program code blocks → (r : Applied) (new : Held)
      → AppliesSo blocks block next p d m r new → BehindApplied s (answer_writes p) r new
