-- What is told behind which an activation goes on.
use Rattle.std.proofs.Common.{◌∙◌, ℕ, List, [], ◌++◌, Bool, true, Option, refl, ap}
use Rattle.pt_heap.specs.declared.value.Value.{Value}
use Rattle.sem_code.specs.slots.Slots.{State as CodeState}
use Rattle.sem_code_machine.specs.code_machine.CodeBlocks.{CodeBlocks}
use Rattle.sem_run.specs.run.Machine.{Machine}
use Rattle.sem_run.specs.run.Events.{Event}
use Rattle.sem_run.specs.run.Host.{Host}
use Rattle.sem_run.specs.run.State.{State}
use Rattle.sem_run.specs.run.Run.{writes}
use Rattle.sem_steps.specs.Steps.{stays, minded}
use Rattle.sem_steps.proofs.Moves.{join}
use Rattle.pt_returning.specs.pt_host.World.{Names, World, Program}
use Rattle.pt_returning.specs.pt_host.HeapHost.{heap_host}
use Rattle.pt_happenings.specs.declared.happening.Happening.{Happening}
use Rattle.pt_pendings.specs.declared.pending.Origin.{Origin}
use Rattle.pt_pendings.specs.declared.pending.Pending.TheVariants.{Going}
use Rattle.pt_returning.specs.pt_turning.pt_telling.pt_transfers.pt_machine_state.declared.blocks.BlockCode.{BlockCode}
use Rattle.pt_returning.specs.pt_turning.pt_telling.pt_transfers.pt_machine_state.Blocks.{IsBlockOf}
use Rattle.pt_returning.specs.pt_purposes.declared.standing.Standing.{Standing}
use Rattle.pt_returning.specs.pt_purposes.Seen.{block_of}
use Rattle.pt_returning.specs.pt_purposes.Openers.{Ways}
use Rattle.pt_returning.specs.pt_turning.pt_telling.pt_run_state.declared.machine.Machine.{Machine as Held}
use Rattle.pt_returning.specs.pt_turning.pt_telling.pt_run_state.declared.machine.Waiting.{Waiting}
use Rattle.pt_returning.specs.pt_turning.pt_telling.pt_run_state.Stands.{Stands, IsToTell}
use Rattle.pt_returning.specs.pt_turning.pt_telling.Telling as telling
use Rattle.pt_returning.specs.pt_turning.pt_telling.Laws as laws
use Rattle.pt_returning.specs.pt_turning.pt_telling.Laws.{Comes, BehindTold}
use Rattle.pt_returning.proofs.pt_telling.Tells.{tells_as_run}
use Rattle.pt_returning.proofs.pt_telling.Asks.{writes-append}
use Rattle.pt_returning.specs.pt_turning.Ways.{IsOfCode}
use Rattle.pt_returning.specs.pt_turning.Laws.{waiting}
use Rattle.pt_returning.proofs.pt_turning.Turns.{named-by, goes_on_as_run}
use Rattle.pt_replying.specs.Replying.{beyond, told_on}
use Rattle.pt_replying.specs.Laws.{TellsOnAsRun}

module _ {S : Type 0} (program : Program) (code : CodeBlocks Value) (machine : Machine S Value)
    (embed : CodeState Value → S) (ways : Ways S) (is_of : IsOfCode code machine embed ways)
    (minds : Event Value → Bool) (n : ℕ) where
  abbrev Run : Type 0
  Run = State S Names Value World

  abbrev host : Host Names Value World
  host = heap_host program

  abbrev To : Run → Held → Type 0
  To s m = (t : Run) × (Comes program machine ways minds n s [] t × Stands program machine ways m t)

  pub joined : (s t u : Run) → Comes program machine ways minds n s [] t
      → Comes program machine ways minds n t [] u → Comes program machine ways minds n s [] u
  joined s t u a b = record {
    outputs = a.outputs ++ b.outputs;
    steps = join machine host (minded minds) n s t u a.outputs b.outputs a.steps b.steps;
    written = writes-append true a.outputs b.outputs ∙ ap (λ ws. ws ++ writes true b.outputs) a.written ∙ b.written;
  }

  module _ (z : Standing) (active : Option Value) (from : Origin) where
    abbrev w : Waiting
    w = waiting z active (Going from)

    goes-beyond : (r : telling.Told) (t : Run) → BehindTold program machine ways minds n w t r
        → To t (beyond z r).machine
    goes-beyond _ t (laws.event m is) =
        (t, (record { outputs = []; steps = stays t; written = refl }, is))
    goes-beyond _ t (laws.onward m is) =
        goes_on_as_run program code machine embed ways is_of minds n m z active from t is

    tells-on : (m : Held) (hs : List Happening) (s : Run) → IsToTell program machine ways m w hs s
        → (block : BlockCode) → IsBlockOf program code (block_of m.code.here) block
        → To s (told_on block w hs m).machine
    tells-on m hs s is block known =
        let to = tells_as_run program machine ways minds n m w hs s is block
        (named-by program code machine embed ways is_of minds n (block_of m.code.here) block known) in
        let on = goes-beyond (telling.told block w hs m) to.0 to.1.1 in
        (on.0, (joined s to.0 on.0 to.1.0 on.1.0, on.1.1))

pub tells_on_as_run : {S : Type 0} (program : Program) (code : CodeBlocks Value)
    (machine : Machine S Value) (embed : CodeState Value → S) (ways : Ways S)
    → IsOfCode code machine embed ways → (minds : Event Value → Bool) (n : ℕ)
    → TellsOnAsRun program code machine ways minds n
tells_on_as_run program code machine embed ways is_of minds n m z active from hs s is block known =
    tells-on program code machine embed ways is_of minds n z active from m hs s is block known
