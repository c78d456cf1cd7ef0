-- What the law says of a block that opens: so it does in each run for which the machine stands.
use Rattle.std.specs.Prelude.{◌≡◌, ℕ, [], ◌∷◌, Bool, false, None}
use Rattle.pt_base.specs.declared.numbers.BlockId.{BlockId}
use Rattle.pt_heap.specs.declared.value.Value.{Value}
use Rattle.pt_bind.specs.declared.arguments.Locals.{Locals}
use Rattle.sem_code_machine.specs.code_machine.CodeBlocks.{CodeBlocks}
use Rattle.sem_run.specs.run.Machine as M
use Rattle.sem_run.specs.run.Machine.{Machine}
use Rattle.sem_run.specs.run.Host.{BlockResult}
use Rattle.sem_run.specs.run.State as run
use Rattle.sem_run.specs.run.State.{State, Rest, for_block}
use Rattle.sem_run.specs.run.Requests.{run_block}
use Rattle.pt_hearing.specs.pt_host.World.{Names, World, Program}
use Rattle.pt_hearing.specs.pt_host.HeapHost.{heap_host}
use Rattle.pt_hearing.specs.pt_purposes.sem_rows.heap_rows.Told.{block_id, opening_of}
use Rattle.pt_happenings.specs.declared.happening.Happening.TheVariants.{Starts}
use Rattle.pt_openers.specs.Openers.{is_full}
use Rattle.pt_hearing.specs.pt_turning.pt_telling.pt_transfers.pt_machine_state.declared.blocks.BlockCode.{BlockCode}
use Rattle.pt_hearing.specs.pt_turning.pt_telling.pt_transfers.pt_machine_state.Blocks.{IsBlockOf}
use Rattle.pt_hearing.specs.pt_purposes.Seen.{active_of}
use Rattle.pt_hearing.specs.pt_purposes.Openers.{Ways, IsOpenFor, asked_in}
use Rattle.pt_hearing.specs.pt_turning.pt_telling.pt_run_state.declared.machine.Machine.{Machine as Held}
use Rattle.pt_hearing.specs.pt_turning.pt_telling.pt_run_state.Stands.{StandsAround, IsToTell}
use Rattle.pt_opening.specs.declared.opening.Wanted.{Wanted}
use Rattle.pt_opening.specs.Opening.{opener_of, opened, beginning}

module _ {S : Type 0} (program : Program) (code : CodeBlocks Value) (machine : Machine S Value)
    (ways : Ways S) where
  abbrev Run : Type 0
  Run = State S Names Value World

  -- the newest activation of the machine is to wait for this below a block, as it does in a run
  pub record IsWanted (m : Held) (above : M.BlockId) (w : Wanted) (s : Run)
      (r : Rest S Names Value World (BlockResult Names Value)) : Type 0 where
    pub active : machine.active s.here.state ≡ active_of (opener_of w m)
    pub purpose : IsOpenFor machine ways m.code.here s.here.state w.why
        (asked_in m.code.here w.context) (program.facts above) None w.purpose
        (for_block r)

  -- where not as many activations are open as may be, a block opens whose beginning is to be told
  abbrev pub OpensAsRun : Type 0
  OpensAsRun = (m : Held) (s : Run) → StandsAround program machine ways m s
      → is_full m.openers ≡ false → (b : BlockId) (hidden : Bool) (w : Wanted)
      (r : Rest S Names Value World (BlockResult Names Value))
      → IsWanted m (block_id b hidden) w s r → (ls : Locals) (block : BlockCode)
      → IsBlockOf program code (block_id b hidden) block
      → IsToTell program machine ways (opened block.iterates b hidden ls w m) beginning
      (Starts ∷ [])
      (run_block machine (heap_host program) (opening_of program (block_id b hidden) ls) r s)
