-- What the machine does in a turn in which no instruction is done: its block ends, or a raise goes on
-- that was held; and where what waits goes on by the next turn (Language Reference 4.1, 7.6, 8.4).
use Rattle.std.specs.Prelude.{◌-◌, List, [], ◌∷◌, length, None}
use Rattle.pt_heap.specs.declared.value.Value.{Value}
use Rattle.pt_heap.specs.declared.completion.Completion.TheVariants.{Raise}
use Rattle.pt_frames.specs.Slots.{active_in}
use Rattle.pt_happenings.specs.declared.happening.Happening.{Happening}
use Rattle.pt_happenings.specs.declared.happening.Happening.TheVariants as told
use Rattle.pt_pendings.specs.declared.reply.End.{End}
use Rattle.pt_pendings.specs.declared.reply.End.TheVariants.{Gave, LeftBy}
use Rattle.pt_pendings.specs.declared.pending.Pending.TheVariants.{Going, Ending}
use Rattle.pt_telling.specs.pt_transfers.pt_machine_state.declared.blocks.BlockCode.{BlockCode}
use Rattle.pt_telling.specs.pt_transfers.pt_machine_state.declared.machine.Machine.{Machine as Code}
use Rattle.pt_telling.specs.pt_transfers.pt_machine_state.declared.machine.Standing.{Standing as CodeStanding}
use Rattle.pt_telling.specs.pt_transfers.pt_machine_state.declared.machine.Standing.TheVariants as code
use Rattle.pt_telling.specs.pt_transfers.pt_machine_state.Changes.{landed}
use Rattle.pt_telling.specs.pt_run_state.pt_purposes.declared.standing.Standing.{Standing}
use Rattle.pt_telling.specs.pt_run_state.pt_purposes.declared.standing.Standing.TheVariants as standing
use Rattle.pt_telling.specs.pt_run_state.pt_purposes.Openers.{settled}
use Rattle.pt_telling.specs.pt_run_state.declared.machine.Machine.{Machine}
use Rattle.pt_telling.specs.pt_run_state.declared.machine.Phase.TheVariants.{Turning}
use Rattle.pt_telling.specs.pt_run_state.declared.machine.Waiting.{Waiting}
use Rattle.pt_telling.specs.Telling.{Told, told as tell}

-- the block ends, which is told
abbrev pub end_told : End → Happening
end_told (Gave v) = told.Returns v
end_told (LeftBy v) = told.Unwinds v

abbrev pub ends_as : End → Standing
ends_as (Gave v) = standing.Returns v
ends_as (LeftBy v) = standing.Raises v

abbrev pub ending : End → Waiting
ending e = record { standing = ends_as e; active = None; pending = Ending e }

abbrev pub block_ended : BlockCode → End → Machine → Told
block_ended block e m = tell block (ending e) (end_told e ∷ []) m

-- where code stands that a completion has left
abbrev pub standing_of : CodeStanding → Standing
standing_of code.AtPlace = standing.AtPlace
standing_of (code.Returns v) = standing.Returns v
standing_of (code.Raises v) = standing.Raises v

module _ (block : BlockCode) (v : Value) where
  -- a raise lands, and nothing but the place and the slots changes
  abbrev pub behind_raise : Machine → Code
  behind_raise m = landed block (Raise v) m.code

  abbrev pub raised_in : Machine → Machine
  raised_in m = record m {
    code = record m.code {
      here = record m.code.here {
        pc = (behind_raise m).here.pc;
        slots = (behind_raise m).here.slots;
      };
    };
  }

  -- that is told. Where it has landed, a raise in its place comes from where it came, with the slots
  -- below what is held; and if it has left the block, from anywhere there
  abbrev pub going : Machine → Waiting
  going m = record {
    standing = standing_of (behind_raise m).standing;
    active = active_in m.code.here.slots;
    pending = Going (record {
      pc = m.code.here.pc;
      below = length (behind_raise m).here.slots - 1;
    });
  }

  abbrev pub reraised : Machine → Told
  reraised m = tell block (going m) (told.RaisesAgain v ∷ []) (raised_in m)

-- a block begins by the next turn, and what waits goes on
abbrev pub begun : Standing → Machine → Machine
begun s m = record m { phase = Turning s }

abbrev pub gone_on : Standing → Machine → Machine
gone_on s m = record m { phase = Turning (settled s) }
