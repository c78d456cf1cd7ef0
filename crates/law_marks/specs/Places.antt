-- What code tells of its asks by their places, over any machine of code: from where a raise comes that
-- takes the place of a reply, and whether the instruction decides (Language Reference 4.1, 8.4;
-- Library Reference, "dis").
use Rattle.std.specs.Prelude.{◌≡◌, ◌-◌, ℕ, length, Bool, false, Option, Some, None}
use Rattle.pt_heap.specs.declared.value.Value.{Value}
use Rattle.pt_frames.specs.declared.activation.Activation.{Activation}
use Rattle.pt_code.specs.View.{Ins}
use Rattle.sem_code.specs.slots.Slots.{State}
use Rattle.sem_code_machine.specs.code_machine.CodeBlocks.{CodeBlocks}
use Rattle.law_takes.specs.Taking.{taken}
use Rattle.pt_pendings.specs.declared.pending.Origin.{Origin}
use Rattle.pt_applying.specs.law_doing.pt_answering.pt_opening.pt_host.World.{Program}
use Rattle.pt_applying.specs.law_doing.pt_answering.pt_opening.pt_purposes.Seen.{block_of}
use Rattle.pt_applying.specs.law_doing.pt_answering.pt_opening.pt_purposes.Openers.{Ways, origin_in}
use Rattle.pt_applying.specs.law_doing.pt_answering.pt_replying.pt_turning.Ways.{instruction_at, code_ways}
use Rattle.pt_applying.specs.Known.{is_decision}

module _ (code : CodeBlocks Value) where
  -- an ask comes from its place, with the slots below those that it takes
  abbrev pub below : Activation → Option Ins → ℕ
  below a (Some i) = length a.slots - taken (code.object (block_of a)).pool i.instr
  below a None = 0

  abbrev pub asked_at : Activation → Origin
  asked_at a = record { pc = a.pc; below = below a (instruction_at code a) }

  abbrev pub decides_by : Option Ins → Bool
  decides_by (Some i) = is_decision i.instr
  decides_by None = false

  pub record AsksByPlace {S : Type 0} (ways : Ways S) : Type 0 where
    pub asked : (a : Activation) → ways.asked a ≡ asked_at a
    pub decides : (a : Activation) → ways.decides a (origin_in a) ≡ decides_by (instruction_at code a)

  -- so tell the ways of the machine of code
  abbrev pub ways_of_code : Program → Ways (State Value)
  ways_of_code program =
      code_ways code program asked_at (λ a o. decides_by (instruction_at code a))

  abbrev pub CodeAsksByPlace : Type 0
  CodeAsksByPlace = (program : Program) → AsksByPlace (ways_of_code program)
