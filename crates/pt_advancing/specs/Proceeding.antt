-- What waits goes on, once nothing more is told (Language Reference 4.1, 8.4).
use Rattle.std.specs.Prelude.{List, [], ◌∷◌, Bool, true, false, is_some, if◌then◌else◌}
use Rattle.pt_base.specs.declared.numbers.Pc.{Pc}
use Rattle.pt_heap.specs.declared.value.Value.{Value}
use Rattle.pt_places.specs.PlaceTable.{entry}
use Rattle.pt_pendings.specs.declared.reply.End.{End}
use Rattle.pt_pendings.specs.declared.reply.End.TheVariants.{Gave, LeftBy}
use Rattle.pt_pendings.specs.declared.pending.Pending.{Pending}
use Rattle.pt_pendings.specs.declared.pending.Pending.TheVariants.{Starting, Going, Ending}
use Rattle.pt_closing.specs.pt_beginning.pt_machine_state.declared.blocks.BlockCode.{BlockCode}
use Rattle.pt_closing.specs.pt_purposes.declared.standing.Standing.{Standing}
use Rattle.pt_closing.specs.pt_purposes.declared.standing.Standing.TheVariants.{Reraises, Returns, Raises}
use Rattle.pt_closing.specs.pt_purposes.declared.opener.Opener.{Opener}
use Rattle.pt_closing.specs.pt_beginning.pt_run_state.declared.machine.Machine.{Machine}
use Rattle.pt_closing.specs.pt_beginning.pt_run_state.declared.machine.Waiting.{Waiting}
use Rattle.pt_closing.specs.pt_beginning.pt_run_state.declared.machine.Turn.TheVariants.{Goes, Ends}
use Rattle.pt_closing.specs.pt_turning.pt_telling.Telling.{Told}
use Rattle.pt_closing.specs.pt_turning.Turning.{ending, block_ended, going, reraised, begun, gone_on}
use Rattle.pt_closing.specs.Ending.{module_end}
use Rattle.pt_advancing.specs.declared.onward.Advanced.{Advanced}
use Rattle.pt_advancing.specs.declared.onward.Advanced.TheVariants.{Turned, AtInstruction, Onward}

-- what became of a turn, and the machine then
pub record AdvancedSo : Type 0 where
  pub advanced : Advanced
  pub machine : Machine

abbrev pub goes : Machine → AdvancedSo
goes m = record { advanced = Turned Goes; machine = m }

-- the run ends with a block for which none waits
abbrev pub ended_in : List Opener → BlockCode → End → Waiting → Machine → Advanced
ended_in [] block e w m = Turned (Ends (module_end block e m))
ended_in (o ∷ os) block e w m = Onward w

abbrev pub proceeded_by : Pending → BlockCode → Waiting → Machine → AdvancedSo
proceeded_by Starting block w m = goes (begun w.standing m)
proceeded_by (Going from) block w m = goes (gone_on w.standing m)
proceeded_by (Ending e) block w m =
    record { advanced = ended_in m.openers block e w m; machine = m }
proceeded_by p block w m = record { advanced = Onward w; machine = m }

abbrev pub proceeded : BlockCode → Waiting → Machine → AdvancedSo
proceeded block w m = proceeded_by w.pending block w m

-- where no event is told what waits goes on
abbrev pub told_on : BlockCode → Waiting → Told → AdvancedSo
told_on block w r = if r.event then goes r.machine else proceeded block w r.machine

abbrev pub ended : BlockCode → End → Machine → AdvancedSo
ended block e m = told_on block (ending e) (block_ended block e m)

abbrev pub has_place : BlockCode → Pc → Bool
has_place block pc = is_some (entry block.places pc.0)

abbrev pub at_instruction : Standing → Machine → AdvancedSo
at_instruction z m = record { advanced = AtInstruction z; machine = m }

-- a raise goes on from an instruction
abbrev pub raised_if : (there : Bool) → BlockCode → Value → Machine → AdvancedSo
raised_if true block v m = told_on block (going block v m) (reraised block v m)
raised_if false block v m = at_instruction (Reraises v) m

-- the next turn of code begins
abbrev pub turned : BlockCode → Standing → Machine → AdvancedSo
turned block (Returns v) m = ended block (Gave v) m
turned block (Raises v) m = ended block (LeftBy v) m
turned block (Reraises v) m = raised_if (has_place block m.code.here.pc) block v m
turned block z m = at_instruction z m
