-- How the run ends with the module's block (Language Reference 4.1; Library Reference, `sys.exit`).
use Rattle.pt_pendings.specs.declared.reply.End.{End}
use Rattle.pt_pendings.specs.declared.reply.End.TheVariants.{Gave, LeftBy}
use Rattle.pt_beginning.specs.pt_machine_state.declared.blocks.BlockCode.{BlockCode}
use Rattle.pt_beginning.specs.pt_machine_state.declared.machine.MachineEnd.{MachineEnd}
use Rattle.pt_beginning.specs.pt_machine_state.declared.machine.MachineEnd.TheVariants.{Done, Left}
use Rattle.pt_beginning.specs.pt_machine_state.Changes.{line_of}
use Rattle.pt_beginning.specs.pt_run_state.declared.machine.Machine.{Machine}

abbrev pub module_end : BlockCode → End → Machine → MachineEnd
module_end block (Gave v) m = Done
module_end block (LeftBy v) m = Left v (record { 0 = line_of block m.code })
