use Rattle.pt_code_tables.specs.pt_machine_state.declared.machine.Stride.TheVariants as stride
use Rattle.pt_machine.proofs.StepLemmas.{none_there, stuck_stride}
use Rattle.pt_machine.proofs.strides.stride.Goals as goal

pub returns-in-None : goal.returns-in-None
returns-in-None c =
    stuck_stride c.args.tables.now c.block_of-block.result.now c.args.machine.now c.args.machine.now c.args.writes.now c.args.writes.now stride.Lacks c.args.bound
    c.in-AtPlace.is c.block_of-block.ensures (none_there _ _ _ c.at.ensures c.in-None.is)
