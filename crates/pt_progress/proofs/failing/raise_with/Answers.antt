use Rattle.std.specs.Prelude.{None}
use Rattle.std.proofs.lemmas.Result.{IfOk-weaker}
use Rattle.sem_rows.specs.pt_host.Calls.{arguments_of}
use Rattle.sem_rows.specs.pt_host.Errors.{error}
use Rattle.sem_rows.specs.pt_host.World.{allot}
use Rattle.pt_transfers.specs.pt_machine_state.Views.{active_of}
use Rattle.pt_progress.proofs.ArisenLemmas.{arisen_plainly}
use Rattle.pt_progress.proofs.failing.raise_with.Goals as goal

pub returns : goal.returns
returns c =
    IfOk-weaker c.leave_with.result _ _
    (λ r h. arisen_plainly c.args.blocks.now c.args.block.now r c.args.machine.now c.args.writes.now c.leave_with.new.machine c.leave_with.new.writes
    (allot (error c.args.class (arguments_of c.args.arg) None (active_of c.args.machine.now)) c.args.machine.now.heap) h)
    c.leave_with.ensures
