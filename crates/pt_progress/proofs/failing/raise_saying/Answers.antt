use Rattle.std.specs.Prelude.{None}
use Rattle.std.proofs.lemmas.Result.{IfOk-weaker}
use Rattle.sem_rows.specs.pt_host.Errors.{error_saying}
use Rattle.pt_transfers.specs.pt_machine_state.Views.{active_of}
use Rattle.pt_progress.proofs.ArisenLemmas.{arisen_plainly}
use Rattle.pt_progress.proofs.failing.raise_saying.Goals as goal

pub returns : goal.returns
returns c =
    IfOk-weaker c.leave_saying.result _ _
    (λ r h. arisen_plainly c.args.blocks.now c.args.block.now r c.args.machine.now c.args.writes.now c.leave_saying.new.machine c.leave_saying.new.writes
    (error_saying c.args.class c.args.text None (active_of c.args.machine.now) c.args.machine.now.heap) h)
    c.leave_saying.ensures
