use Rattle.std.proofs.Common.{◌≡◌, ◌∙◌, ap, rules, subst}
use Rattle.std.specs.Prelude.{Some}
use Rattle.pt_places.specs.PlaceTable.{entry}
use Rattle.pt_transfers.specs.pt_machine_state.declared.blocks.BlockCode.{BlockCode}
use Rattle.pt_transfers.specs.pt_machine_state.Blocks.{block_at}
use Rattle.pt_transfers.specs.pt_machine_state.Changes.{behind_block, end_in, left_at, left_events}
use Rattle.pt_transfers.specs.pt_machine_state.Views.{block_of}
use Rattle.pt_transfers.specs.pt_machine_state.Writing.{Adds}
use Rattle.pt_progress.proofs.CallerLemmas.{raises_on}
use Rattle.pt_progress.proofs.closing.close_by_raise.Goals as goal

pub returns-in-Some-at : goal.returns-in-Some-at
returns-in-Some-at c =
    let blocks = c.args.blocks.now in
    let n = c.resume.new.machine in
    let on = c.in-Some.ensures.resumes in
    let there : entry (block_at blocks (block_of n.here)).places n.here.pc.0 ≡ Some c.in-Some-at.field-0.now = search rules in
    let caller : c.block_of-caller.result.now ≡ block_at blocks (block_of n.here) = c.block_of-caller.ensures in
    let rise : Adds c.tell.new.writes c.leave.new.writes (left_events c.args.exception (block_at blocks (block_of n.here)) (end_in c.in-Some.why c.args.exception n.heap) (behind_block c.in-Some.why n)) =
    subst (λ (b : BlockCode). Adds c.tell.new.writes c.leave.new.writes (left_events c.args.exception b (end_in c.in-Some.why c.args.exception n.heap) (behind_block c.in-Some.why n))) caller c.in_ok-leave-in-Some-at.ensures.writes in
    let is : c.leave.new.machine ≡ left_at (block_at blocks (block_of n.here)) c.args.exception (end_in c.in-Some.why c.args.exception n.heap) (behind_block c.in-Some.why n) =
    c.in_ok-leave-in-Some-at.ensures.machine ∙ ap (λ (b : BlockCode). left_at b c.args.exception (end_in c.in-Some.why c.args.exception n.heap) (behind_block c.in-Some.why n)) caller in
    raises_on blocks c.args.machine.now n c.in-Some.why c.args.exception c.in-Some-at.field-0.now c.args.writes.now c.tell.new.writes c.leave.new.writes c.leave.new.machine
    c.requires on.1 on.2 there (search rules) rise is
