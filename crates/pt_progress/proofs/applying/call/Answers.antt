use Rattle.std.proofs.Common.{◌≡◌, ◌∙◌, ◌+◌, ◌<◌, ◌≤◌, [], ap, arith, length, rules, subst, sym}
use Rattle.std.specs.Prelude.{codes, None}
use Rattle.std.proofs.lemmas.Result.{IfOk-weaker}
use Rattle.sem_rows.specs.pt_host.Errors.{error_saying}
use Rattle.sem_rows.specs.pt_host.declared.places.TheConstants.{RECURSION_ERROR}
use Rattle.sem_run.specs.run.State.{most_activations}
use Rattle.sem_rows.specs.heap_rows.Told.{block_id}
use Rattle.sem_rows.specs.declared.heap_rows.progress.Progress.TheVariants.{Calls}
use Rattle.pt_transfers.specs.pt_machine_state.declared.blocks.BlockCode.{BlockCode}
use Rattle.pt_transfers.specs.pt_machine_state.declared.machine.Machine.{Machine}
use Rattle.pt_transfers.specs.pt_machine_state.declared.machine.Stride.TheVariants.{Goes}
use Rattle.pt_transfers.specs.pt_machine_state.Applies.{Applied}
use Rattle.pt_transfers.specs.pt_machine_state.Blocks.{block_at}
use Rattle.pt_transfers.specs.pt_machine_state.Changes.{events_of, opened}
use Rattle.pt_transfers.specs.pt_machine_state.Writing.{Adds}
use Rattle.pt_transfers.proofs.pt_machine_state.CallLemmas.{applied_calls}
use Rattle.pt_transfers.specs.pt_machine_state.Views.{active_of}
use Rattle.pt_progress.specs.Arising.{LeavesBy}
use Rattle.pt_progress.proofs.ArisenLemmas.{too_deep_arisen}
use Rattle.pt_progress.proofs.applying.call.Goals as goal

pub returns-then-depth-ge-MOST_ACTIVATIONS : goal.returns-then-depth-ge-MOST_ACTIVATIONS
returns-then-depth-ge-MOST_ACTIVATIONS c =
    let m = c.args.machine.now in
    let full : most_activations ≤ length m.frames.activations + 1 = omega arith in
    let said : c.in_ok-text.text ≡ codes "too many activations" = search rules in
    IfOk-weaker c.leave_saying.result _ _
    (λ r h next.
    too_deep_arisen c.args.blocks.now c.args.block.now next m c.args.writes.now r c.leave_saying.new.machine c.leave_saying.new.writes c.args.called c.args.hidden c.args.locals c.args.why full
    (subst (λ t. LeavesBy (error_saying RECURSION_ERROR t None (active_of m) m.heap) c.args.blocks.now c.args.block.now c.args.why r m c.args.writes.now c.leave_saying.new.machine c.leave_saying.new.writes) said h))
    c.leave_saying.ensures

pub returns : goal.returns
returns c next =
    let m = c.args.machine.now in
    let called = block_at c.args.blocks.now (block_id c.args.called c.args.hidden) in
    let callee : c.at-callee.result.now ≡ called = c.at-callee.ensures in
    let room : length m.frames.activations + 1 < most_activations = omega arith in
    let above : c.open.new.machine ≡ opened called.iterates c.args.called c.args.hidden c.args.locals c.args.why m =
    c.in_ok-open.ensures ∙ ap (λ (b : BlockCode). opened b.iterates c.args.called c.args.hidden c.args.locals c.args.why m) callee in
    let told : Adds c.args.writes.now c.tell.new.writes (events_of (codes "call") [] c.at-callee.result.now c.open.new.machine) = search rules in
    subst (λ (n : Machine). Applied c.args.blocks.now c.args.block.now next (Calls c.args.called c.args.hidden c.args.locals c.args.why) Goes m c.args.writes.now n c.tell.new.writes) (sym above)
    (applied_calls c.args.blocks.now c.args.block.now next m c.args.writes.now c.args.called c.args.hidden c.args.locals c.args.why c.tell.new.writes room
    (subst (λ (n : Machine). Adds c.args.writes.now c.tell.new.writes (events_of (codes "call") [] called n)) above
    (subst (λ (b : BlockCode). Adds c.args.writes.now c.tell.new.writes (events_of (codes "call") [] b c.open.new.machine)) callee told)))
