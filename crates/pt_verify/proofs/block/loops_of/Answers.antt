use Rattle.std.proofs.Common.{sym, subst}
use Rattle.std.proofs.lemmas.Result.{IfOk-weaker}
use Rattle.pt_block_limits.specs.Limits.{HasHeld, TellsLoops}
use Rattle.pt_step_graph.specs.Graph.{bundles_of}
use Rattle.pt_verify_depths.specs.PlaceTable.{AreSizes}
use Rattle.pt_verify.proofs.ProbeLemmas.{its}
use Rattle.pt_verify.proofs.block.loops_of.Goals as goal

pub returns : goal.returns
returns c = IfOk-weaker c.silent_loops.result _ _
    (λ told h b t are held.
    let probe = c.args.probe.now in
    let i = its probe b t in
    let leaves = c.args.told in
    let its_held = subst (λ x. HasHeld x (bundles_of leaves.bundles) leaves.held.items) t.same held in
    subst (λ x. TellsLoops x told) (sym t.same)
    (h probe.code.now t.view t.seen t.places (subst (λ x. AreSizes x c.args.sizes.now) t.same are)
    (subst (λ hs. HasHeld i (bundles_of leaves.bundles) hs) (sym c.deref.ensures.value) its_held)))
    c.silent_loops.ensures
