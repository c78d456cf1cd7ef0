use Rattle.std.proofs.Common.{◌≡◌, ◌∙◌, ℕ, Some, sym, ap, arith}
use Rattle.std.specs.List.{list_any}
use Rattle.std.proofs.lemmas.Result.{IfOk-weaker}
use Rattle.pt_sizes.specs.Flow.{entry}
use Rattle.pt_sizes.proofs.Tables.{entry_is}
use Rattle.pt_step_graph.specs.Graph.{bundles_of}
use Rattle.pt_verify_leaves.specs.Lacks.{few_for, targets_at}
use Rattle.pt_verify_leaves.proofs.Gathers.{read_list}
use Rattle.pt_verify_leaves.proofs.lacks.held_few.Goals as goal

pub returns : goal.returns
returns c = IfOk-weaker c.any_few.result _ _ (λ few s rows count t lt.
    let told = c.args.told.now in
    let f = λ (u : ℕ). few_for rows c.args.sizes.now c.args.pc.0 c.args.low u in
    let at : entry told.held.items c.args.pc.0 ≡ Some c.in-Some.bundle =
    entry_is told.held.items c.args.pc.0 c.index.result.now (Some c.in-Some.bundle) (omega (arith, c.if-at-len.false, c.len.ensures)) c.index.ensures c.in-Some.is in
    let read = read_list told.bundles c.in-Some.bundle c.index-2.result.now (omega (arith, c.if-bundle-len.false, c.len-2.ensures)) c.index-2.ensures in
    s rows count t lt ∙ ap (λ xs. list_any f xs) (c.deref.ensures.value ∙ (sym read ∙ sym (ap (λ o. targets_at (bundles_of told.bundles) o) at)))) c.any_few.ensures
