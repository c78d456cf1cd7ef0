use Rattle.std.proofs.Common.{◌≡◌, ◌∙◌, Some, sym, ap}
use Rattle.std.specs.Prelude.{option_map}
use Rattle.std.specs.List.{list_any}
use Rattle.std.proofs.lemmas.Result.{IfOk-weaker}
use Rattle.pt_sizes.specs.Flow.{entry}
use Rattle.pt_step_graph.specs.Graph.{bundles_of}
use Rattle.pt_verify_leaves.specs.Lacks.{few_for, targets_at}
use Rattle.pt_verify_leaves.proofs.Fewer.{leave_lacks_is, end_lacks_is}
use Rattle.pt_verify_leaves.proofs.lacks.lacks_at.Goals as goal

pub returns-in-Leave : goal.returns-in-Leave
returns-in-Leave c = λ rows k.
    let targets = targets_at (bundles_of c.args.told.now.bundles) (entry c.args.told.now.held.items c.args.pc.0) in
    let here : option_map (λ p. p.now) c.args.place ≡ Some c.in-Some.place.now = ap (λ o. option_map (λ p. p.now) o) c.in-Some.is in
    c.few_for.ensures rows k.count k.tells (k.below c.in-Some.place.now here)
    ∙ sym (leave_lacks_is rows c.args.sizes.now c.args.pc.0 c.in-Some.place.now c.in-Some-size.size c.in-Leave.target targets here c.in-Some-size.is c.in-Leave.is)

pub returns-in-EndFinally : goal.returns-in-EndFinally
returns-in-EndFinally c = IfOk-weaker c.held_few.result _ _ (λ lacks s rows k.
    let sizes = c.args.sizes.now in
    let targets = targets_at (bundles_of c.args.told.now.bundles) (entry c.args.told.now.held.items c.args.pc.0) in
    let here : option_map (λ p. p.now) c.args.place ≡ Some c.in-Some.place.now = ap (λ o. option_map (λ p. p.now) o) c.in-Some.is in
    s rows k.count k.tells (k.below c.in-Some.place.now here)
    ∙ (ap (λ m. list_any (λ t. few_for rows sizes c.args.pc.0 m t) targets) c.saturating_sub.ensures
    ∙ sym (end_lacks_is rows sizes c.args.pc.0 c.in-Some.place.now c.in-Some-size.size targets here c.in-Some-size.is c.in-EndFinally.is))) c.held_few.ensures
