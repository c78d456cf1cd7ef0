use Rattle.std.proofs.Common.{◌≡◌, ◌∙◌, length, option_map, sym, subst, ap, arith}
use Rattle.std.proofs.lemmas.Result.{IfOk-weaker}
use Rattle.sem_fits.specs.fits.Agreement.{Agrees}
use Rattle.pt_step_graph.specs.Graph.{bundles_of}
use Rattle.pt_verify_depths.specs.PlaceTable.{AreSizesUpTo}
use Rattle.pt_verify_leaves.specs.Held.{HasHeldUpTo}
use Rattle.pt_refusals.specs.Told.{TellsFailures}
use Rattle.pt_refusals.specs.Laws.{TellsPlace}
use Rattle.pt_refusals.specs.Verdicts.{misfit_of}
use Rattle.pt_refusals.proofs.Placing.{places_are_told}
use Rattle.pt_verify.proofs.ProbeLemmas.{all_held, all_sizes, its_lists}
use Rattle.pt_verify.proofs.block.refusal_of_sized.Goals as goal

pub refusal_up_to-requires : goal.refusal_up_to-requires
refusal_up_to-requires c = omega (arith, c.requires, c.len-last.ensures)

pub returns-in-None : goal.returns-in-None
returns-in-None c = IfOk-weaker c.refusal_of_agreeing.result _ _
    (λ told h b t are.
    let probe = c.args.probe.now in
    let sizes = c.args.sizes.now in
    let failures = c.in_ok-answer.answer.failures in
    let held = c.in_ok-answer.answer.held in
    let size : b.size ≡ length probe.block.now.instructions = ap (λ x. x.size) t.same in
    let end : c.in-Ok.end ≡ b.size = omega (arith, c.in-Ok.ensures, c.len-last.ensures, size) in
    let last : c.in-Ok.end ≡ c.len-last.result = omega (arith, c.in-Ok.ensures) in
    let answer = c.in_ok-answer.ensures b t (subst (λ n. AreSizesUpTo b n sizes) (sym end) (all_sizes b sizes are)) in
    let place = places_are_told b (its_lists probe b t) c.len-last.result failures (subst (λ n. TellsFailures b n failures) last answer.failures) in
    let agrees = subst (λ r. TellsPlace b c.len-last.result (option_map misfit_of r)) c.in-None.is (subst (TellsPlace b c.len-last.result) (sym c.refusal_at.ensures) place) in
    h b t are
    (all_held b (bundles_of held.bundles) held.held.items
    (subst (λ n. HasHeldUpTo b n (bundles_of held.bundles) held.held.items) end (answer.held (subst (Agrees b) (sym last) agrees))))
    (subst (Agrees b) (sym last ∙ end) agrees))
    c.refusal_of_agreeing.ensures

pub returns-in_ok-refusal_up_to-in-Some : goal.returns-in_ok-refusal_up_to-in-Some
returns-in_ok-refusal_up_to-in-Some c = λ b t are.
    let probe = c.args.probe.now in
    let sizes = c.args.sizes.now in
    let failures = c.in_ok-answer.answer.failures in
    let size : b.size ≡ length probe.block.now.instructions = ap (λ x. x.size) t.same in
    let end : c.in-Ok.end ≡ b.size = omega (arith, c.in-Ok.ensures, c.len-last.ensures, size) in
    let last : c.in-Ok.end ≡ c.len-last.result = omega (arith, c.in-Ok.ensures) in
    let answer = c.in_ok-answer.ensures b t (subst (λ n. AreSizesUpTo b n sizes) (sym end) (all_sizes b sizes are)) in
    let place = places_are_told b (its_lists probe b t) c.len-last.result failures (subst (λ n. TellsFailures b n failures) last answer.failures) in
    c.in_ok-refusal_up_to-in-Some.ensures b t
    (subst (λ r. TellsPlace b c.len-last.result (option_map misfit_of r)) c.in-Some.is (subst (TellsPlace b c.len-last.result) (sym c.refusal_at.ensures) place))
    t.tables
