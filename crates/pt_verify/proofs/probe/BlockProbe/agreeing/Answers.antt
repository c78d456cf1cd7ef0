use Rattle.std.proofs.Common.{◌≡◌, sym, subst, arith}
use Rattle.pt_refusals.specs.Told.{TellsFailures}
use Rattle.pt_verify_depths.specs.PlaceTable.{AreSizesUpTo, TellsSizesUpTo}
use Rattle.pt_verify.proofs.ProbeLemmas.{its}
use Rattle.pt_verify.proofs.probe.BlockProbe.agreeing.Goals as goal

pub returns-in_ok-answer-in-Agree : goal.returns-in_ok-answer-in-Agree
returns-in_ok-answer-in-Agree c = λ b t agree.
    let same : c.in-Ok.limit ≡ c.args.place = omega (arith, c.in-Ok.ensures) in
    subst (λ p. TellsFailures b p c.in_ok-answer-in-Agree.answer.failures) same (c.in_ok-answer-in-Agree.ensures b t
    (subst (λ xs. AreSizesUpTo b c.in-Ok.limit xs) (sym c.deref.ensures.value) (subst (λ x. AreSizesUpTo x c.in-Ok.limit c.in-Agree.sizes.items) (sym t.same)
    (subst (TellsSizesUpTo (its c.args.self.now b t) c.in-Ok.limit) c.in-Agree.is (c.in_ok-sizes.ensures t.view t.seen))))).failures
