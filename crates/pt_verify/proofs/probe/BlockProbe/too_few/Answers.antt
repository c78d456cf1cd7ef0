use Rattle.std.proofs.Common.{◌+◌, length, sym, subst}
use Rattle.pt_refusals.specs.Told.{TellsFailures, TellsLeastBelow}
use Rattle.pt_refusals.specs.declared.failures.Failures.TheVariants as failures
use Rattle.pt_verify_depths.specs.Refusals.{CutsOf}
use Rattle.pt_verify.proofs.ProbeLemmas.{few_first, its, its_sizes, told_few}
use Rattle.pt_verify.proofs.probe.BlockProbe.too_few.Goals as goal

pub returns : goal.returns
returns c = λ b t e.
    let probe = c.args.self.now in
    let i = its probe b t in
    let p = c.args.place in
    let d = few_first i p probe.sizes.now (its_sizes probe b t) e in
    subst (λ x. TellsFailures x p (failures.TooFew c.in_ok-cuts.cuts)) (sym t.same)
    (told_few i p c.in_ok-cuts.cuts d
    (subst (λ n. TellsLeastBelow (CutsOf i p) (length i.marks + n) c.in_ok-cuts.cuts) c.len-rows.ensures
    (c.in_ok-cuts.ensures t.view t.seen t.places d.apart (λ n lt deep. d.shallow deep.row deep.deep))))
