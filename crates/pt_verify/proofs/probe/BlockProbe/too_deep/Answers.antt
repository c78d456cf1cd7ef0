use Rattle.std.proofs.Common.{◌≡◌, ◌+◌, length, sym, subst, arith}
use Rattle.pt_refusals.specs.Told.{TellsFailures}
use Rattle.pt_refusals.specs.declared.failures.Failures.TheVariants as failures
use Rattle.pt_verify.proofs.ProbeLemmas.{deep_first, its, its_sizes, told_deep}
use Rattle.pt_verify.proofs.probe.BlockProbe.too_deep.Goals as goal

pub returns : goal.returns
returns c = λ b t e.
    let probe = c.args.self.now in
    let i = its probe b t in
    let p = c.args.place in
    let d = deep_first i p probe.sizes.now c.args.row (its_sizes probe b t) e in
    let counted : c.in-Some.deep ≡ length probe.block.now.marks + c.args.row = omega (arith, c.in-Some.ensures, c.len.ensures) in
    subst (λ x. TellsFailures x p (failures.TooDeep c.in-Some.deep c.in_ok-cuts.cuts)) (sym t.same)
    (told_deep i p c.args.row c.in-Some.deep c.in_ok-cuts.cuts d counted
    (c.in_ok-cuts.ensures t.view t.seen t.places d.apart (λ n lt deep. d.deep.least n lt deep)))
