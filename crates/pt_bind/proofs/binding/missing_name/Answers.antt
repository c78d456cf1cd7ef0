use Rattle.std.proofs.Common.{◌∙◌, sym}
use Rattle.std.proofs.lemmas.Result.{IfOk-weaker}
use Rattle.pt_bind.specs.Binding.{names_of}
use Rattle.pt_bind.proofs.BindingLemmas.{first_unfilled-here, first_unfilled-next, first_unfilled-end}
use Rattle.pt_bind.proofs.binding.missing_name.Goals as goal

pub returns-in-None : goal.returns-in-None
returns-in-None c =
    let here = c.loop-at.invariant ∙ first_unfilled-here (names_of c.args.params.now) c.args.values.now c.loop-at.at _ c.loop-at-test.true c.in-None.is in
    IfOk-weaker c.parameter_name.result _ _ (λ name h. h ∙ sym here) c.parameter_name.ensures

pub loop-at-preserved : goal.loop-at-preserved
loop-at-preserved c = c.loop-at.invariant ∙ first_unfilled-next (names_of c.args.params.now) c.args.values.now c.loop-at.at _ c.in-Some.field-0 c.loop-at-test.true c.in-Some.is

pub returns : goal.returns
returns c = sym (c.loop-at.invariant ∙ first_unfilled-end (names_of c.args.params.now) c.args.values.now c.loop-at.at c.loop-at-test.false)
