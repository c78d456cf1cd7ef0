use Rattle.std.proofs.Common.{◌∙◌, ap}
use Rattle.pt_sizes.specs.Flow.{entry}
use Rattle.pt_verify_leaves.specs.Lacks.{is_few}
use Rattle.pt_verify_leaves.proofs.lacks.few_for.Goals as goal

pub returns : goal.returns
returns c = λ rows count t lt.
    c.is_few.ensures ∙ (ap (λ o. is_few o c.args.low c.first.result) c.size_at.ensures
    ∙ ap (λ r. is_few (entry c.args.sizes.now c.args.target.0) c.args.low r) (c.first.ensures rows count t lt))
