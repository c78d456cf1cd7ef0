use Rattle.std.proofs.Common.{◌∙◌, ◌+◌, ◌-◌, sym, ap, slice_get}
use Rattle.std.specs.Prelude.{◌||◌}
use Rattle.std.specs.Option.{option_copied}
use Rattle.pt_content.specs.pt_attrs.pt_dicts.Chain.{class_in}
use Rattle.pt_prims.specs.Classes.{base_of, or_base, derives_within}
use Rattle.pt_prims.proofs.ClassLemmas.{base-more, other-class}
use Rattle.pt_prims.proofs.classes.derives.Goals as goal

pub loop-step-preserved : goal.loop-step-preserved
loop-step-preserved c =
    let h = c.args.heap.now in
    let n = c.args.class.0 + 1 in
    let i = c.loop-step._step in
    let above = derives_within h (n - (i + 1)) c.args.from.0 in
    let is = sym c.class_at.ensures ∙ ap option_copied c.in-Some.is in
    sym (sym c.loop-step.invariant ∙ base-more h n i c.args.from.0 c.loop-step.at.0 c.loop-step-test.true
    ∙ ap (λ b. b || or_base above (base_of (class_in (slice_get h c.loop-step.at.0)))) (other-class _ _ c.if-at-from.false)
    ∙ ap (λ o. or_base above (base_of o)) is ∙ ap (or_base above) c.in-Some-base.is)
