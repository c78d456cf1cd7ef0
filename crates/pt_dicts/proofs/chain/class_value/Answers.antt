use Rattle.std.proofs.Common.{◌∙◌, ◌+◌, ◌-◌, None, sym, ap, arith}
use Rattle.std.specs.Option.{option_copied}
use Rattle.pt_dicts.specs.Chain.{or_base, found_in, found_along}
use Rattle.pt_dicts.proofs.ChainLemmas.{along-more, along-none}
use Rattle.pt_dicts.proofs.chain.class_value.Goals as goal

pub returns-in_default : goal.returns-in_default
returns-in_default c =
    let h = c.args.heap.now in
    let key = c.args.key.now in
    let n = c.args.class.0 + 1 in
    let i = c.loop-step._step in
    let above = found_along h (n - (i + 1)) key in
    let none = sym c.class_at.ensures ∙ ap option_copied c.in_default.is in
    sym (sym c.loop-step.invariant ∙ along-more h n i key c.loop-step.at.0 c.loop-step-test.true ∙ ap (found_in above key) none)

pub returns-in-Some-get : goal.returns-in-Some-get
returns-in-Some-get c =
    let h = c.args.heap.now in
    let key = c.args.key.now in
    let n = c.args.class.0 + 1 in
    let i = c.loop-step._step in
    let above = found_along h (n - (i + 1)) key in
    let class = c.in-Some.class.now in
    let is = sym c.class_at.ensures ∙ ap option_copied c.in-Some.is in
    let has = sym c.get.ensures ∙ c.in-Some-get.is in
    sym (sym c.loop-step.invariant ∙ along-more h n i key c.loop-step.at.0 c.loop-step-test.true ∙ ap (found_in above key) is ∙ ap (or_base above class.base) has)

pub returns-in_default-base : goal.returns-in_default-base
returns-in_default-base c =
    let h = c.args.heap.now in
    let key = c.args.key.now in
    let n = c.args.class.0 + 1 in
    let i = c.loop-step._step in
    let above = found_along h (n - (i + 1)) key in
    let class = c.in-Some.class.now in
    let is = sym c.class_at.ensures ∙ ap option_copied c.in-Some.is in
    let lacks = sym c.get.ensures ∙ c.in_default-get.is in
    sym (sym c.loop-step.invariant ∙ along-more h n i key c.loop-step.at.0 c.loop-step-test.true ∙ ap (found_in above key) is ∙ ap (or_base above class.base) lacks ∙ ap (λ b. or_base above b None) c.in_default-base.is)

pub loop-step-preserved : goal.loop-step-preserved
loop-step-preserved c =
    let h = c.args.heap.now in
    let key = c.args.key.now in
    let n = c.args.class.0 + 1 in
    let i = c.loop-step._step in
    let above = found_along h (n - (i + 1)) key in
    let class = c.in-Some.class.now in
    let is = sym c.class_at.ensures ∙ ap option_copied c.in-Some.is in
    let lacks = sym c.get.ensures ∙ c.in_default-get.is in
    sym (sym c.loop-step.invariant ∙ along-more h n i key c.loop-step.at.0 c.loop-step-test.true ∙ ap (found_in above key) is ∙ ap (or_base above class.base) lacks ∙ ap (λ b. or_base above b None) c.in-Some-base.is)

pub returns : goal.returns
returns c =
    let n = c.args.class.0 + 1 in
    sym (sym c.loop-step.invariant ∙ along-none c.args.heap.now n c.loop-step._step c.args.key.now c.loop-step.at.0 (omega (arith, c.loop-step-test.false)))
