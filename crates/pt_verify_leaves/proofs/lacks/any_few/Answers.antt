use Rattle.std.proofs.Common.{◌≡◌, ◌∙◌, ℕ, false, get_or, length, sym, ap, arith, below_more}
use Rattle.pt_verify_leaves.specs.Lacks.{few_for}
use Rattle.pt_verify_leaves.proofs.Fewer.{none_any}
use Rattle.pt_verify_leaves.proofs.lacks.any_few.Goals as goal

pub loop-number-preserved : goal.loop-number-preserved
loop-number-preserved c = λ rows count t lt.
    let targets = c.args.targets.now in
    let n = c.loop-number.number in
    let f = λ (u : ℕ). few_for rows c.args.sizes.now c.args.pc.0 c.args.low u in
    let same : c.in_ok-target.target.0 ≡ get_or targets n 0 = c.in_ok-target.ensures in
    below_more (λ k. f (get_or targets k 0) ≡ false) n (c.loop-number.invariant rows count t lt)
    (ap f (sym same) ∙ (sym (c.few_for.ensures rows count t lt) ∙ c.if-few_for.false))

pub returns : goal.returns
returns c = λ rows count t lt.
    let targets = c.args.targets.now in
    let f = λ (u : ℕ). few_for rows c.args.sizes.now c.args.pc.0 c.args.low u in
    let end : c.loop-number.number ≡ length targets = omega (arith, c.loop-number-test.false, c.loop-number.auto.number-end) in
    sym (none_any f targets (λ k klt. c.loop-number.invariant rows count t lt k (omega (arith, klt, end))))
