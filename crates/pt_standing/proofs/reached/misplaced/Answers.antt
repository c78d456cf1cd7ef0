use Rattle.std.proofs.Common.{◌≡◌, ◌∙◌, sym, ap, arith, inl, inr}
use Rattle.pt_sizes.specs.Flow.{entry}
use Rattle.sem_fits.specs.fits.Block.{block_of, links_of}
use Rattle.pt_standing.specs.Misplaced.{is_misplaced}
use Rattle.pt_standing.proofs.ReachLemmas.{found_none, found_one, none_more}
use Rattle.pt_standing.proofs.reached.misplaced.Goals as goal

pub loop-at-init : goal.loop-at-init
loop-at-init c = λ t pc lt. absurd (omega (arith, lt))

pub returns-then-limit-at : goal.returns-then-limit-at
returns-then-limit-at c = λ t view shown are.
    found_none (block_of c.args.code.now c.args.block.now view) c.args.places.now shown c.args.limit c.args.sizes.now are c.loop-at.at
    (inr c.if-limit-at.true) (c.loop-at.invariant t)

pub returns : goal.returns
returns c = λ t view shown are.
    found_none (block_of c.args.code.now c.args.block.now view) c.args.places.now shown c.args.limit c.args.sizes.now are c.loop-at.at
    (inl (omega (arith, c.loop-at-test.false, c.loop-at.auto.at-end))) (c.loop-at.invariant t)

pub returns-then-branch : goal.returns-then-branch
returns-then-branch c = λ t view shown are.
    found_one (block_of c.args.code.now c.args.block.now view) c.args.places.now shown c.args.limit c.args.sizes.now are c.loop-at.at
    (omega (arith, c.if-limit-at.false))
    (let same : c.in-Ok.pc ≡ c.loop-at.at = omega (arith, c.in-Ok.ensures) in
    sym (c.in_ok-is_misplaced.ensures t ∙ ap (λ o. is_misplaced c.args.block.now.kind (links_of c.args.code.now) o (entry c.args.sizes.now c.loop-at.at))
    (c.at.ensures ∙ ap (λ k. entry c.args.places.now k) same)) ∙ c.if-branch.true)

pub loop-at-preserved : goal.loop-at-preserved
loop-at-preserved c = λ t.
    none_more c.args.block.now.kind (links_of c.args.code.now) c.args.places.now c.args.sizes.now c.loop-at.at (c.loop-at.invariant t)
    (let same : c.in-Ok.pc ≡ c.loop-at.at = omega (arith, c.in-Ok.ensures) in
    sym (c.in_ok-is_misplaced.ensures t ∙ ap (λ o. is_misplaced c.args.block.now.kind (links_of c.args.code.now) o (entry c.args.sizes.now c.loop-at.at))
    (c.at.ensures ∙ ap (λ k. entry c.args.places.now k) same)) ∙ c.if-branch.false)
