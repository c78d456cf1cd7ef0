use Rattle.std.proofs.Common.{◌≡◌, ◌∙◌, ◌≤◌, refl, sym, ap, arith}
use Rattle.std.proofs.lemmas.Bool.{false≢true}
use Rattle.pt_sizes.specs.Flow.{entry}
use Rattle.pt_step_graph.specs.Graph.{bundles_of}
use Rattle.sem_fits.specs.fits.Block.{block_of}
use Rattle.pt_verify_leaves.proofs.Blocks.{knows, rows_are}
use Rattle.pt_verify_leaves.proofs.Fewer.{lacks_here, none_lacks, same_lack}
use Rattle.pt_verify_leaves.proofs.Parts.{knows_at}
use Rattle.pt_verify_leaves.proofs.lacks.leaves_lack.Goals as goal

pub returns-then-branch : goal.returns-then-branch
returns-then-branch c = λ code block view v shown count t more are lead has.
    let at = c.loop-at.at in
    let sizes = c.args.sizes.now in
    let places = c.args.places.now in
    let rows = block.handlers in
    let bundles = bundles_of c.args.told.now.bundles in
    let held = c.args.told.now.held.items in
    let k = knows code block view v places shown count c.args.takers.now t more in
    let same : c.in_ok-pc.pc.0 ≡ at = c.in_ok-pc.ensures in
    let here = c.at.ensures ∙ ap (λ q. entry places q) same in
    let known = knows_at places rows c.args.takers.now k at c.in_ok-pc.pc.0 same here in
    let low : at ≤ c.args.limit.0 = omega (arith, c.loop-at-test.true, c.min-end.ensures) in (
      (λ e. lacks_here (block_of code block view) c.args.limit.0 sizes are places shown (rows_are code block view v places shown) bundles held has at low
          (sym (same_lack rows sizes bundles held c.in_ok-pc.pc.0 at (entry sizes at) same here) ∙ (sym (c.in_ok-lacks_at.ensures rows known) ∙ c.if-branch.true))),
      (λ l. refl),
    )

pub returns : goal.returns
returns c = λ code block view v shown count t more are lead has.
    let places = c.args.places.now in
    let k = knows code block view v places shown count c.args.takers.now t more in (
      (λ e. absurd (false≢true e)),
      (λ l. absurd (none_lacks (block_of code block view) c.args.limit.0 c.args.sizes.now are places shown (rows_are code block view v places shown)
          (bundles_of c.args.told.now.bundles) c.args.told.now.held.items has
          (λ pc lt le. c.loop-at.invariant block.handlers k pc (omega (arith, lt, le, c.loop-at-test.false, c.loop-at.auto.at-end, c.min-end.ensures))) l)),
    )
