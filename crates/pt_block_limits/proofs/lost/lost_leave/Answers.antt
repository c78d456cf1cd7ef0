use Rattle.std.proofs.Common.{◌≡◌, ◌∙◌, sym, ap, arith, true}
use Rattle.pt_sizes.specs.Flow.{entry}
use Rattle.pt_block_limits.specs.Lost.{is_lost, left_to}
use Rattle.pt_block_limits.proofs.LostLemmas.{none_more, is_one, isnt_one, all_arrive}
use Rattle.pt_block_limits.proofs.lost.lost_leave.Goals as goal

pub loop-at-init : goal.loop-at-init
loop-at-init c = λ pc lt. absurd (omega (arith, lt))

pub returns-then-is_lost : goal.returns-then-is_lost
returns-then-is_lost c = λ b laid shown are.
    let at = c.loop-at.at in
    let places = c.args.places.now in let sizes = c.args.sizes.now in
    let same : c.in-Ok.pc ≡ c.loop-at.at = omega (arith, c.in-Ok.ensures) in
    let target : c.left_to-target.result ≡ left_to (entry places at) =
    c.left_to-target.ensures ∙ (ap left_to c.at.ensures ∙ ap (λ k. left_to (entry places k)) same) in
    let here : is_lost sizes (entry sizes at) (left_to (entry places at)) ≡ true =
    sym (c.is_lost.ensures ∙ ap (λ t. is_lost sizes (entry sizes at) t) target) ∙ c.if-is_lost.true in
    record {
      holds = is_one b laid places shown sizes are at here;
      least = λ m lt l. isnt_one b laid places shown sizes are m (c.loop-at.invariant m lt) l;
    }

pub loop-at-preserved : goal.loop-at-preserved
loop-at-preserved c =
    let at = c.loop-at.at in
    let places = c.args.places.now in let sizes = c.args.sizes.now in
    let same : c.in-Ok.pc ≡ c.loop-at.at = omega (arith, c.in-Ok.ensures) in
    let target : c.left_to-target.result ≡ left_to (entry places at) =
    c.left_to-target.ensures ∙ (ap left_to c.at.ensures ∙ ap (λ k. left_to (entry places k)) same) in
    none_more places sizes at c.loop-at.invariant
    (sym (c.is_lost.ensures ∙ ap (λ t. is_lost sizes (entry sizes at) t) target) ∙ c.if-is_lost.false)

pub returns : goal.returns
returns c = λ b laid shown are. all_arrive b laid c.args.places.now shown c.args.sizes.now are c.loop-at.at
    (omega (arith, c.loop-at-test.false, c.loop-at.auto.at-end)) c.loop-at.invariant
