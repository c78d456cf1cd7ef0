use Rattle.std.proofs.Common.{◌≡◌, ◌∙◌, ◌++◌, ap, subst, arith}
use Rattle.pt_sizes.specs.Flow.{entry}
use Rattle.pt_verify_leaves.specs.Onto.{ListsBelow, member_at}
use Rattle.pt_verify_leaves.proofs.Parts.{below_start, below_more, same_member}
use Rattle.pt_verify_leaves.proofs.listing.members.Goals as goal

pub loop-at-init : goal.loop-at-init
loop-at-init c = below_start _ c.new-members.result.items c.new-members.ensures.items

pub loop-at-preserved : goal.loop-at-preserved
loop-at-preserved c =
    let at = c.loop-at.at in
    let classes = c.args.classes.now in
    let places = c.args.places.now in
    let same : c.in_ok-pc.pc.0 ≡ at = c.in_ok-pc.ensures in
    below_more (λ pc. member_at (entry classes pc) pc (entry places pc)) at c.loop-at.members.items c.add_member.new.members.items
    c.loop-at.invariant
    (c.in_ok-add_member.ensures ∙ ap (λ ps. c.loop-at.members.items ++ ps)
    (same_member at c.class_at.ensures (c.at.ensures ∙ ap (λ q. entry places q) same)))

pub returns : goal.returns
returns c =
    let e : c.loop-at.at ≡ c.args.end = omega (arith, c.loop-at-test.false, c.loop-at.auto.at-end) in
    subst (λ n. ListsBelow (λ pc. member_at (entry c.args.classes.now pc) pc (entry c.args.places.now pc)) n c.loop-at.members.items) e c.loop-at.invariant
