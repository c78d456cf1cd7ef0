use Rattle.std.proofs.Common.{◌+◌, [], min, sym, subst, arith}
use Rattle.std.specs.Prelude.{MatchBool}
use Rattle.std.proofs.lemmas.Result.{IfOk-weaker}
use Rattle.sem_fits.specs.fits.Block.{block_of}
use Rattle.pt_verify_leaves.specs.Held.{HasHeldUpTo}
use Rattle.pt_verify.specs.Leaves.{HasLeave}
use Rattle.pt_verify.proofs.LeaveLemmas.{none_held}
use Rattle.pt_verify.proofs.leaves.held_up_to.Goals as goal

pub held_leaves-requires : goal.held_leaves-requires
held_leaves-requires c = c.in_ok-joins.ensures.forest

pub returns-then-has_leave : goal.returns-then-has_leave
returns-then-has_leave c = IfOk-weaker c.held_leaves.result _ _
    (λ told h code view v has count takers below are lead.
    h code c.args.block.now view v has count takers below are lead (c.in_ok-joins.ensures.exact code view v has are lead))
    c.held_leaves.ensures

pub returns : goal.returns
returns c = λ code view v has count takers below are lead.
    let block = c.args.block.now in
    let places = c.args.places.now in
    let p = c.args.limit.0 in
    let told = c.no_leaves.result in
    let end = min c.len.result (p + 1) in
    let none = subst (λ t. MatchBool t (HasLeave places end) (HasLeave places end → ⊥)) c.if-has_leave.false c.has_leave.ensures in
    subst (λ bundles. HasHeldUpTo (block_of code block view) p bundles told.held.items) (sym c.no_leaves.ensures.bundles)
    (subst (λ held. HasHeldUpTo (block_of code block view) p [] held) (sym c.no_leaves.ensures.held)
    (none_held code block view v places has p end (λ pc lt le. omega (arith, lt, le, c.len.ensures)) none))
