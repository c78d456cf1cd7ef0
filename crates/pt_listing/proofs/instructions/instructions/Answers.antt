use Rattle.std.proofs.Common.{sym, subst, ◌∙◌}
use Rattle.pt_listing.proofs.Left.{IsLeft, one_more, one_is_there, all_read}
use Rattle.pt_listing.proofs.instructions.instructions.Goals as goal

pub returns-in_default : goal.returns-in_default
returns-in_default c =
    λ is fits spelled.
    absurd
    (one_is_there c.args.bytes.now c.loop-at.instrs is c.loop-at.at c.loop-at-test.true c.loop-at.invariant.left
    (λ i to fit at. sym c.in_default.is ∙ c.decode.ensures.only i to fit at) fits spelled)

pub loop-at-preserved : goal.loop-at-preserved
loop-at-preserved c = record {
  left = subst (λ read. IsLeft c.args.bytes.now read c.in-Some.end) (sym c.in_ok-push.ensures.ok)
      (one_more c.args.bytes.now c.loop-at.instrs c.loop-at.at c.in-Some.end c.in-Some.instr c.loop-at-test.true
      c.loop-at.invariant.left (λ i to fits at. sym c.in-Some.is ∙ c.decode.ensures.only i to fits at));
  within = c.in-Some.ensures.within.1;
}

pub returns : goal.returns
returns c = λ is fits spelled. all_read c.args.bytes.now c.loop-at.instrs is c.loop-at.at c.loop-at-test.false c.loop-at.invariant.left fits spelled
