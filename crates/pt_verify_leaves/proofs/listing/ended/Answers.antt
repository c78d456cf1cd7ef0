use Rattle.std.proofs.Common.{◌≡◌, ◌∙◌, ◌+◌, ◌<◌, ℕ, ap, sym, subst, arith}
use Rattle.pt_sizes.specs.Flow.{entry}
use Rattle.pt_verify_leaves.specs.Onto.{ended_at}
use Rattle.pt_verify_leaves.proofs.Parts.{each_more, same_end}
use Rattle.pt_verify_leaves.proofs.listing.ended.Goals as goal

pub loop-at-preserved : goal.loop-at-preserved
loop-at-preserved c =
    let at = c.loop-at.at in
    let classes = c.args.classes.now in
    let places = c.args.places.now in
    let same : c.in_ok-pc.pc.0 ≡ at = c.in_ok-pc.ensures in
    let here : c.ended_at.result ≡ ended_at (entry classes at) (entry places at) =
    c.ended_at.ensures ∙ same_end c.class_at.ensures (c.at.ensures ∙ ap (λ q. entry places q) same) in
    record {
      long = (let h = c.in_ok-push.ensures.len in omega (arith, h, c.loop-at.invariant.long));
      each = subst (λ xs. (pc : ℕ) → pc < at + 1 → entry xs pc ≡ ended_at (entry classes pc) (entry places pc)) (sym c.in_ok-push.ensures.items)
          (each_more c.loop-at.held.items at c.ended_at.result (λ pc. ended_at (entry classes pc) (entry places pc))
          c.loop-at.invariant.long c.loop-at.invariant.each here);
    }

pub returns : goal.returns
returns c =
    let e : c.loop-at.at ≡ c.args.end = omega (arith, c.loop-at-test.false, c.loop-at.auto.at-end) in
    record {
      long = c.loop-at.invariant.long ∙ e;
      each = λ pc lt. c.loop-at.invariant.each pc (omega (arith, lt, e));
    }
