use Rattle.std.proofs.Common.{◌≡◌, ◌<◌, ◌+◌, ◌∙◌, ℕ, ap, sym, subst, arith}
use Rattle.pt_sizes.specs.Flow.{entry}
use Rattle.pt_block_limits.specs.Exits.{exits_at}
use Rattle.pt_block_limits.proofs.ExitLemmas.{each_more, all_exits}
use Rattle.pt_block_limits.proofs.loops.exits_table.Goals as goal

pub loop-at-preserved : goal.loop-at-preserved
loop-at-preserved c =
    let at = c.loop-at.at in
    let places = c.args.places.now in let sizes = c.args.sizes.now in let held = c.args.held.now in
    let same : c.in-Ok.pc ≡ c.loop-at.at = omega (arith, c.in-Ok.ensures) in
    let here : c.exits_at.result ≡ exits_at (entry places at) (entry sizes at) (entry held at) =
    c.exits_at.ensures ∙ (ap (λ o. exits_at o (entry sizes at) c.held_at.result) (c.at.ensures ∙ ap (λ k. entry places k) same)
    ∙ ap (λ o. exits_at (entry places at) (entry sizes at) o) c.held_at.ensures) in
    record {
      long = (let h = c.in_ok-push.ensures.len in omega (arith, h, c.loop-at.invariant.long));
      each = subst (λ xs. (pc : ℕ) → pc < at + 1 → entry xs pc ≡ exits_at (entry places pc) (entry sizes pc) (entry held pc)) (sym c.in_ok-push.ensures.items)
          (each_more c.loop-at.table.items at c.exits_at.result
          (λ pc. exits_at (entry places pc) (entry sizes pc) (entry held pc)) c.loop-at.invariant.long c.loop-at.invariant.each here);
    }

pub returns : goal.returns
returns c = all_exits c.args.places.now c.args.sizes.now c.args.held.now c.loop-at.table.items c.loop-at.at c.loop-at.invariant.long
    (omega (arith, c.loop-at-test.false, c.loop-at.auto.at-end)) c.loop-at.invariant.each
