use Rattle.std.proofs.Common.{◌≡◌, inl, inr, subst, arith}
use Rattle.std.proofs.lemmas.Bool.{false≢true}
use Rattle.pt_sizes.proofs.Tables.{entry_in}
use Rattle.pt_block_kinds.specs.Told.{ShortAt}
use Rattle.pt_block_kinds.proofs.Lists.{below_or}
use Rattle.pt_block_kinds.proofs.graph.BlockKinds.has_short_place.Goals as goal

pub loop-at-preserved : goal.loop-at-preserved
loop-at-preserved c = λ pc h s. elim (below_or pc c.loop-at.at) [
  | inl k ↦ c.loop-at.invariant pc k s
  | inr k ↦ (let e : pc ≡ c.loop-at.at = omega (arith, h, k) in c.if-is_short_at.ensures (subst (λ q. ShortAt c.args.self.now.flow c.args.sizes.now q) e s))
]

pub returns : goal.returns
returns c = (
  λ e. absurd (false≢true e),
  λ s. absurd (c.loop-at.invariant s.pc
      (let l = entry_in c.args.sizes.now s.pc s.here.size s.here.has in omega (arith, l, c.loop-at-test.false, c.loop-at.auto.at-end)) s.here),
)
