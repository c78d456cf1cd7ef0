use Rattle.std.proofs.Common.{◌≡◌, inl, inr, arith}
use Rattle.std.proofs.lemmas.Option.{slice_get_within}
use Rattle.pt_block_kinds.proofs.Lists.{below_or}
use Rattle.pt_cut_failures.proofs.Short.{row_short}
use Rattle.pt_cut_failures.proofs.failures.short_row.Goals as goal

pub loop-at-preserved : goal.loop-at-preserved
loop-at-preserved c = λ n h s. elim (below_or n c.loop-at.at) [
  | inl k ↦ c.loop-at.invariant n k s
  | inr k ↦ (let e : n ≡ c.loop-at.at = omega (arith, h, k) in
      c.if-is_short.ensures (row_short c.args.flow.now c.args.count c.args.rows.now n c.loop-at.at c.in_ok-sum.field-0 _ e c.in_ok-sum.ensures s))
]

pub returns : goal.returns
returns c = λ n h s. c.loop-at.invariant n (let l = slice_get_within c.args.rows.now n s.row s.is in omega (arith, l, c.loop-at-test.false, c.loop-at.auto.at-end)) s
