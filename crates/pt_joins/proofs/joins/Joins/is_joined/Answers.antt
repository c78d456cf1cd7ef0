use Rattle.std.proofs.Common.{arith}
use Rattle.pt_joins.proofs.Joining.{decides}
use Rattle.pt_joins.proofs.joins.Joins.is_joined.Goals as goal
use Rattle.pt_joins.proofs.joins.Joins.is_joined.Goals.{then-one-len-via-then-one-len, then-one-len-via-else-one-len+then-other-len}

pub returns-then-one-len : goal.returns-then-one-len
returns-then-one-len c joins count t = decides joins count c.args.level c.args.one c.args.other t.within (elim c.then-one-len.branch [
  | then-one-len-via-then-one-len w ↦ (λ x y. omega (arith, t.long, c.len.ensures, w.if-one-len.true))
  | then-one-len-via-else-one-len+then-other-len w ↦ (λ x y. omega (arith, t.long, w.len-else-one-len.ensures, w.if-other-len.true))
])
