use Rattle.std.proofs.Common.{arith}
use Rattle.pt_verify_leaves.proofs.Gathers.{put_is, put_not}
use Rattle.pt_verify_leaves.proofs.gathering.put.Goals as goal

pub returns-in_ok-push : goal.returns-in_ok-push
returns-in_ok-push c = put_is c.args.lists.now c.args.number c.args.item c.index_mut.result.now c.push.new.self
    (omega (arith, c.if-number-len.true, c.len.ensures)) c.index_mut.ensures.value c.in_ok-push.ensures.items

pub returns-else-number-len : goal.returns-else-number-len
returns-else-number-len c = put_not c.args.lists.now c.args.number c.args.item (omega (arith, c.if-number-len.false, c.len.ensures))
