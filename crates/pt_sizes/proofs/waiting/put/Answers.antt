use Rattle.std.proofs.Common.{◌≡◌, true}
use Rattle.pt_sizes.proofs.Adding.{put_is}
use Rattle.pt_sizes.proofs.waiting.put.Goals as goal

pub returns : goal.returns
returns c =
    let t : c.args.test ≡ true = c.if-not-test.false in
    put_is c.args.level.now c.args.test c.args.node c.args.row c.index_mut.result.now c.push.new.self t (c.requires t) c.index_mut.ensures.value c.in_ok-push.ensures.items
