use Rattle.std.proofs.Common.{◌<◌, length, arith}
use Rattle.pt_kinds.specs.Forest.{list_at}
use Rattle.pt_kinds.proofs.CommonLemmas.{slot_is}
use Rattle.pt_kinds.proofs.forest.Forest.slot.Goals as goal

pub returns : goal.returns
returns c = slot_is c.args.self.now c.args.list c.args.at c.run_at.result (let h : c.args.at < length (list_at c.args.self.now c.args.list) = omega (arith, c.if-at-len.false, c.len.ensures) in h) c.run_at.ensures
