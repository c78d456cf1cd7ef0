use Rattle.std.proofs.Common.{arith}
use Rattle.pt_place_slots.proofs.Held.{run_of}
use Rattle.pt_place_slots.proofs.kinds.KindsAt.top.Goals as goal

pub returns : goal.returns
returns c =
    let v = c.args.self.now in
    let run = run_of v.forest.now c.requires.forest v.list c.index-node.result.now (omega (arith, c.if-self-eq0.false)) c.requires.inside c.index-node.ensures in
    record {
      some = run.some;
      is = run.is;
      below = record { forest = c.requires.forest; inside = (let low = run.low in let inside = c.requires.inside in omega (arith, low, inside)) };
    }
