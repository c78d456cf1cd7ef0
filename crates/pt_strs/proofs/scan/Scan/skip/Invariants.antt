use Rattle.std.proofs.Common.{◌≡◌, drop}
use Rattle.pt_strs.proofs.scan.Scan.skip.Given as goal

abbrev pub invariant-loop-turn : goal.invariant-loop-turn
invariant-loop-turn l = l.self ≡ drop l._turn l.fn.self
