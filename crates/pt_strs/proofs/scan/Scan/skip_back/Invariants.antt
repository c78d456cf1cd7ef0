use Rattle.std.proofs.Common.{◌≡◌, ◌-◌, length, take}
use Rattle.pt_strs.proofs.scan.Scan.skip_back.Given as goal

abbrev pub invariant-loop-turn : goal.invariant-loop-turn
invariant-loop-turn l = l.self ≡ take (length l.fn.self - l._turn) l.fn.self
