use Rattle.std.proofs.Common.{◌≡◌, ◌++◌, replicate}
use Rattle.pt_formats.proofs.layout.push_times.Given as goal

abbrev pub invariant-loop-turn : goal.invariant-loop-turn
invariant-loop-turn l = l.draft ≡ l.fn.draft ++ replicate l._turn l.c
