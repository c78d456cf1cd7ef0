use Rattle.std.proofs.Common.{◌≡◌, ◌-◌}
use Rattle.pt_code.specs.Reading.{items_at, with_front}
use Rattle.pt_code.proofs.lists.items_behind.Given as goal

-- what is read in front of what reading the rest gives is what reading all gives
abbrev pub invariant-loop-counter : goal.invariant-loop-counter
invariant-loop-counter g l = with_front l.items (items_at (g.T.Readable.reading l.within) (l.count - l.counter) l.rest) ≡ with_front l.fn.first (items_at (g.T.Readable.reading l.within) l.count l.bytes)
