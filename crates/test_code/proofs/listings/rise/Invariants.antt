use Rattle.std.proofs.Common.{◌<◌, ◌+◌, ℕ, map}
use Rattle.std.specs.Prelude.{slice_index}
use Rattle.test_code.proofs.listings.rise.Given as goal

-- the marks before the next one rise
abbrev pub invariant-loop-next : goal.invariant-loop-next
invariant-loop-next l = (k : ℕ) → k + 1 < l.next → slice_index (map (λ m. m.pc.0) l.marks) k < slice_index (map (λ m. m.pc.0) l.marks) (k + 1)
