use Rattle.std.proofs.Common.{◌+◌, ◌*◌, ◌≤◌, length}
use Rattle.pt_readers.specs.Reading.{Carries}
use Rattle.pt_readers.specs.Sample.{a_sum}
use Rattle.pt_readers.proofs.Readers.{left}
use Rattle.pt_readers.proofs.SampleLemmas.{Tail}
use Rattle.pt_readers.proofs.sample.Sums.+reading.Given as goal

abbrev pub decreases-item : goal.decreases-item
decreases-item l = 2 * length l.self.now.marks

abbrev pub decreases-sum : goal.decreases-sum
decreases-sum l = 2 * length l.self.now.marks + 1

abbrev pub invariant-sum-more : goal.invariant-sum-more
invariant-sum-more l = record {
  shorter : length l.self.marks ≤ length l.fn.self.marks;
  fits : l.deepest ≤ l.depth;
  carries : Carries (a_sum l.depth) l.fn.self.marks (left (a_sum l.depth) (Tail l.deepest)) l.self.marks;
}

abbrev pub decreases-sum-more : goal.decreases-sum-more
decreases-sum-more l = length l.self.marks
