use Rattle.std.proofs.Common.{length, IsTrue, ◌≡◌, ℕ, ◌+◌, ◌-◌, ◌*◌, ◌<◌, ◌≤◌}
use Rattle.std.specs.List.{AllByRecursion}
use Rattle.pt_ranges.specs.Marks.{Rises}
use Rattle.test_code.proofs.listings.+all_rise.Given as goal

-- proposed from what the function passes where it calls itself
abbrev pub decreases-all_rise : goal.decreases-all_rise
decreases-all_rise l = length l.blocks.now
