-- Counts of faults.
use Rattle.std.specs.Prelude.{ℕ, ◌+◌, ◌-◌, ◌^◌, ◌≤◌, min}

-- the count rose from before to now, or stands at the greatest u64
abbrev pub Rose : (before now : ℕ) → Type 0
Rose before now = min (before + 1) (2 ^ 64 - 1) ≤ now
