-- When the line of an act is told (PEP 626; Library Reference, sys.settrace, "line").
use Rattle.std.specs.Prelude.{ℕ, ◌==◌, Bool, true, not, ◌||◌, Option, Some, None}
use Rattle.sem_control.specs.control.Turn.{Mark}

-- by the line that its frame has, which is that of the last act, and none before the first act and behind a jump: where the line is another, and
-- where a re-test begins
abbrev pub is_told : (line : Option ℕ) → Mark → Bool
is_told None m = true
is_told (Some l) m = m.is_retest || not (m.line == l)
