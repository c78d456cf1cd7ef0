-- The limits of a run's objects.
use Rattle.std.specs.Prelude.{ℕ}

-- the most objects that a heap may have
abbrev pub object_limit : ℕ
object_limit = 16777216

-- the most entries that a dictionary may have
abbrev pub entry_limit : ℕ
entry_limit = 4194304
