-- The first line of a text, and the lines behind it.
use Rattle.std.specs.Prelude.{ℕ, suc, ◌==◌, ◌&&◌, List, [], ◌∷◌, drop, if◌then◌else◌}
use Rattle.pt_literals.specs.Source.{ends_line}
use Rattle.pt_tracebacks.specs.Lines.{begins_with_feed, lines}

-- how long it is
abbrev pub first_len : List ℕ → ℕ
first_len [] = 0
first_len (c ∷ cs) = if ends_line c then 0 else suc (first_len cs)

-- the lines behind an end of a line that stands at the front
abbrev pub lines_behind : List ℕ → List (List ℕ)
lines_behind [] = []
lines_behind (c ∷ cs) = if (c == 13) && begins_with_feed cs then lines (drop 1 cs) else lines cs
