-- What the events of a run are counted for: how often each line was begun (LIB `trace`, "counts of how many times each line is
-- executed"), and of each name its calls, the lines that its blocks began, and those that were begun while a call of it was open.
use Rattle.std.specs.Prelude.{◌==◌, ℕ, ◌+◌, ◌&&◌, Bool, false, List, [], ◌∷◌, count_by, Option, Some, None, if◌then◌else◌}
use Rattle.std.specs.Str.{bytes_eq}
use Rattle.pt_base.specs.Taken.{Pieces}
use Rattle.pt_cover.specs.Pieces.{Text, kind_of, line_of, name_of, is_call, is_line}
use Rattle.pt_cover.specs.Calls.{open_behind, is_in_span}

abbrev pub is_line_number : Option ℕ → (line : ℕ) → Bool
is_line_number (Some n) line = line == n
is_line_number None line = false

abbrev pub begins_line : (line : ℕ) → (event : Text) → Bool
begins_line line event = is_line (kind_of event) && is_line_number (line_of event) line

abbrev pub begins_own : (name : Text) → (event : Text) → Bool
begins_own name event = is_line (kind_of event) && bytes_eq name (name_of event)

abbrev pub calls_it : (name : Text) → (event : Text) → Bool
calls_it name event = is_call (kind_of event) && bytes_eq name (name_of event)

abbrev pub times_begun : (line : ℕ) → (events : Pieces) → ℕ
times_begun line events = count_by (begins_line line) events

abbrev pub calls_of : (name : Text) → (events : Pieces) → ℕ
calls_of name events = count_by (calls_it name) events

abbrev pub own_lines : (name : Text) → (events : Pieces) → ℕ
own_lines name events = count_by (begins_own name) events

abbrev pub lines_within : (calls : List Text) → (name : Text) → (events : Pieces) → ℕ
lines_within calls name [] = 0
lines_within calls name (e ∷ es) =
    (if is_line (kind_of e) && is_in_span calls name then 1 else 0) + lines_within (open_behind calls e) name es

abbrev pub all_lines : (name : Text) → (events : Pieces) → ℕ
all_lines name events = lines_within [] name events

abbrev pub lines_begun : (events : Pieces) → ℕ
lines_begun events = count_by (λ e. is_line (kind_of e)) events
