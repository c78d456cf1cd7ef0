-- Calls that are open behind events, and what is counted of each name (LIB `profile`, "What Is Deterministic Profiling?"): a call
-- opens one, and a return closes the one that was opened last. So many of them have a span, the outermost ones.
use Rattle.std.specs.Prelude.{ℕ, ◌+◌, ◌-◌, ◌^◌, Bool, List, [], ◌∷◌, ◌++◌, length, take, fold, nat_lt, if◌then◌else◌}
use Rattle.std.specs.List.{list_any}
use Rattle.std.specs.Str.{bytes_eq}
use Rattle.pt_base.specs.Taken.{Pieces}
use Rattle.pt_cover.specs.declared.told.Told.{Told}
use Rattle.pt_cover.specs.declared.told.Told.TheVariants.{Call, Line, Return, Other}
use Rattle.pt_cover.specs.Pieces.{Text, kind_of, name_of}

-- how many calls have a span at once, and how many are open at most, so that a number tells those without one
abbrev pub spans_at_once : ℕ
spans_at_once = 1000

abbrev pub most_open : ℕ
most_open = 2 ^ 64 + 999

-- the names of the open calls, the outermost first
abbrev pub opened : (calls : List Text) → Text → List Text
opened calls name = if nat_lt (length calls) most_open then calls ++ name ∷ [] else calls

abbrev pub open_then : (calls : List Text) → Told → Text → List Text
open_then calls Call name = opened calls name
open_then calls Return name = take (length calls - 1) calls
open_then calls Line name = calls
open_then calls Other name = calls

abbrev pub open_behind : (calls : List Text) → (piece : Text) → List Text
open_behind calls piece = open_then calls (kind_of piece) (name_of piece)

abbrev pub open_calls : (events : Pieces) → List Text
open_calls events = fold open_behind [] events

-- whether one of these calls has a span and this name
abbrev pub is_in_span : (calls : List Text) → (name : Text) → Bool
is_in_span calls name = list_any (bytes_eq name) (take spans_at_once calls)
