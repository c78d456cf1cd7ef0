-- What is kept of the events: a row for each line or for each name, with its counts; the calls that are open; and what another
-- piece makes of that.
use Rattle.std.specs.Prelude.{◌==◌, ℕ, ◌+◌, ◌-◌, Bool, List, [], ◌∷◌, ◌++◌, zero, suc, length, map, take, count_by, nat_lt, slice_get, Option, Some, None, if◌then◌else◌}
use Rattle.std.specs.List.{position_or_len}
use Rattle.std.specs.Str.{bytes_eq}
use Rattle.pt_base.specs.Taken.{Pieces}
use Rattle.pt_base.specs.declared.numbers.Line.{Line}
use Rattle.pt_cover.specs.declared.told.Told.{Told}
use Rattle.pt_cover.specs.declared.told.Told.TheVariants as told
use Rattle.pt_cover.specs.declared.rows.LineCount.{LineCount}
use Rattle.pt_cover.specs.declared.rows.NameCount.{NameCount}
use Rattle.pt_cover.specs.Numbers.{limited}
use Rattle.pt_cover.specs.Pieces.{Text, kind_of, line_of, name_of}
use Rattle.pt_cover.specs.Calls.{spans_at_once, open_calls}
use Rattle.pt_cover.specs.Counts.{times_begun, calls_of, own_lines, all_lines, lines_begun}

-- the rows of lines and of names, of these events
abbrev pub line_row : (events : Pieces) → (line : ℕ) → LineCount
line_row events line = record { line = record { 0 = line }; count = limited (times_begun line events) }

abbrev pub name_row : (events : Pieces) → (name : Text) → NameCount
name_row events name = record {
  name = name;
  calls = limited (calls_of name events);
  own = limited (own_lines name events);
  all = limited (all_lines name events);
  spans = count_by (bytes_eq name) (take spans_at_once (open_calls events));
}

abbrev pub lines_of : List LineCount → List ℕ
lines_of rows = map (λ r. r.line.0) rows

abbrev pub names_of : List NameCount → List Text
names_of rows = map (λ r. r.name) rows

-- the first place of a line or a name, or the count where there is none
abbrev pub line_place : List ℕ → ℕ → ℕ
line_place lines line = position_or_len (λ n. n == line) lines

abbrev pub name_place : List Text → Text → ℕ
name_place names name = position_or_len (λ n. bytes_eq n name) names

-- the list with the item at a place changed
abbrev pub changed_at : {X : Type 0} → List X → ℕ → (X → X) → List X
changed_at [] k f = []
changed_at (x ∷ xs) zero f = f x ∷ xs
changed_at (x ∷ xs) (suc k) f = x ∷ changed_at xs k f

-- one more, where there is room for it
abbrev pub more : ℕ → ℕ
more n = limited (n + 1)

-- the places of the names of calls that have a span, and how many calls without one are open behind them
pub record Open : Type 0 where
  pub spans : List ℕ
  pub deeper : ℕ

-- of the calls of these names that are open
abbrev pub open_of : (names : List Text) → (calls : List Text) → Open
open_of names calls = record { spans = map (name_place names) (take spans_at_once calls); deeper = length calls - spans_at_once }

abbrev pub has_room : Open → Bool
has_room calls = nat_lt (length calls.spans) spans_at_once

abbrev pub open_more : Open → (place : ℕ) → Open
open_more calls place =
    if has_room calls then record { spans = calls.spans ++ place ∷ []; deeper = calls.deeper }
    else record { spans = calls.spans; deeper = more calls.deeper }

abbrev pub close_last : Open → Open
close_last calls =
    if nat_lt 0 calls.deeper then record { spans = calls.spans; deeper = calls.deeper - 1 }
    else record { spans = take (length calls.spans - 1) calls.spans; deeper = 0 }

-- the place of the span that ends with the last call
abbrev pub closed_place : Open → Option ℕ
closed_place calls = if nat_lt 0 calls.deeper then None else slice_get calls.spans (length calls.spans - 1)

-- what is kept by names
pub record NameTally : Type 0 where
  pub rows : List NameCount
  pub calls : Open
  pub total : ℕ

abbrev pub name_tally : (names : List Text) → (events : Pieces) → NameTally
name_tally names events = record {
  rows = map (name_row events) names;
  calls = open_of names (open_calls events);
  total = limited (lines_begun events);
}

-- what another event makes of it
abbrev pub one_line_more : LineCount → LineCount
one_line_more r = record { line = r.line; count = more r.count }

abbrev pub with_line : List LineCount → Option ℕ → List LineCount
with_line rows (Some n) = changed_at rows (line_place (lines_of rows) n) one_line_more
with_line rows None = rows

abbrev pub lines_then : List LineCount → Told → Option ℕ → List LineCount
lines_then rows told.Line line = with_line rows line
lines_then rows told.Call line = rows
lines_then rows told.Return line = rows
lines_then rows told.Other line = rows

abbrev pub one_call_more : (has_span : Bool) → NameCount → NameCount
one_call_more has_span r =
    record { name = r.name; calls = more r.calls; own = r.own; all = r.all; spans = if has_span then more r.spans else r.spans }

abbrev pub one_span_less : NameCount → NameCount
one_span_less r = record { name = r.name; calls = r.calls; own = r.own; all = r.all; spans = r.spans - 1 }

abbrev pub one_own_more : NameCount → NameCount
one_own_more r = record { name = r.name; calls = r.calls; own = more r.own; all = r.all; spans = r.spans }

abbrev pub one_within_more : NameCount → NameCount
one_within_more r =
    record { name = r.name; calls = r.calls; own = r.own; all = if nat_lt 0 r.spans then more r.all else r.all; spans = r.spans }

abbrev pub without_span : List NameCount → Option ℕ → List NameCount
without_span rows (Some place) = changed_at rows place one_span_less
without_span rows None = rows

abbrev pub names_then : NameTally → Told → Text → NameTally
names_then t told.Call name =
    let place = name_place (names_of t.rows) name in
    record { rows = changed_at t.rows place (one_call_more (has_room t.calls)); calls = open_more t.calls place; total = t.total }
names_then t told.Line name = record {
  rows = map one_within_more (changed_at t.rows (name_place (names_of t.rows) name) one_own_more);
  calls = t.calls;
  total = more t.total;
}
names_then t told.Return name =
    record { rows = without_span t.rows (closed_place t.calls); calls = close_last t.calls; total = t.total }
names_then t told.Other name = t
