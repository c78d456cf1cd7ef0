-- What is kept, of one event more.
use Rattle.std.proofs.Common.{◌≡◌, ◌+◌, ◌*◌, ◌≤◌, ◌∙◌, ℕ, List, [], ◌∷◌, ◌++◌, length, map, refl, sym, ap, subst}
use Rattle.std.specs.Prelude.{◌==◌}
use Rattle.std.specs.List.{sum_by, IsDistinct}
use Rattle.std.specs.Str.{bytes_eq}
use Rattle.pt_base.specs.Taken.{Pieces}
use Rattle.pt_cover.specs.declared.counts.Counts.{Counts}
use Rattle.pt_cover.specs.declared.counts.Counts.TheVariants.{Lines, Names}
use Rattle.pt_cover.specs.declared.rows.LineCount.{LineCount}
use Rattle.pt_cover.specs.declared.rows.NameCount.{NameCount}
use Rattle.pt_cover.specs.Pieces.{Text, kind_of, line_of, name_of}
use Rattle.pt_cover.specs.Tallies.{NameTally, line_row, lines_of, lines_then, name_tally, names_of, names_then}
use Rattle.pt_cover.specs.Room.{name_room, names_room}
use Rattle.pt_cover.specs.Kept.{counted, counts_then, report_of, HasDifferentRows, room_for}
use Rattle.pt_cover.proofs.ListLemmas.{sum-of_map, length-of_map}
use Rattle.pt_cover.proofs.LineLemmas.{line_rows-snoc, lines_of-then}
use Rattle.pt_cover.proofs.NameLemmas.{name_tally-snoc, names_of-then}

abbrev rows_of : Counts → List LineCount
rows_of (Lines rows) = rows
rows_of (Names t) = []

abbrev tally_of : NameTally → Counts → NameTally
tally_of other (Lines rows) = other
tally_of other (Names t) = t

pub counts-snoc : (c : Counts) (es : Pieces) (e : Text) → HasDifferentRows c → c ≡ counted c es → counts_then c e ≡ counted c (es ++ e ∷ [])
counts-snoc (Lines rows) es e d is =
    let rows_are : rows ≡ map (line_row es) (lines_of rows) = ap rows_of is in
    ap Lines (ap (λ rs. lines_then rs (kind_of e) (line_of e)) rows_are ∙ line_rows-snoc (lines_of rows) es e d)
counts-snoc (Names t) es e d is =
    let tally_is : t ≡ name_tally (names_of t.rows) es = ap (tally_of t) is in
    ap Names (ap (λ q. names_then q (kind_of e) (name_of e)) tally_is ∙ name_tally-snoc (names_of t.rows) es e d)

-- lines and names stay the same
pub counted-then : (c : Counts) (e : Text) (es : Pieces) → counted (counts_then c e) es ≡ counted c es
counted-then (Lines rows) e es = ap (λ ls. Lines (map (line_row es) ls)) (lines_of-then rows (kind_of e) (line_of e))
counted-then (Names t) e es = ap (λ names. Names (name_tally names es)) (names_of-then t (kind_of e) (name_of e))

pub different-then : (c : Counts) (e : Text) → HasDifferentRows c → HasDifferentRows (counts_then c e)
different-then (Lines rows) e d = subst (IsDistinct (λ a b. a == b)) (sym (lines_of-then rows (kind_of e) (line_of e))) d
different-then (Names t) e d = subst (IsDistinct bytes_eq) (sym (names_of-then t (kind_of e) (name_of e))) d

lines_room : (rows : List LineCount) → 42 * length rows + 54 ≡ 42 * length (lines_of rows) + 54
lines_room rows = ap (λ n. 42 * n + 54) (length-of_map (λ r. r.line.0) rows)

names_room_is : (rows : List NameCount) → names_room rows + 27 ≡ sum_by (λ n. length n + 64) (names_of rows) + 27
names_room_is rows = ap (λ n. n + 27) (sum-of_map (λ r. r.name) (λ n. length n + 64) rows)

pub room-then : (c : Counts) (e : Text) → room_for (counts_then c e) ≡ room_for c
room-then (Lines rows) e = lines_room (lines_then rows (kind_of e) (line_of e))
    ∙ ap (λ ls. 42 * length ls + 54) (lines_of-then rows (kind_of e) (line_of e)) ∙ sym (lines_room rows)
room-then (Names t) e = names_room_is (names_then t (kind_of e) (name_of e)).rows
    ∙ ap (λ names. sum_by (λ n. length n + 64) names + 27) (names_of-then t (kind_of e) (name_of e)) ∙ sym (names_room_is t.rows)

pub still-fits : (c c' : Counts) (e : Text) (capacity : ℕ) → c' ≡ counts_then c e → (room_for c ≤ capacity) × HasDifferentRows c
    → (room_for c' ≤ capacity) × HasDifferentRows c'
still-fits c c' e capacity is had =
    subst (λ k. (room_for k ≤ capacity) × HasDifferentRows k) (sym is)
    (subst (λ n. n ≤ capacity) (sym (room-then c e)) had.0, different-then c e had.1)
