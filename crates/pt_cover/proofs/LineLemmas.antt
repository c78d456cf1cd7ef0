-- The rows of lines, of one event more.
use Rattle.std.proofs.Common.{◌≡◌, ◌+◌, ◌∙◌, ℕ, Bool, true, false, cond, List, [], ◌∷◌, ◌++◌, map, Option, Some, None, refl, sym, ap, subst}
use Rattle.std.specs.Prelude.{◌==◌, ◌&&◌}
use Rattle.std.specs.List.{IsDistinct}
use Rattle.std.proofs.lemmas.Bool.{eqb-true, eq-eqb}
use Rattle.pt_base.specs.Taken.{Pieces}
use Rattle.pt_cover.specs.declared.rows.LineCount.{LineCount}
use Rattle.pt_cover.specs.declared.told.Told.{Told}
use Rattle.pt_cover.specs.declared.told.Told.TheVariants as told
use Rattle.pt_cover.specs.Numbers.{limited}
use Rattle.pt_cover.specs.Pieces.{Text, kind_of, line_of, is_line}
use Rattle.pt_cover.specs.Counts.{is_line_number, begins_line, times_begun}
use Rattle.pt_cover.specs.Tallies.{line_row, lines_of, line_place, lines_then, with_line, changed_at, one_line_more}
use Rattle.pt_cover.proofs.ListLemmas.{count-snoc, limited-more, limited-same, map-same, map-id, map-changed, row-changed}

equal : (a b : ℕ) → ((a == b) ≡ true → a ≡ b) × (a ≡ b → (a == b) ≡ true)
equal a b = (λ e. eqb-true a b e, λ e. eq-eqb a b e)

-- a row of a line, with its count
abbrev row : (ℕ → ℕ) → ℕ → LineCount
row c n = record { line = record { 0 = n }; count = limited (c n) }

lines_of-rows : (c : ℕ → ℕ) (ls : List ℕ) → lines_of (map (row c) ls) ≡ ls
lines_of-rows c ls = map-id (λ r. r.line.0) (row c) (λ n. refl) ls

one_more : (c : ℕ → ℕ) (n : ℕ) → row (λ q. c q + 1) n ≡ one_line_more (row c n)
one_more c n = ap (λ (k : ℕ). let r : LineCount = record { line = record { 0 = n }; count = k } in r) (limited-more (c n))

same : (c : ℕ → ℕ) (n : ℕ) → row c n ≡ row (λ q. c q + 0) n
same c n = ap (λ (k : ℕ). let r : LineCount = record { line = record { 0 = n }; count = k } in r) (sym (limited-same (c n)))

all_same : (c : ℕ → ℕ) (ls : List ℕ) → map (row c) ls ≡ map (row (λ q. c q + 0)) ls
all_same c ls = map-same (row c) (row (λ q. c q + 0)) (same c) ls

counted_with : (c : ℕ → ℕ) (m : ℕ) (n : ℕ) (b : Bool) → (n == m) ≡ b → row (λ q. c q + cond (q == m) 1 0) n ≡ row (λ q. c q + cond b 1 0) n
counted_with c m n b e = ap (λ d. row (λ q. c q + cond d 1 0) n) e

-- where an event begins the line m
one_begun : (c : ℕ → ℕ) (m : ℕ) (ls : List ℕ) → IsDistinct (λ a b. a == b) ls
    → changed_at (map (row c) ls) (line_place ls m) one_line_more ≡ map (row (λ q. c q + cond (q == m) 1 0)) ls
one_begun c m ls d = row-changed (λ a b. a == b) equal (row c) (row (λ q. c q + cond (q == m) 1 0)) one_line_more m
    (λ n e. counted_with c m n true e ∙ one_more c n) (λ n e. counted_with c m n false e ∙ sym (same c n)) ls d

rows_then : (c : ℕ → ℕ) (k : Told) (l : Option ℕ) (ls : List ℕ) → IsDistinct (λ a b. a == b) ls
    → lines_then (map (row c) ls) k l ≡ map (row (λ q. c q + cond (is_line k && is_line_number l q) 1 0)) ls
rows_then c told.Line (Some m) ls d =
    ap (λ q. changed_at (map (row c) ls) (line_place q m) one_line_more) (lines_of-rows c ls) ∙ one_begun c m ls d
rows_then c told.Line None ls d = all_same c ls
rows_then c told.Call l ls d = all_same c ls
rows_then c told.Return l ls d = all_same c ls
rows_then c told.Other l ls d = all_same c ls

more_begun : (es : Pieces) (e : Text) (n : ℕ)
    → row (λ q. times_begun q es + cond (begins_line q e) 1 0) n ≡ line_row (es ++ e ∷ []) n
more_begun es e n = ap (λ (k : ℕ). let r : LineCount = record { line = record { 0 = n }; count = limited k } in r) (sym (count-snoc (begins_line n) es e))

pub line_rows-snoc : (ls : List ℕ) (es : Pieces) (e : Text) → IsDistinct (λ a b. a == b) ls
    → lines_then (map (line_row es) ls) (kind_of e) (line_of e) ≡ map (line_row (es ++ e ∷ [])) ls
line_rows-snoc ls es e d = rows_then (λ q. times_begun q es) (kind_of e) (line_of e) ls d ∙ map-same _ _ (more_begun es e) ls

pub lines_of-line_rows : (ls : List ℕ) (es : Pieces) → lines_of (map (line_row es) ls) ≡ ls
lines_of-line_rows ls es = lines_of-rows (λ q. times_begun q es) ls

-- the lines stay the same
pub lines_of-then : (rows : List LineCount) (k : Told) (l : Option ℕ) → lines_of (lines_then rows k l) ≡ lines_of rows
lines_of-then rows told.Line (Some m) = map-changed (λ r. r.line.0) one_line_more (λ r. refl) rows (line_place (lines_of rows) m)
lines_of-then rows told.Line None = refl
lines_of-then rows told.Call l = refl
lines_of-then rows told.Return l = refl
lines_of-then rows told.Other l = refl
