-- The lines of characters rise, and behind the end of a line stands a later one.
use Rattle.std.proofs.Common.{◌≡◌, ◌≢◌, ℕ, ◌+◌, ◌≤◌, ◌<◌, Bool, true, false, not, ◌&&◌, ◌||◌, ◌==◌, List, [], ◌∷◌, refl, ap, ◌∙◌, arith, if◌then◌else◌}
use Rattle.std.proofs.lemmas.Bool.{eq-eqb, eqb-true}
use Rattle.std.specs.Char.{len_utf8}
use Rattle.pt_literals.specs.declared.source.Spot.{Spot}
use Rattle.pt_literals.specs.declared.source.TextEnd.{TextEnd}
use Rattle.pt_literals.specs.Source.{begins_line, line_at, placed, end_behind, behind_mark, read_chars, spots_of, end_of}
use Rattle.pt_lexer.specs.Lines.{line_of, LineEnd, feed, both, carriage, NoFeed}
use Rattle.pt_lexer.proofs.LiteralLemmas.{Tail, whole, past}

-- the character that comes next, and 0 at the end
abbrev next_char : List Spot → ℕ
next_char [] = 0
next_char (s ∷ ss) = s.char

abbrev line : TextEnd → List Spot → ℕ
line end ss = (line_of end ss).0

-- each line is that of the character before, or the one behind it
abbrev pub AreOnLines : TextEnd → List Spot → Type 0
AreOnLines end [] = Unit {0}
AreOnLines end (s ∷ ss) = (line end ss ≡ line_at s.line.0 s.char (next_char ss)) × AreOnLines end ss

on_lines : (at l before : ℕ) (cs : List ℕ) (w : Bool) → AreOnLines (end_behind at l before cs w) (placed at l before cs)
on_lines at l before [] w = tt
on_lines at l before (c ∷ []) w = (refl, tt)
on_lines at l before (c ∷ (d ∷ cs)) w = (refl, on_lines (at + len_utf8 c) (line_at l before c) c (d ∷ cs) w)

without_mark : (end : TextEnd) (ss : List Spot) → AreOnLines end ss → AreOnLines end (behind_mark ss)
without_mark end [] h = tt
without_mark end (s ∷ ss) h = by (s.char == 0xfeff)
  where
    by : (b : Bool) → AreOnLines end (if b then ss else s ∷ ss)
    by true = h.1
    by false = h

pub text_on_lines : (text : List ℕ) → AreOnLines (end_of text) (spots_of text)
text_on_lines text = without_mark (end_of text) (placed 0 1 0 (read_chars text)) (on_lines 0 1 0 (read_chars text) _)

not_before : (l before c : ℕ) → l ≤ line_at l before c
not_before l before c = by (begins_line before c)
  where
    by : (b : Bool) → l ≤ (if b then l + 1 else l)
    by true = omega arith
    by false = omega arith

pub tail_lines : (end : TextEnd) {a b : List Spot} → Tail a b → AreOnLines end a → ((line_of end a).0 ≤ (line_of end b).0) × AreOnLines end b
tail_lines end whole h = (omega arith, h)
tail_lines end (past {s = s} {ss = ss} t) h =
    let r = tail_lines end t h.1 in
    let e = h.0 in
    let n = not_before s.line.0 s.char (next_char ss) in
    (omega (arith, e, n, r.0), r.1)

begins_at : (l before c : ℕ) → begins_line before c ≡ true → line_at l before c ≡ l + 1
begins_at l before c e = ap (λ b. if b then l + 1 else l) e

goes_on_at : (l before c : ℕ) → begins_line before c ≡ false → line_at l before c ≡ l
goes_on_at l before c e = ap (λ b. if b then l + 1 else l) e

behind_feed : (before c : ℕ) → before ≡ 10 → begins_line before c ≡ true
behind_feed before c e = ap (λ b. b || ((before == 13) && not (c == 10))) (eq-eqb before 10 e)

between : (before c : ℕ) → before ≡ 13 → c ≡ 10 → begins_line before c ≡ false
between before c e f = ap (λ b. begins_line b c) e ∙ ap (λ d. begins_line 13 d) f

not_equal : (m n : ℕ) → m ≢ n → (m == n) ≡ false
not_equal m n h = by (m == n) refl
  where
    by : (b : Bool) → (m == n) ≡ b → b ≡ false
    by true e = absurd (h (eqb-true m n e))
    by false e = refl

no_feed : (ss : List Spot) → NoFeed ss → (next_char ss == 10) ≡ false
no_feed [] h = refl
no_feed (s ∷ ss) h = not_equal s.char 10 h

behind_return : (before : ℕ) (ss : List Spot) → before ≡ 13 → NoFeed ss → begins_line before (next_char ss) ≡ true
behind_return before ss e h = ap (λ b. begins_line b (next_char ss)) e ∙ ap (λ b. not b) (no_feed ss h)

pub line_end_behind : (end : TextEnd) {ss rest : List Spot} → LineEnd ss rest → AreOnLines end ss
    → ((line_of end ss).0 < (line_of end rest).0) × AreOnLines end rest
line_end_behind end (feed {s = s} {ss = ss} e) h =
    let f = h.0 ∙ begins_at s.line.0 s.char (next_char ss) (behind_feed s.char (next_char ss) e) in (omega (arith, f), h.1)
line_end_behind end (both {s = s} {t = t} {ss = ss} e f) h =
    let g = h.0 ∙ goes_on_at s.line.0 s.char t.char (between s.char t.char e f) in
    let k = (h.1).0 ∙ begins_at t.line.0 t.char (next_char ss) (behind_feed t.char (next_char ss) f) in
    (omega (arith, g, k), (h.1).1)
line_end_behind end (carriage {s = s} {ss = ss} e n) h =
    let f = h.0 ∙ begins_at s.line.0 s.char (next_char ss) (behind_return s.char ss e n) in (omega (arith, f), h.1)
