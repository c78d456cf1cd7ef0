-- The tokens of a text stand on lines that rise.
use Rattle.std.proofs.Common.{◌≡◌, ◌⊎◌, inl, inr, ℕ, suc, ◌≤◌, false, List, [], ◌∷◌, ◌++◌, refl, sym, ap, ◌∙◌, subst, arith, if◌then◌else◌}
use Rattle.std.proofs.lemmas.Bool.{true≢false}
use Rattle.pt_base.specs.declared.numbers.Line.{Line}
use Rattle.pt_literals.specs.declared.source.Spot.{Spot}
use Rattle.pt_literals.specs.declared.source.TextEnd.{TextEnd}
use Rattle.pt_literals.specs.declared.token.Token.{Token}
use Rattle.pt_literals.specs.declared.token.TokenKind.{TokenKind}
use Rattle.pt_literals.specs.declared.token.TokenKind.TheVariants as kind
use Rattle.pt_lexer.specs.Lines.{line_of, LineEnd, feed, both, carriage, Stops, at_line_end, at_text_end, Comment, text_ends, line_ends, goes_on, Piece, blank, comment, backslash, inside, Nest, mode_of, Gap, nothing, piece, token, kind_of, Body, finish, word, Back, there, further, Turn, deeper, level, marks, closing, Lines, done, empty, full}
use Rattle.pt_lexer.proofs.LiteralLemmas.{Tail, whole, past, tail_tail, is_tail}
use Rattle.pt_lexer.proofs.NextLemmas.{next_behind}
use Rattle.pt_lexer.proofs.ShapeLemmas.{next_word, is_word}
use Rattle.pt_grammar.specs.Lexemes.{lexeme_of, lexemes, line_of_lexeme}
use Rattle.pt_grammar.proofs.LexemeLemmas.{line_same}
use Rattle.law_front.specs.token_lines.Rising.{is_between, is_newline, LinesRise, LinesOfTokensRise}
use Rattle.law_front.proofs.token_lines.Rising.{earlier_rise}
use Rattle.law_front.proofs.token_lines.Spots.{AreOnLines, text_on_lines, tail_lines, line_end_behind}
use Rattle.law_front.proofs.token_lines.Words.{words_in_line}

-- ---- what stands between words

line_end_tail : {ss rest : List Spot} → LineEnd ss rest → Tail ss rest
line_end_tail (feed e) = past whole
line_end_tail (both e f) = past (past whole)
line_end_tail (carriage e n) = past whole

stops_tail : {end : TextEnd} {ss rest : List Spot} → Stops end ss rest → Tail ss rest
stops_tail (at_line_end l) = line_end_tail l
stops_tail (at_text_end w) = whole

comment_tail : {ss rest : List Spot} → Comment ss rest → Tail ss rest
comment_tail text_ends = whole
comment_tail (line_ends h) = whole
comment_tail (goes_on h c) = past (comment_tail c)

piece_tail : {end : TextEnd} {opened : _} {ss rest : List Spot} → Piece end opened ss rest → Tail ss rest
piece_tail (blank h) = past whole
piece_tail (comment h c) = past (comment_tail c)
piece_tail (backslash h s) = past (stops_tail s)
piece_tail (inside l) = line_end_tail l

gap_tail : {end : TextEnd} {n : Nest} {ss rest : List Spot} → Gap end n ss rest → Tail ss rest
gap_tail nothing = whole
gap_tail (piece w p g) = tail_tail (piece_tail p) (gap_tail g)

abbrev line : TextEnd → List Spot → ℕ
line end ss = (line_of end ss).0

abbrev Rise : ℕ → List Token → Type 0
Rise b ts = LinesRise b (lexemes ts)

lower : {b c : ℕ} (ts : List Token) → b ≤ c → Rise c ts → Rise b ts
lower ts h r = earlier_rise (lexemes ts) h r

-- ---- a line

-- behind a token that is a word
behind_word : {b : ℕ} (t : Token) (ts : List Token) → (is_between (lexeme_of t) ≡ false) × (is_newline (lexeme_of t) ≡ false) → b ≤ t.line.0 → Rise t.line.0 ts
    → Rise b (t ∷ ts)
behind_word {b} t ts h l r = (
  λ e. subst (λ n. b ≤ n) (sym (line_same t)) l,
  subst (λ n. LinesRise n (lexemes ts)) (sym (ap (λ x. if x then b else if is_newline (lexeme_of t) then suc
      (line_of_lexeme (lexeme_of t)) else line_of_lexeme (lexeme_of t)) h.0
      ∙ (ap (λ x. if x then suc (line_of_lexeme (lexeme_of t)) else line_of_lexeme (lexeme_of t)) h.1 ∙ line_same t))) r,
)

body : {end : TextEnd} {n : Nest} {text stop rest : List Spot} {ws : List Token} {b : ℕ} (ts : List Token) → Body end n text ws stop rest → AreOnLines end text
    → b ≤ line end text → Rise (line end stop) ts → Rise b (ws ++ ts)
body {end = end} ts (finish g e) a l r = let h = tail_lines end (gap_tail g) a in let k = h.0 in lower ts (omega (arith, l, k)) r
body {end = end} ts (word {n = n} {mid = mid} {w = w} g k t c) a l r =
    let h = tail_lines end (gap_tail g) a in
    let i = tail_lines end (is_tail (next_behind k)) h.1 in
    let j = h.0 in
    behind_word (token end mid (kind_of w)) _ (words_in_line (line end mid) (kind_of w) (is_word (mode_of n) w (next_word k))) (omega (arith, l, j))
    (body ts c i.1 i.0 r)

-- where a line stops
record StopsThere (end : TextEnd) (text stop rest : List Spot) : Type 0 where
  at_or_behind : line end text ≤ line end stop
  on_lines : AreOnLines end stop
  stops : Stops end stop rest

stopped : {end : TextEnd} {n : Nest} {text stop rest : List Spot} {ws : List Token} → Body end n text ws stop rest → AreOnLines end text
    → StopsThere end text stop rest
stopped {end = end} (finish g e) a = let h = tail_lines end (gap_tail g) a in record { at_or_behind = h.0; on_lines = h.1; stops = e }
stopped {end = end} (word g k t c) a =
    let h = tail_lines end (gap_tail g) a in
    let i = tail_lines end (is_tail (next_behind k)) h.1 in
    let s = stopped c i.1 in
    let x = h.0 in let y = i.0 in let z = s.at_or_behind in
    record { at_or_behind = omega (arith, x, y, z); on_lines = s.on_lines; stops = s.stops }

-- ---- between lines

back : {cols after : _} {k : _} {ks : List TokenKind} (b at : ℕ) (l : Line) (ts : List Token) → Back cols k after ks → Rise b ts
    → Rise b (marks at l ks ++ ts)
back b at l ts (there h) r = r
back b at l ts (further h c) r = (λ e. absurd (true≢false e), back b at l ts c r)

turn : {cols after : _} {k : _} {ks : List TokenKind} (b at : ℕ) (l : Line) (ts : List Token) → Turn cols k after ks → Rise b ts
    → Rise b (marks at l ks ++ ts)
turn b at l ts (deeper h) r = (λ e. absurd (true≢false e), r)
turn b at l ts (level c) r = back b at l ts c r

closed : (end : TextEnd) (cols : _) (b : ℕ) → Rise b (closing end cols)
closed end [] b = (λ e. absurd (true≢false e), tt)
closed end (k ∷ []) b = (λ e. absurd (true≢false e), tt)
closed end (k ∷ (l ∷ cols)) b = (λ e. absurd (true≢false e), closed end (l ∷ cols) b)

-- what stands behind the end of a line
abbrev From : TextEnd → ℕ → List Spot → Type 0
From end b text = (b ≤ line end text) ⊎ (text ≡ [])

behind_stop : {end : TextEnd} {stop rest : List Spot} → Stops end stop rest → AreOnLines end stop → From end (suc (line end stop)) rest × AreOnLines end rest
behind_stop {end = end} (at_line_end l) a = let h = line_end_behind end l a in let k = h.0 in (inl (omega (arith, k)), h.1)
behind_stop (at_text_end w) a = (inr refl, a)

some_from : (end : TextEnd) {b : ℕ} {s : Spot} {ss : List Spot} → From end b (s ∷ ss) → b ≤ line end (s ∷ ss)
some_from end (inl h) = h
some_from end {s = s} {ss = ss} (inr e) = let no : s ∷ ss ≡ [] = e in cc

sooner : (end : TextEnd) {b c : ℕ} {text : List Spot} → b ≤ c → From end c text → From end b text
sooner end h (inl k) = inl (omega (arith, h, k))
sooner end h (inr e) = inr e

lines : {end : TextEnd} {cols : _} {text : List Spot} {all : List Token} {b : ℕ} → Lines end cols text all → AreOnLines end text → From end b text → Rise b all
lines {end = end} {cols = cols} {b = b} (done w h) a f = subst (Rise b) (sym h) (closed end cols b)
lines {end = end} (empty c l) a f =
    let s = stopped c a in
    let r = behind_stop s.stops s.on_lines in
    let x = some_from end f in let y = s.at_or_behind in
    lines l r.1 (sooner end (omega (arith, x, y)) r.0)
lines {end = end} {b = b} (full {stop = stop} {w = w} {ws = ws} {others = others} {ks = ks} c t g d l h) a f =
    let s = stopped c a in
    let r = behind_stop s.stops s.on_lines in
    subst (Rise b) (sym h) (turn b w.at w.line _ t (body (token end stop kind.Newline ∷ others) c a (some_from end f) (λ e. omega arith, lines l r.1 r.0)))

pub lines_rise : LinesOfTokensRise
lines_rise text tokens are = lines are (text_on_lines text) (inl (omega arith))
