-- Every text has a list of tokens or a refusal.
use Rattle.std.proofs.Common.{◌≡◌, ℕ, zero, suc, ◌≤◌, ◌<◌, List, [], ◌∷◌, ◌++◌, true, Result, Ok, Err, refl, arith, inl, inr, ◌⊎◌, length}
use Rattle.std.proofs.lemmas.Bool.{cases_Bool, cases_lt, cases_order}
use Rattle.pt_base.specs.declared.numbers.Line.{Line}
use Rattle.pt_literals.specs.declared.source.Spot.{Spot}
use Rattle.pt_literals.specs.declared.source.TextEnd.{TextEnd}
use Rattle.pt_literals.specs.declared.modes.Mode.TheVariants as mode
use Rattle.pt_literals.specs.declared.token.LexErr.{LexErr}
use Rattle.pt_literals.specs.declared.token.LexErr.TheVariants as fault
use Rattle.pt_literals.specs.declared.token.Lexeme.{Lexeme}
use Rattle.pt_literals.specs.declared.token.Token.{Token}
use Rattle.pt_literals.specs.declared.token.TokenKind.{TokenKind}
use Rattle.pt_literals.specs.declared.token.TokenKind.TheVariants as kind
use Rattle.pt_lexer.specs.declared.token.Column.{Column}
use Rattle.pt_literals.specs.Source.{end_of, spots_of}
use Rattle.pt_lexer.specs.Words.{Next}
use Rattle.pt_lexer.specs.Lines.{token, marks, Stops, Nest, outside, Gap, nothing, NoPiece, turned, Body, finish, column_of, agrees, Back, there, further, Turn, deeper, level, closing, Lines, done}
use Rattle.pt_lexer.specs.Faults.{at_once, in_string, Faulty, IsMisplaced, Refused, margin, IsTokens, IsRefused}
use Rattle.pt_lexer.specs.Progress.{Rises, Begins, FirstFault, LineRead, empty_line, full_line}
use Rattle.pt_lexer.proofs.GapLemmas.{broken_stop}
use Rattle.pt_lexer.proofs.ReadLemmas.{gap_fails}
use Rattle.pt_lexer.proofs.ColumnLemmas.{NoBack, no_back_above, no_back_at, no_turn, first_off, first_mixed}
use Rattle.pt_lexer.proofs.Once.{no_piece_at_end, well_placed, lines_or_fault}
use Rattle.pt_lexer.proofs.FirstLemmas.{column_refused, words_refused, refused_broken, first_refused, begin_again, strange_first, wrong_first, deep_first, faulty_first, string_first, not_empty_line, body_behind_gap}
use Rattle.pt_lexer.proofs.LineLemmas.{line_rises, line_shorter, lines_behind, refused_behind, rises_whole}
use Rattle.pt_lexer.proofs.EveryWord.{stop_or, gap_here, Stands, a_word, no_words, a_fault, stands, WordsHere, words_here}

-- A column is one of the open ones, or none.
abbrev BackHere : List Column → Column → Type 0
BackHere cols k = ((after : List Column) × (ks : List TokenKind) × Back cols k after ks) ⊎ NoBack cols k

back_here : (cols : List Column) (k : Column) → BackHere cols k
back_here [] k = inr (λ after ks b. elim b [ ])
back_here (t ∷ cols) k = elim (cases_order k.wide t.wide) [
  | inl e ↦ inl (t ∷ cols, [], there e)
  | inr ne ↦ elim ne [
    | inl lt ↦ elim (back_here cols k) [ inl b ↦ inl (b.0, kind.Dedent ∷ b.1, further lt b.2) | inr n ↦ inr (λ after ks b. no_back_above lt n b) ]
    | inr gt ↦ inr (λ after ks b. no_back_at gt b)
  ]
]

abbrev TurnHere : List Column → Column → Type 0
TurnHere cols k = ((after : List Column) × (ks : List TokenKind) × Turn cols k after ks) ⊎ ((after : List Column) (ks : List TokenKind) → Turn cols k after ks → ⊥)

no_columns : {k : Column} {after : List Column} {ks : List TokenKind} → Turn [] k after ks → ⊥
no_columns (level b) = elim b [ ]

turn_here : (cols : List Column) (k : Column) → TurnHere cols k
turn_here [] k = inr (λ after ks t. no_columns t)
turn_here (t ∷ cols) k = elim (cases_lt t.wide k.wide) [
  | inl h ↦ inl (k ∷ (t ∷ cols), kind.Indent ∷ [], deeper h)
  | inr h ↦ elim (back_here (t ∷ cols) k) [ inl b ↦ inl (b.0, b.1, level b.2) | inr n ↦ inr (no_turn h n) ]
]

-- The column of a line is in order, or it is at fault before all else that is.
abbrev ColumnHere : List Column → Column → Line → Type 0
ColumnHere cols k line = ((after : List Column) × (ks : List TokenKind) × Turn cols k after ks × (agrees k cols ≡ true)) ⊎ ((e : LexErr) × IsMisplaced cols k line e)

column_here : (cols : List Column) (k : Column) (line : Line) → ColumnHere cols k line
column_here cols k line = elim (turn_here cols k) [
  | inr n ↦ inr (fault.BadIndent line, first_off cols k line n)
  | inl t ↦ elim (cases_Bool (agrees k cols)) [
    | inl a ↦ inl (t.0, t.1, t.2, a)
    | inr a ↦ inr (fault.MixedTabs line, first_mixed cols t.0 k line t.1 a t.2)
  ]
]

-- what is wrong with a line that opens one block too many
fault_of_word : {end : TextEnd} {first after : List Spot} {s : Spot} {w : Lexeme} → Begins end first first s → Next mode.Words first w after → (r : Result Nest LexErr) → turned outside w s.line ≡ r → (e : LexErr) × FirstFault end first s e
fault_of_word {s = s} b k (Ok more) t = (fault.Limit s.line, deep_first b k t)
fault_of_word b k (Err e) t = (e, wrong_first e b k t)

first_fault : {end : TextEnd} {first : List Spot} {s : Spot} → Begins end first first s → Stands end outside first → (e : LexErr) × FirstFault end first s e
first_fault {s = s} b (a_word {w = w} k) = fault_of_word b k (turned outside w s.line) refl
first_fault {s = s} b (no_words k) = (fault.BadChar s.at, strange_first b k)
first_fault b (a_fault (at_once {e = e} h)) = (e, faulty_first e b h)
first_fault {s = s} b (a_fault (in_string h f)) = (fault.Limit s.line, string_first b h)

-- A line is read, or the text is refused for it.
abbrev LineHere : TextEnd → List Column → List Spot → Type 0
LineHere end cols text = ((after : List Column) × (rest : List Spot) × (front : List Token) × LineRead end cols text after rest front) ⊎ ((e : LexErr) × Refused end cols text e)

placed_line : {end : TextEnd} {cols after : List Column} {text first : List Spot} {s : Spot} {ks : List TokenKind} → Begins end text first s → Turn cols (column_of text) after ks → agrees (column_of text) cols ≡ true → length after ≤ 101
    → WordsHere end outside first → LineHere end cols text
placed_line {cols = cols} b t a l (inr f) = inr (f.0, words_refused cols f.0 f.1 (gap_fails b.gap f.2) (λ g u ss h p m. well_placed t a l m))
placed_line {end} {cols} {after} {text} {first} {s} {ks} b t a l (inl words) = go words.0 words.3
  where
    go : (ws : List Token) → Body end outside first ws words.1 words.2 → LineHere end cols text
    go [] body = absurd (not_empty_line b (body_behind_gap b.gap body))
    go (w ∷ ws) body = inl (after, words.2, marks w.at w.line ks ++ ((w ∷ ws) ++ token end words.1 kind.Newline ∷ []), full_line (body_behind_gap b.gap body) t a l refl)

full_here : {end : TextEnd} {text first : List Spot} {s : Spot} (cols : List Column) → Begins end text first s → LineHere end cols text
full_here {end} {text} {first} {s} cols b = elim (column_here cols (column_of text) s.line) [
  | inr m ↦ inr (m.0, column_refused cols m.0 b m.1.wrong m.1.small m.1.least)
  | inl c ↦ elim (cases_lt 101 (length c.0)) [
    | inl deep ↦ let f = first_fault (begin_again b) (stands end outside first) in inr (f.0, first_refused f.0 b c.2 c.3 deep f.1)
    | inr few ↦ placed_line b c.2 c.3 few (words_here end outside first)
  ]
]

line_behind_gap : {end : TextEnd} {text : List Spot} (cols : List Column) (first : List Spot) → Rises end text → Gap end outside text first → NoPiece end outside first → ((rest : List Spot) → Stops end first rest → ⊥) → LineHere end cols text
line_behind_gap {end = end} cols [] r g p n = inr (fault.NotUtf8 end.at, refused_broken cols g p refl n)
line_behind_gap cols (s ∷ ss) r g p n = full_here cols (record { more = ss; rises = r; gap = g; is = refl; full = p; stands = n })

line_here : (end : TextEnd) (cols : List Column) (text : List Spot) → Rises end text → LineHere end cols text
line_here end cols text r =
    let g = gap_here end outside text in
    elim (stop_or end g.0) [ inl e ↦ inl (cols, e.0, [], empty_line (finish g.1 e.1)) | inr n ↦ line_behind_gap cols g.0 r g.1 g.2 n ]

-- A text where these columns are open has tokens or is refused.
abbrev pub TextHere : TextEnd → List Column → List Spot → Type 0
TextHere end cols text = ((all : List Token) × Lines end cols text all) ⊎ ((e : LexErr) × Refused end cols text e)

behind_line : {end : TextEnd} {cols : List Column} {s : Spot} {ss : List Spot} → LineHere end cols (s ∷ ss) → ((after : List Column) (rest : List Spot) → Rises end rest → length rest < length (s ∷ ss) → TextHere end after rest)
    → Rises end (s ∷ ss) → TextHere end cols (s ∷ ss)
behind_line (inr q) go r = inr q
behind_line (inl l) go r = elim (go l.0 l.1 (line_rises l.3 r) (line_shorter l.3 some)) [
  | inl t ↦ inl (l.2 ++ t.0, lines_behind l.3 t.1)
  | inr q ↦ inr (q.0, refused_behind q.0 l.3 q.1)
]
  where
    some : {s : Spot} {ss : List Spot} → s ∷ ss ≡ [] → ⊥
    some e = cc

text_by : (bound : ℕ) (end : TextEnd) (cols : List Column) (text : List Spot) → Rises end text → length text < bound → TextHere end cols text
text_by zero end cols text r h = absurd (omega arith)
text_by (suc bound) end cols [] r h = elim (cases_Bool end.is_whole) [
  | inl w ↦ inl (closing end cols, done w refl)
  | inr w ↦ inr (fault.NotUtf8 end.at, refused_broken cols nothing no_piece_at_end refl (λ rest s. broken_stop w s))
]
text_by (suc bound) end cols (s ∷ ss) r h = behind_line (line_here end cols (s ∷ ss) r) (λ after rest q shorter. text_by bound end after rest q (omega arith)) r

pub every_text : (bytes : List ℕ) → ((all : List Token) × IsTokens bytes all) ⊎ ((e : LexErr) × IsRefused bytes e)
every_text bytes = text_by (suc (length (spots_of bytes))) (end_of bytes) margin (spots_of bytes) (rises_whole bytes) (omega arith)

-- where something is at fault, there is a first fault
pub first_of_faults : (bytes : List ℕ) (f : LexErr) (place : ℕ) → Faulty (end_of bytes) margin (spots_of bytes) f place → (e : LexErr) × IsRefused bytes e
first_of_faults bytes f place h = elim (every_text bytes) [ inl t ↦ absurd (lines_or_fault t.1 h) | inr q ↦ q ]
