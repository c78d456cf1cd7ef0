-- Each place of a text has a longest gap, and behind it a word, a fault or neither.
use Rattle.std.proofs.Common.{◌≡◌, ℕ, zero, suc, ◌+◌, ◌<◌, List, [], ◌∷◌, ◌++◌, true, false, Option, Some, None, Result, Ok, Err, refl, sym, subst, arith, inl, inr, ◌⊎◌, length, take, drop, encode_utf8_all}
use Rattle.std.specs.List.{prefix_len}
use Rattle.std.proofs.lemmas.Bool.{cases_Bool, cases_eq, or_left, or_right}
use Rattle.pt_base.specs.declared.numbers.Line.{Line}
use Rattle.pt_literals.specs.declared.source.Spot.{Spot}
use Rattle.pt_literals.specs.declared.source.TextEnd.{TextEnd}
use Rattle.pt_literals.specs.declared.modes.Mode.TheVariants as mode
use Rattle.pt_literals.specs.declared.modes.Part.{Part}
use Rattle.pt_literals.specs.declared.token.LexErr.{LexErr}
use Rattle.pt_literals.specs.declared.token.LexErr.TheVariants as fault
use Rattle.pt_literals.specs.declared.token.Lexeme.{Lexeme}
use Rattle.pt_literals.specs.declared.token.Token.{Token}
use Rattle.pt_literals.specs.declared.token.TokenKind.{TokenKind}
use Rattle.pt_literals.specs.declared.token.TokenKind.TheVariants as kind
use Rattle.pt_lexer.specs.declared.token.Opening.{Opening}
use Rattle.pt_literals.specs.Source.{chars_of, is_blank, ends_line, starts_name}
use Rattle.pt_literals.specs.Literals.{Literal, literal, no_literal, faulty, known, holds}
use Rattle.pt_literals.specs.Strings.{Piece, listed, takes, fails, piece as piece_at, ends, Inside, closed, more}
use Rattle.pt_lexer.specs.Words.{is_operator, is_keyword, is_identifier, in_nfkc, Spells, NoneSpelt, Longest, Next, plain, begun, string, NoWord, LongestFront, has_operator}
use Rattle.pt_lexer.specs.Lines.{at_of, line_of, token, LineEnd, feed, both, carriage, Stops, at_line_end, at_text_end, Comment, text_ends, line_ends, goes_on, Piece as GapPiece, blank, comment, backslash, inside, Nest, nest, mode_of, opened_of, has_words, outside, Gap, nothing, piece, NoPiece, NoLineStop, turned, kind_of, Body, finish, word}
use Rattle.pt_lexer.specs.Faults.{or_line, string_line, line_of_part, InsideFails, at_text_end as text_breaks, here, behind, LiteralFails, at_once, in_string, Fails, broken, unclosed, strange, spoilt, wrong, later}
use Rattle.pt_lexer.proofs.GapLemmas.{no_line_end_at_end, no_line_end, broken_stop, no_stop, no_piece_at_end, no_backslash, only_inside, no_piece_outside, no_piece_in_text, piece_shorter}
use Rattle.pt_lexer.proofs.LiteralLemmas.{piece_behind, behind_shorter}
use Rattle.pt_lexer.proofs.NextLemmas.{next_name, next_operator, no_word, next_shorter}
use Rattle.pt_lexer.proofs.ReadLemmas.{gap_within, gap_fails, ends_in_words}
use Rattle.pt_lexer.proofs.WordLemmas.{continues_at, longest_identifier, no_identifier_at_end, no_identifier, three, two, one, none, take-chars_of}

-- something stands behind, or nothing does
abbrev pub Decides : (List Spot → Type 0) → Type 0
Decides P = ((rest : List Spot) × P rest) ⊎ ((rest : List Spot) → P rest → ⊥)

return_ends : (s : Spot) (ss : List Spot) → s.char ≡ 13 → (rest : List Spot) × LineEnd (s ∷ ss) rest
return_ends s [] h = ([], carriage h tt)
return_ends s (t ∷ us) h = elim (cases_eq t.char 10) [ inl k ↦ (us, both h k) | inr k ↦ (t ∷ us, carriage h k) ]

line_end_or : (text : List Spot) → Decides (LineEnd text)
line_end_or [] = inr (λ rest l. no_line_end_at_end refl l)
line_end_or (s ∷ ss) = elim (cases_eq s.char 10) [
  | inl h ↦ inl (ss, feed h)
  | inr h ↦ elim (cases_eq s.char 13) [ inl k ↦ inl (return_ends s ss k) | inr k ↦ inr (λ rest l. no_line_end refl h k l) ]
]

pub stop_or : (end : TextEnd) (text : List Spot) → Decides (Stops end text)
stop_or end [] = elim (cases_Bool end.is_whole) [ inl w ↦ inl ([], at_text_end w) | inr w ↦ inr (λ rest s. broken_stop w s) ]
stop_or end (s ∷ ss) = elim (line_end_or (s ∷ ss)) [ inl l ↦ inl (l.0, at_line_end l.1) | inr n ↦ inr (λ rest e. no_stop some n e) ]
  where
    some : s ∷ ss ≡ [] → ⊥
    some e = cc

-- gaps
comment_here : (text : List Spot) → (rest : List Spot) × Comment text rest
comment_here [] = ([], text_ends)
comment_here (s ∷ ss) = go (comment_here ss) (cases_Bool (ends_line s.char))
  where
    go : ((rest : List Spot) × Comment ss rest) → (ends_line s.char ≡ true) ⊎ (ends_line s.char ≡ false) → (rest : List Spot) × Comment (s ∷ ss) rest
    go c (inl h) = (s ∷ ss, line_ends h)
    go c (inr h) = (c.0, goes_on h c.1)

backslash_or : (end : TextEnd) (opened : List Opening) (s : Spot) (ss : List Spot) → s.char ≡ 92 → Decides (GapPiece end opened (s ∷ ss))
backslash_or end opened s ss h = elim (stop_or end ss) [ inl t ↦ inl (t.0, backslash h t.1) | inr n ↦ inr (λ rest p. no_backslash h n p) ]

inside_or : (end : TextEnd) (opened : List Opening) (s : Spot) (ss : List Spot) → is_blank s.char ≡ false → (s.char ≡ 35 → ⊥) → (s.char ≡ 92 → ⊥) → Decides (GapPiece end opened (s ∷ ss))
inside_or end [] s ss b c d = inr (no_piece_outside refl b c d refl)
inside_or end (x ∷ opened) s ss b c d = elim (line_end_or (s ∷ ss)) [ inl l ↦ inl (l.0, inside l.1) | inr n ↦ inr (λ rest p. n rest (only_inside b c d p).1) ]

piece_or : (end : TextEnd) (opened : List Opening) (text : List Spot) → Decides (GapPiece end opened text)
piece_or end opened [] = inr (no_piece_at_end refl)
piece_or end opened (s ∷ ss) = elim (cases_Bool (is_blank s.char)) [
  | inl b ↦ inl (ss, blank b)
  | inr b ↦ elim (cases_eq s.char 35) [
    | inl c ↦ let k = comment_here ss in inl (k.0, comment c k.1)
    | inr c ↦ elim (cases_eq s.char 92) [ inl d ↦ backslash_or end opened s ss d | inr d ↦ inside_or end opened s ss b c d ]
  ]
]

-- The longest gap at the front.
abbrev pub GapHere : TextEnd → Nest → List Spot → Type 0
GapHere end n text = (mid : List Spot) × Gap end n text mid × NoPiece end n mid

gap_by : (bound : ℕ) (end : TextEnd) (n : Nest) (text : List Spot) → has_words (mode_of n) ≡ true → length text < bound → GapHere end n text
gap_by zero end n text w h = absurd (omega arith)
gap_by (suc bound) end n text w h = elim (piece_or end (opened_of n) text) [
  | inr none ↦ (text, nothing, record { none = λ rest v p. none rest p })
  | inl p ↦ let g = gap_by bound end n p.0 w (let k = piece_shorter p.1 in omega arith) in (g.0, piece w p.1 g.1, g.2)
]

pub gap_here : (end : TextEnd) (n : Nest) (text : List Spot) → GapHere end n text
gap_here end n text = elim (cases_Bool (has_words (mode_of n))) [
  | inl w ↦ gap_by (suc (length text)) end n text w (omega arith)
  | inr w ↦ (text, nothing, no_piece_in_text end n text w)
]

-- A part of a string ends, or something in it is at fault.
abbrev StringHere : TextEnd → Line → Part → List Spot → Type 0
StringHere end line p text = ((vs : List ℕ) × (rest : List Spot) × Inside p text vs rest) ⊎ ((e : LexErr) × (at : ℕ) × InsideFails end line p text e at)

string_by : (bound : ℕ) (end : TextEnd) (line : Line) (p : Part) (text : List Spot) → length text < bound → StringHere end line p text
string_by zero end line p text h = absurd (omega arith)
string_by (suc bound) end line p [] h = inr (_, _, text_breaks)
string_by (suc bound) end line p (s ∷ ss) h = at_end (λ mid shorter. string_by bound end line p mid (omega arith)) (ends p s ss) refl
  where
    at_piece : ((mid : List Spot) → length mid < length (s ∷ ss) → StringHere end line p mid) → ends p s ss ≡ None → (q : Piece) → piece_at p s ss ≡ q → StringHere end line p (s ∷ ss)
    at_piece behind_it c (fails e) k = inr (e, s.at, here c k)
    at_piece behind_it c (takes cs mid) k = elim (behind_it mid (behind_shorter (piece_behind p s ss k))) [
      | inl i ↦ inl (listed cs ++ i.0, i.1, more c k i.2 refl)
      | inr f ↦ inr (f.0, f.1, behind c k f.2)
    ]

    at_end : ((mid : List Spot) → length mid < length (s ∷ ss) → StringHere end line p mid) → (o : Option (List Spot)) → ends p s ss ≡ o → StringHere end line p (s ∷ ss)
    at_end behind_it (Some rest) c = inl ([], rest, closed c)
    at_end behind_it None c = at_piece behind_it c (piece_at p s ss) refl

-- names, keywords and operators
identifier_here : (text : List Spot) → (n : ℕ) × LongestFront is_identifier (chars_of text) n
identifier_here [] = (0, no_identifier_at_end [] refl)
identifier_here (s ∷ ss) = elim (cases_Bool (starts_name s.char)) [
  | inl h ↦ (1 + prefix_len continues_at ss, longest_identifier s ss (s ∷ ss) refl h)
  | inr h ↦ (0, no_identifier s ss (s ∷ ss) refl h)
]

operator_here : (cs : List ℕ) → (n : ℕ) × LongestFront is_operator cs n
operator_here cs = elim (cases_Bool (has_operator cs 3)) [
  | inl h ↦ (3, three cs h)
  | inr h ↦ elim (cases_Bool (has_operator cs 2)) [
    | inl k ↦ (2, two cs h k)
    | inr k ↦ elim (cases_Bool (has_operator cs 1)) [ inl l ↦ (1, one cs h k l) | inr l ↦ (0, none cs h k l) ]
  ]
]

name_spelt : (cs : List ℕ) → is_identifier cs ≡ true → (w : TokenKind) × Spells w cs
name_spelt cs i = elim (cases_Bool (is_keyword cs)) [
  | inl k ↦ (kind.Sign cs, (refl, or_right (is_operator cs) _ k))
  | inr k ↦ (kind.Name (in_nfkc (encode_utf8_all cs)), (i, k, refl))
]

abbrev PlainHere : List Spot → Type 0
PlainHere text = ((w : TokenKind) × (rest : List Spot) × Longest text w rest) ⊎ NoneSpelt text

plain_here : (text : List Spot) → PlainHere text
plain_here text = at_name (identifier_here text).0 (identifier_here text).1
  where
    at_operator : LongestFront is_identifier (chars_of text) 0 → (n : ℕ) → LongestFront is_operator (chars_of text) n → PlainHere text
    at_operator i n l = elim (cases_Bool (is_operator (chars_of (take n text)))) [
      | inl h ↦ inl (kind.Sign (chars_of (take n text)), drop n text, next_operator text n (kind.Sign (chars_of (take n text))) i l (refl, or_left _ (is_keyword (chars_of (take n text))) h))
      | inr h ↦ inr (no_word text n i l h)
    ]

    at_name : (n : ℕ) → LongestFront is_identifier (chars_of text) n → PlainHere text
    at_name zero l = at_operator l (operator_here (chars_of text)).0 (operator_here (chars_of text)).1
    at_name (suc n) l =
        let s = name_spelt (chars_of (take (suc n) text)) (subst (λ x. is_identifier x ≡ true) (take-chars_of text (suc n)) (l.passes (omega arith))) in
        inl (s.0, drop (suc n) text, next_name text (suc n) s.0 l (omega arith) s.1)

-- What stands at a place: a word, nothing that could become one, or a fault.
pub data Stands (end : TextEnd) (n : Nest) (text : List Spot) : Type 0 where
  a_word : {w : Lexeme} {after : List Spot} → Next (mode_of n) text w after → Stands end n text
  no_words : NoWord (mode_of n) text → Stands end n text
  a_fault : {e : LexErr} {at : ℕ} → LiteralFails end n text e at → Stands end n text

pub stands : (end : TextEnd) (n : Nest) (text : List Spot) → Stands end n text
stands end n text = by_literal (literal (mode_of n) text) refl
  where
    by_literal : (l : Literal) → literal (mode_of n) text ≡ l → Stands end n text
    by_literal no_literal h = elim (plain_here text) [ inl p ↦ a_word (plain h p.2) | inr p ↦ no_words (record { lacks = h; none = p }) ]
    by_literal (faulty e) h = a_fault (at_once h)
    by_literal (known w rest) h = a_word (begun h)
    by_literal (holds p inner) h = elim (string_by (suc (length inner)) end (or_line (string_line n) (line_of_part p)) p inner (omega arith)) [
      | inl i ↦ a_word (string h i.2 refl)
      | inr f ↦ a_fault (in_string h f.2)
    ]

-- a line stops outside of brackets and strings
line_stop_or : (end : TextEnd) (n : Nest) (text : List Spot) → ((n ≡ outside) × ((rest : List Spot) × Stops end text rest)) ⊎ NoLineStop end n text
line_stop_or end (nest mode.Words []) text = elim (stop_or end text) [ inl s ↦ inl (refl, s) | inr s ↦ inr (λ rest e o. s rest e) ]
line_stop_or end (nest mode.Words (x ∷ opened)) text = inr (λ rest e o. absurd cc)
line_stop_or end (nest (mode.Text d) opened) text = inr (λ rest e o. absurd cc)
line_stop_or end (nest (mode.Field f) opened) text = inr (λ rest e o. absurd cc)
line_stop_or end (nest (mode.Spec f) opened) text = inr (λ rest e o. absurd cc)

-- no word stands here, and no line stops
fault_here : (end : TextEnd) (n : Nest) (mid : List Spot) → NoPiece end n mid → NoWord (mode_of n) mid → NoLineStop end n mid → (e : LexErr) × (at : ℕ) × Fails end n mid e at
fault_here end n (s ∷ ss) p k h = (fault.BadChar s.at, s.at, strange nothing p k h)
fault_here end n [] p k h = elim (cases_Bool end.is_whole) [
  | inl w ↦ (_, _, unclosed (ends_in_words (mode_of n) [] refl k) nothing w (λ o. h [] (at_text_end w) o))
  | inr w ↦ (_, _, broken (ends_in_words (mode_of n) [] refl k) nothing w)
]

-- The words of a line, or what is wrong with them.
abbrev pub WordsHere : TextEnd → Nest → List Spot → Type 0
WordsHere end n text = ((ws : List Token) × (stop : List Spot) × (rest : List Spot) × Body end n text ws stop rest) ⊎ ((e : LexErr) × (at : ℕ) × Fails end n text e at)

stopped : {end : TextEnd} {n : Nest} {text mid rest : List Spot} → n ≡ outside → Gap end n text mid → Stops end mid rest → Body end n text [] mid rest
stopped {end} {n} {text} {mid} {rest} o g s = subst (λ x. Body end x text [] mid rest) (sym o) (finish (subst (λ x. Gap end x text mid) o g) s)

-- the words behind one are told
abbrev Shorter : TextEnd → List Spot → Type 0
Shorter end text = (m : Nest) (after : List Spot) → length after < length text → WordsHere end m after

behind_word : {end : TextEnd} {n : Nest} {text mid after : List Spot} {w : Lexeme} → Shorter end text → Gap end n text mid → Next (mode_of n) mid w after → (r : Result Nest LexErr) → turned n w (line_of end mid) ≡ r
    → WordsHere end n text
behind_word {end = end} {mid = mid} go g k (Err e) t = inr (e, at_of end mid, wrong g k t)
behind_word {end = end} {mid = mid} {after = after} {w = w} go g k (Ok m) t = elim (go m after (let a = gap_within g in let b = next_shorter k in omega arith)) [
  | inl b ↦ inl (token end mid (kind_of w) ∷ b.0, b.1, b.2, word g k t b.3)
  | inr f ↦ inr (f.0, f.1, later g k t f.2)
]

at_place : {end : TextEnd} {n : Nest} {text : List Spot} (mid : List Spot) → Shorter end text → Gap end n text mid → NoPiece end n mid → NoLineStop end n mid → Stands end n mid → WordsHere end n text
at_place {end} {n} mid go g p s (a_word {w = w} k) = behind_word go g k (turned n w (line_of end mid)) refl
at_place {end} {n} mid go g p s (no_words k) = let f = fault_here end n mid p k s in inr (f.0, f.1, gap_fails g f.2)
at_place mid go g p s (a_fault f) = inr (_, _, spoilt g f)

words_by : (bound : ℕ) (end : TextEnd) (n : Nest) (text : List Spot) → length text < bound → WordsHere end n text
words_by zero end n text h = absurd (omega arith)
words_by (suc bound) end n text h =
    let g = gap_here end n text in
    elim (line_stop_or end n g.0) [
      | inl s ↦ inl ([], g.0, s.1.0, stopped s.0 g.1 s.1.1)
      | inr s ↦ at_place g.0 (λ m after shorter. words_by bound end m after (omega arith)) g.1 g.2 s (stands end n g.0)
    ]

pub words_here : (end : TextEnd) (n : Nest) (text : List Spot) → WordsHere end n text
words_here end n text = words_by (suc (length text)) end n text (omega arith)
