-- A text has at most one list of tokens, and none where it is at fault.
use Rattle.std.proofs.Common.{◌≡◌, ℕ, ◌≤◌, ◌<◌, List, [], ◌∷◌, ◌++◌, Bool, true, false, refl, sym, ◌∙◌, ap, subst, arith, inl, inr, length, Result, Ok, Err}
use Rattle.std.specs.Prelude.{◌==◌, ◌||◌, encode_utf8_all}
use Rattle.std.proofs.lemmas.Bool.{both_ways, or_cases, or_left, eq-eqb, eqb-true}
use Rattle.pt_base.specs.declared.numbers.Line.{Line}
use Rattle.pt_literals.specs.declared.source.Spot.{Spot}
use Rattle.pt_literals.specs.declared.source.TextEnd.{TextEnd}
use Rattle.pt_lexer.specs.declared.token.Column.{Column}
use Rattle.pt_literals.specs.declared.token.LexErr.{LexErr}
use Rattle.pt_lexer.specs.declared.token.Opening.{Opening}
use Rattle.pt_literals.specs.declared.modes.Mode.{Mode}
use Rattle.pt_literals.specs.declared.modes.Mode.TheVariants as mode
use Rattle.pt_literals.specs.declared.token.Lexeme.{Lexeme}
use Rattle.pt_literals.specs.declared.token.Lexeme.TheVariants.{Word}
use Rattle.pt_literals.specs.declared.token.Token.{Token}
use Rattle.pt_literals.specs.declared.token.TokenKind.{TokenKind}
use Rattle.pt_literals.specs.declared.token.TokenKind.TheVariants as kind
use Rattle.pt_literals.specs.Source.{chars_of}
use Rattle.pt_lexer.specs.Words.{Spells, kind_of_part, Longest, Next, plain, begun, string, NoWord}
use Rattle.pt_literals.specs.Source.{is_blank}
use Rattle.pt_lexer.specs.Lines.{line_of, token, LineEnd, feed, both, carriage, Stops, at_line_end, at_text_end, Comment, text_ends, line_ends, goes_on, Piece, blank, comment, backslash, inside, Nest, mode_of, outside, Gap, nothing, piece, NoPiece, turned, kind_of, Body, finish, word, agrees, Back, there, further, Turn, deeper, level, marks, Lines, done, empty, full}
use Rattle.pt_lexer.specs.Faults.{LiteralFails, at_once, in_string, Fails, broken, unclosed, strange, spoilt, wrong, later, Misplaced, off, mixed, too_deep, Faulty, in_words, in_column, below_empty, below_full}
use Rattle.pt_lexer.proofs.Fronts.{parts_words, BeginsApart, next_apart, fault_apart, word_once}
use Rattle.pt_lexer.proofs.LiteralLemmas.{Behind, no_or_faulty, no_or_known, no_or_holds, known_or_faulty, known_or_holds, faulty_or_holds, same_known, same_holds, inside_at, inside_fails_at, inside_once, inside_or_fault, literal_fails_at}
use Rattle.pt_lexer.proofs.NextLemmas.{next_behind}

-- two characters that a test tells apart
told_apart : (p : ℕ → Bool) (c d : ℕ) → p c ≡ true → p d ≡ false → c ≡ d → ⊥
told_apart p c d h k e = both_ways (p d) k (subst (λ x. p x ≡ true) e h)

two_numbers : {c m n : ℕ} → c ≡ m → c ≡ n → (m == n) ≡ false → ⊥
two_numbers {c} {m} {n} h k ne = both_ways (m == n) ne (eq-eqb m n (sym h ∙ k))

pub line_end_once : {ss a b : List Spot} → LineEnd ss a → LineEnd ss b → a ≡ b
line_end_once (feed h) (feed k) = refl
line_end_once (feed h) (both k l) = absurd (two_numbers h k refl)
line_end_once (feed h) (carriage k l) = absurd (two_numbers h k refl)
line_end_once (both h l) (feed k) = absurd (two_numbers k h refl)
line_end_once (both h l) (both k m) = refl
line_end_once (both h l) (carriage k m) = absurd (m l)
line_end_once (carriage h l) (feed k) = absurd (two_numbers k h refl)
line_end_once (carriage h l) (both k m) = absurd (l m)
line_end_once (carriage h l) (carriage k m) = refl

pub stops_once : {end : TextEnd} {ss a b : List Spot} → Stops end ss a → Stops end ss b → a ≡ b
stops_once (at_line_end h) (at_line_end k) = line_end_once h k
stops_once (at_text_end h) (at_text_end k) = refl
stops_once (at_line_end h) (at_text_end k) = elim h [ ]
stops_once (at_text_end h) (at_line_end k) = elim k [ ]

comment_once : {ss a b : List Spot} → Comment ss a → Comment ss b → a ≡ b
comment_once text_ends text_ends = refl
comment_once (line_ends h) (line_ends k) = refl
comment_once (line_ends h) (goes_on k c) = absurd (both_ways _ k h)
comment_once (goes_on h c) (line_ends k) = absurd (both_ways _ h k)
comment_once (goes_on h c) (goes_on k d) = comment_once c d

-- a line's end is a line feed or a carriage return
abbrev EndsAt : List Spot → Type 0
EndsAt [] = ⊥
EndsAt (s ∷ ss) = (s.char == 10 || s.char == 13) ≡ true

ends_at : {ss rest : List Spot} → LineEnd ss rest → EndsAt ss
ends_at (feed {s = s} h) = subst (λ c. (c == 10 || c == 13) ≡ true) (sym h) refl
ends_at (both {s = s} h k) = subst (λ c. (c == 10 || c == 13) ≡ true) (sym h) refl
ends_at (carriage {s = s} h k) = subst (λ c. (c == 10 || c == 13) ≡ true) (sym h) refl

blank_ends : (c : ℕ) → is_blank c ≡ true → (c == 10 || c == 13) ≡ true → ⊥
blank_ends c h k = elim (or_cases (c == 10) (c == 13) k) [
  | inl e ↦ told_apart is_blank c 10 h refl (eqb-true c 10 e)
  | inr e ↦ told_apart is_blank c 13 h refl (eqb-true c 13 e)
]

piece_once : {end : TextEnd} {opened : List Opening} {ss a b : List Spot} → Piece end opened ss a → Piece end opened ss b → a ≡ b
piece_once (blank h) (blank k) = refl
piece_once (blank h) (comment k c) = absurd (told_apart is_blank _ 35 h refl k)
piece_once (blank h) (backslash k c) = absurd (told_apart is_blank _ 92 h refl k)
piece_once (blank {s = s} h) (inside e) = absurd (blank_ends s.char h (ends_at e))
piece_once (comment h c) (blank k) = absurd (told_apart is_blank _ 35 k refl h)
piece_once (comment h c) (comment k d) = comment_once c d
piece_once (comment h c) (backslash k d) = absurd (two_numbers h k refl)
piece_once (comment h c) (inside e) = absurd (told_apart (λ c. c == 10 || c == 13) _ 35 (ends_at e) refl h)
piece_once (backslash h c) (blank k) = absurd (told_apart is_blank _ 92 k refl h)
piece_once (backslash h c) (comment k d) = absurd (two_numbers k h refl)
piece_once (backslash h c) (backslash k d) = stops_once c d
piece_once (backslash h c) (inside e) = absurd (told_apart (λ c. c == 10 || c == 13) _ 92 (ends_at e) refl h)
piece_once (inside e) (blank {s = s} k) = absurd (blank_ends s.char k (ends_at e))
piece_once (inside e) (comment k d) = absurd (told_apart (λ c. c == 10 || c == 13) _ 35 (ends_at e) refl k)
piece_once (inside e) (backslash k d) = absurd (told_apart (λ c. c == 10 || c == 13) _ 92 (ends_at e) refl k)
piece_once (inside e) (inside f) = line_end_once e f

parts_at : (ss : List Spot) → EndsAt ss → BeginsApart (chars_of ss) → ⊥
parts_at [] e b = b
parts_at (s ∷ ss) e b = elim (or_cases (s.char == 10) (s.char == 13) e) [
  | inl k ↦ told_apart parts_words 10 s.char refl b (sym (eqb-true s.char 10 k))
  | inr k ↦ told_apart parts_words 13 s.char refl b (sym (eqb-true s.char 13 k))
]

-- no word begins with a piece of a gap, nor at the end of a line
piece_apart : {end : TextEnd} {opened : List Opening} {ss rest : List Spot} → Piece end opened ss rest → BeginsApart (chars_of ss) → ⊥
piece_apart (blank {s = s} h) b = both_ways (parts_words s.char) b (or_left (is_blank s.char) _ h)
piece_apart (comment {s = s} h c) b = told_apart parts_words 35 s.char refl b (sym h)
piece_apart (backslash {s = s} h c) b = told_apart parts_words 92 s.char refl b (sym h)
piece_apart (inside e) b = parts_at _ (ends_at e) b

stops_apart : {end : TextEnd} {ss rest : List Spot} → Stops end ss rest → BeginsApart (chars_of ss) → ⊥
stops_apart (at_line_end e) b = parts_at _ (ends_at e) b
stops_apart (at_text_end w) b = b

pub next_no_piece : {end : TextEnd} {n : Nest} {ss after : List Spot} {w : Lexeme} → Next (mode_of n) ss w after → NoPiece end n ss
next_no_piece k = record { none = λ rest w p. piece_apart p (next_apart w k) }

pub fault_no_piece : {end : TextEnd} {n : Nest} {ss : List Spot} {e : LexErr} {at : ℕ} → LiteralFails end n ss e at → NoPiece end n ss
fault_no_piece f = record { none = λ rest w p. piece_apart p (fault_apart w f) }

stops_no_piece_at : {end : TextEnd} {ss after rest : List Spot} → Stops end ss after → Piece end [] ss rest → ⊥
stops_no_piece_at (at_line_end e) (blank {s = s} h) = blank_ends s.char h (ends_at e)
stops_no_piece_at (at_line_end e) (comment h c) = told_apart (λ c. c == 10 || c == 13) _ 35 (ends_at e) refl h
stops_no_piece_at (at_line_end e) (backslash h c) = told_apart (λ c. c == 10 || c == 13) _ 92 (ends_at e) refl h
stops_no_piece_at (at_text_end w) p = elim p [ ]

pub stops_no_piece : {end : TextEnd} {ss after : List Spot} → Stops end ss after → NoPiece end outside ss
stops_no_piece e = record { none = λ rest w p. stops_no_piece_at e p }

pub gap_once : {end : TextEnd} {n : Nest} {ss a b : List Spot} → Gap end n ss a → Gap end n ss b → NoPiece end n a → NoPiece end n b → a ≡ b
gap_once nothing nothing h k = refl
gap_once nothing (piece w p g) h k = absurd (h.none _ w p)
gap_once (piece w p g) nothing h k = absurd (k.none _ w p)
gap_once {end = end} {n = n} {b = b} (piece w p g) (piece v q f) h k = gap_once g (subst (λ x. Gap end n x b) (piece_once q p) f) h k

fronts_once : (a b c d : List Spot) → a ++ b ≡ c ++ d → length a ≡ length c → (a ≡ c) × (b ≡ d)
fronts_once [] b [] d h k = (refl, h)
fronts_once [] b (y ∷ c) d h k = absurd (omega arith)
fronts_once (x ∷ a) b [] d h k = absurd (omega arith)
fronts_once (x ∷ a) b (y ∷ c) d h k =
    let r = fronts_once a b c d (tail_eq h) (omega arith) in
    (heads h r.0, r.1)
  where
    tail_eq : (x ∷ a) ++ b ≡ (y ∷ c) ++ d → a ++ b ≡ c ++ d
    tail_eq h = cc

    heads : (x ∷ a) ++ b ≡ (y ∷ c) ++ d → a ≡ c → x ∷ a ≡ y ∷ c
    heads h e = cc

longest_once : {ss a b : List Spot} {v w : TokenKind} → Longest ss v a → Longest ss w b → (v ≡ w) × (a ≡ b)
longest_once {ss} {a} {b} {v} {w} n m =
    let l = n.longest w m.front b m.whole m.spelled in
    let k = m.longest v n.front a n.whole n.spelled in
    let e = fronts_once n.front a m.front b (sym n.whole ∙ m.whole) (omega arith) in
    (word_once v w (chars_of m.front) (subst (λ x. Spells v (chars_of x)) e.0 n.spelled) m.spelled, e.1)

pub next_once : {m : Mode} {ss a b : List Spot} {v w : Lexeme} → Next m ss v a → Next m ss w b → (v ≡ w) × (a ≡ b)
next_once (plain l n) (plain k m) = let t = longest_once n m in (ap Word t.0, t.1)
next_once (plain l n) (begun e) = absurd (no_or_known l e)
next_once (plain l n) (string e i x) = absurd (no_or_holds l e)
next_once (begun e) (plain l n) = absurd (no_or_known l e)
next_once (begun e) (begun f) = same_known e f
next_once (begun e) (string f i x) = absurd (known_or_holds e f)
next_once (string e i x) (plain l n) = absurd (no_or_holds l e)
next_once (string e i x) (begun f) = absurd (known_or_holds f e)
next_once (string {p = p} e i x) (string {x = y'} f j y) =
    let t = same_holds e f in
    let r = inside_once i (inside_at (sym t.0) (sym t.1) j) in
    (ap (λ z. Word (kind_of_part p z)) (x ∙ (ap encode_utf8_all r.0 ∙ sym y)) ∙ ap (λ z. Word (kind_of_part z y')) t.0, r.1)

-- a place has no word where it has none, or where it is at fault
pub no_word_next : {m : Mode} {ss a : List Spot} {w : Lexeme} → NoWord m ss → Next m ss w a → ⊥
no_word_next n (plain l k) = n.none _ k.front _ k.whole k.spelled
no_word_next n (begun e) = no_or_known n.lacks e
no_word_next n (string e i x) = no_or_holds n.lacks e

pub next_or_fault : {end : TextEnd} {n : Nest} {ss a : List Spot} {w : Lexeme} {e : LexErr} {at : ℕ} → Next (mode_of n) ss w a → LiteralFails end n ss e at → ⊥
next_or_fault (plain l k) (at_once h) = no_or_faulty l h
next_or_fault (plain l k) (in_string h f) = no_or_holds l h
next_or_fault (begun e) (at_once h) = known_or_faulty e h
next_or_fault (begun e) (in_string h f) = known_or_holds e h
next_or_fault (string e i x) (at_once h) = faulty_or_holds h e
next_or_fault (string e i x) (in_string h f) =
    let t = same_holds e h in
    inside_or_fault i (inside_fails_at refl (sym t.0) (sym t.1) f)

pub no_word_fault : {end : TextEnd} {n : Nest} {ss : List Spot} {e : LexErr} {at : ℕ} → NoWord (mode_of n) ss → LiteralFails end n ss e at → ⊥
no_word_fault n (at_once h) = no_or_faulty n.lacks h
no_word_fault n (in_string h f) = no_or_holds n.lacks h

pub next_at : {m : Mode} {ss us a : List Spot} {w : Lexeme} → ss ≡ us → Next m ss w a → Next m us w a
next_at {m} {ss} {us} {a} {w} h n = subst (λ x. Next m x w a) h n

pub stops_at : {end : TextEnd} {ss us a : List Spot} → ss ≡ us → Stops end ss a → Stops end us a
stops_at {end} {ss} {us} {a} h n = subst (λ x. Stops end x a) h n

body_at : {end : TextEnd} {n k : Nest} {ss us stop rest : List Spot} {ws : List Token} → n ≡ k → ss ≡ us → Body end n ss ws stop rest → Body end k us ws stop rest
body_at {end} {n} {k} {ss} {us} {stop} {rest} {ws} h e b = subst (λ x. Body end x us ws stop rest) h (subst (λ y. Body end n y ws stop rest) e b)

pub turned_once : (n : Nest) {v w : Lexeme} {l m : Line} {r q : Result Nest LexErr} → v ≡ w → l ≡ m → turned n v l ≡ r → turned n w m ≡ q → q ≡ r
turned_once n {v} {w} {l} {m} e f h k = sym k ∙ (sym (ap (λ x. turned n x m) e) ∙ (sym (ap (turned n v) f) ∙ h))

ok_once : {r : Result Nest LexErr} {a b : Nest} → r ≡ Ok a → r ≡ Ok b → a ≡ b
ok_once e f = cc

pub same_open : (n : Nest) {v w : Lexeme} {l m : Line} {a b : Nest} → v ≡ w → l ≡ m → turned n v l ≡ Ok a → turned n w m ≡ Ok b → a ≡ b
same_open n e f h k = ok_once (turned_once n e f h k) refl

-- how the same line goes on
pub record Same (end : TextEnd) (mid mid' after after' : List Spot) (w w' : Lexeme) : Type 0 where
  pub place : mid ≡ mid'
  pub words : w ≡ w'
  pub behind : after ≡ after'

pub same_next : {end : TextEnd} {n : Nest} {ss mid mid' after after' : List Spot} {w w' : Lexeme} → Gap end n ss mid → Gap end n ss mid' → Next (mode_of n) mid w after → Next (mode_of n) mid' w' after'
    → Same end mid mid' after after' w w'
same_next g h n m =
    let e = gap_once g h (next_no_piece n) (next_no_piece m) in
    let k = next_once n (next_at (sym e) m) in
    record { place = e; words = k.0; behind = k.1 }

pub stops_no_next : {end : TextEnd} {ss mid mid' rest after : List Spot} {w : Lexeme} → Gap end outside ss mid → Gap end outside ss mid' → Stops end mid rest → Next mode.Words mid' w after → ⊥
stops_no_next g h e n = stops_apart e (next_apart refl (next_at (gap_once h g (next_no_piece n) (stops_no_piece e)) n))

token_once : (end : TextEnd) {mid mid' : List Spot} {w w' : Lexeme} → mid ≡ mid' → w ≡ w' → token end mid (kind_of w) ≡ token end mid' (kind_of w')
token_once end {mid} {mid'} {w} {w'} h k = ap (λ x. token end x (kind_of w)) h ∙ ap (λ x. token end mid' (kind_of x)) k

cons_once : {v w : Token} {vs ws : List Token} → v ≡ w → vs ≡ ws → v ∷ vs ≡ w ∷ ws
cons_once h k = cc

pub body_once : {end : TextEnd} {n : Nest} {ss stop stop' rest rest' : List Spot} {vs ws : List Token} → Body end n ss vs stop rest → Body end n ss ws stop' rest'
    → (vs ≡ ws) × (stop ≡ stop') × (rest ≡ rest')
body_once (finish g e) (finish h f) =
    let k = gap_once g h (stops_no_piece e) (stops_no_piece f) in
    (refl, k, stops_once e (stops_at (sym k) f))
body_once (finish g e) (word h n t b) = absurd (stops_no_next g h e n)
body_once (word g n t b) (finish h f) = absurd (stops_no_next h g f n)
body_once {end = end} {n = n} (word g k t b) (word h m u c) =
    let l = same_next g h k m in
    let r = body_once b (body_at (sym (same_open n l.words (ap (line_of end) l.place) t u)) (sym l.behind) c) in
    (cons_once (token_once end l.place l.words) r.0, r.1, r.2)

back_once : {cols a b : List Column} {k : Column} {ks ls : List TokenKind} → Back cols k a ks → Back cols k b ls → (a ≡ b) × (ks ≡ ls)
back_once (there h) (there k) = (refl, refl)
back_once (there h) (further k b) = absurd (omega arith)
back_once (further h b) (there k) = absurd (omega arith)
back_once (further h b) (further k c) = let r = back_once b c in (r.0, ap (λ x. kind.Dedent ∷ x) r.1)

deeper_no_back : {top k : Column} {cols after : List Column} {ks : List TokenKind} → top.wide < k.wide → Back (top ∷ cols) k after ks → ⊥
deeper_no_back h (there k) = omega arith
deeper_no_back h (further k b) = omega arith

pub turn_once : {cols a b : List Column} {k : Column} {ks ls : List TokenKind} → Turn cols k a ks → Turn cols k b ls → (a ≡ b) × (ks ≡ ls)
turn_once (deeper h) (deeper k) = (refl, refl)
turn_once (deeper h) (level b) = absurd (deeper_no_back h b)
turn_once (level b) (deeper h) = absurd (deeper_no_back h b)
turn_once (level b) (level c) = back_once b c

pub lines_at : {end : TextEnd} {cols cols' : List Column} {ss us : List Spot} {all : List Token} → cols ≡ cols' → ss ≡ us → Lines end cols ss all → Lines end cols' us all
lines_at {end} {cols} {cols'} {ss} {us} {all} h k l = subst (λ x. Lines end x us all) h (subst (λ y. Lines end cols y all) k l)

pub empty_or_full : {w : Token} {ws : List Token} → [] ≡ w ∷ ws → ⊥
empty_or_full e = cc

cons_words : {v w : Token} {vs ws : List Token} → v ∷ vs ≡ w ∷ ws → (v ≡ w) × (vs ≡ ws)
cons_words e = (cc, cc)

all_once : (end : TextEnd) {v w : Token} {vs ws us xs : List Token} {ks ls : List TokenKind} {stop stop' : List Spot} → v ≡ w → vs ≡ ws → ks ≡ ls → stop ≡ stop' → us ≡ xs
    → marks v.at v.line ks ++ ((v ∷ vs) ++ (token end stop kind.Newline ∷ us)) ≡ marks w.at w.line ls ++ ((w ∷ ws) ++ (token end stop' kind.Newline ∷ xs))
all_once end {v} {w} {vs} {ws} {us} {xs} {ks} {ls} {stop} {stop'} e f g h k =
    ap (λ a. marks a.at a.line ks ++ ((a ∷ vs) ++ (token end stop kind.Newline ∷ us))) e
    ∙ (ap (λ a. marks w.at w.line ks ++ ((w ∷ a) ++ (token end stop kind.Newline ∷ us))) f
    ∙ (ap (λ a. marks w.at w.line a ++ ((w ∷ ws) ++ (token end stop kind.Newline ∷ us))) g
    ∙ (ap (λ a. marks w.at w.line ls ++ ((w ∷ ws) ++ (token end a kind.Newline ∷ us))) h
    ∙ ap (λ a. marks w.at w.line ls ++ ((w ∷ ws) ++ (token end stop' kind.Newline ∷ a))) k)))

-- A text has at most one list of tokens.
pub lines_once : {end : TextEnd} {cols : List Column} {ss : List Spot} {all every : List Token} → Lines end cols ss all → Lines end cols ss every → all ≡ every
lines_once (done w e) (done v f) = e ∙ sym f
lines_once (empty b l) (empty c m) = let r = body_once b c in lines_once l (lines_at refl (sym r.2) m)
lines_once (empty b l) (full c t a d m e) = absurd (empty_or_full (body_once b c).0)
lines_once (full b t a d l e) (empty c m) = absurd (empty_or_full (sym (body_once b c).0))
lines_once {end = end} (full b t a d l e) (full c u z y m f) =
    let r = body_once b c in
    let k = turn_once t u in
    let w = cons_words r.0 in
    let rest = lines_once l (lines_at (sym k.0) (sym r.2) m) in
    e ∙ (all_once end w.0 w.1 k.1 r.1 rest ∙ sym f)

pub err_or_ok : {r : Result Nest LexErr} {a : Nest} {e : LexErr} → r ≡ Ok a → r ≡ Err e → ⊥
err_or_ok h k = cc

pub err_here : (n : Nest) {v w : Lexeme} {l m : Line} {a : Nest} {e : LexErr} → v ≡ w → l ≡ m → turned n v l ≡ Ok a → turned n w m ≡ Err e → ⊥
err_here n e f h k = err_or_ok h (h ∙ sym (turned_once n e f h k))

pub fails_at : {end : TextEnd} {n k : Nest} {ss us : List Spot} {e : LexErr} {at : ℕ} → n ≡ k → ss ≡ us → Fails end n ss e at → Fails end k us e at
fails_at {end} {n} {k} {ss} {us} {e} {at} h l f = subst (λ x. Fails end x us e at) h (subst (λ y. Fails end n y e at) l f)

pub next_some : {m : Mode} {after : List Spot} {w : Lexeme} → Next m [] w after → ⊥
next_some n = nothing_behind (next_behind n)
  where
    nothing_behind : {rest : List Spot} → Behind [] rest → ⊥
    nothing_behind b = elim b [ ]

piece_at_end : {end : TextEnd} {opened : List Opening} {rest : List Spot} → Piece end opened [] rest → ⊥
piece_at_end (inside e) = ends_at e

pub no_piece_at_end : {end : TextEnd} {n : Nest} → NoPiece end n []
no_piece_at_end = record { none = λ rest w p. piece_at_end p }

-- The words of a line are not at fault where they have their tokens.
pub words_or_fault : {end : TextEnd} {n : Nest} {ss stop rest : List Spot} {ws : List Token} {e : LexErr} {at : ℕ} → Body end n ss ws stop rest → Fails end n ss e at → ⊥
words_or_fault (finish g e) (broken v h w) = both_ways _ w (whole_at (gap_once g h (stops_no_piece e) no_piece_at_end) e)
  where
    whole_at : {end : TextEnd} {stop rest : List Spot} → stop ≡ [] → Stops end stop rest → end.is_whole ≡ true
    whole_at h (at_line_end e) = absurd (subst EndsAt h (ends_at e))
    whole_at h (at_text_end w) = w
words_or_fault (finish g e) (unclosed v h w o) = o refl
words_or_fault (finish g e) (strange h p n s) = s _ (stops_at (gap_once g h (stops_no_piece e) p) e) refl
words_or_fault (finish g e) (spoilt h f) = stops_apart e (fault_apart refl (literal_fails_at (gap_once h g (fault_no_piece f) (stops_no_piece e)) f))
words_or_fault (finish g e) (wrong h n t) = stops_no_next g h e n
words_or_fault (finish g e) (later h n t f) = stops_no_next g h e n
words_or_fault (word g k t b) (broken v h w) = next_some (next_at (gap_once g h (next_no_piece k) no_piece_at_end) k)
words_or_fault (word g k t b) (unclosed v h w o) = next_some (next_at (gap_once g h (next_no_piece k) no_piece_at_end) k)
words_or_fault (word g k t b) (strange h p m s) = no_word_next m (next_at (gap_once g h (next_no_piece k) p) k)
words_or_fault (word g k t b) (spoilt h f) = next_or_fault (next_at (gap_once g h (next_no_piece k) (fault_no_piece f)) k) f
words_or_fault {end = end} {n = n} (word g k t b) (wrong h m u) =
    let l = same_next g h k m in
    err_here n l.words (ap (line_of end) l.place) t u
words_or_fault {end = end} {n = n} (word g k t b) (later h m u f) =
    let l = same_next g h k m in
    words_or_fault b (fails_at (sym (same_open n l.words (ap (line_of end) l.place) t u)) (sym l.behind) f)

-- an empty line stops where its gap ends
pub empty_stops : {end : TextEnd} {ss stop rest mid : List Spot} → Body end outside ss [] stop rest → Gap end outside ss mid → NoPiece end outside mid → ((r : List Spot) → Stops end mid r → ⊥) → ⊥
empty_stops (finish g e) h p n = n _ (stops_at (gap_once g h (stops_no_piece e) p) e)

pub faulty_at : {end : TextEnd} {cols cols' : List Column} {ss us : List Spot} {e : LexErr} {at : ℕ} → cols ≡ cols' → ss ≡ us → Faulty end cols ss e at → Faulty end cols' us e at
faulty_at {end} {cols} {cols'} {ss} {us} {e} {at} h k f = subst (λ x. Faulty end x us e at) h (subst (λ y. Faulty end cols y e at) k f)

pub well_placed : {cols after : List Column} {k : Column} {line : Line} {ks : List TokenKind} {e : LexErr} → Turn cols k after ks → agrees k cols ≡ true → length after ≤ 101 → Misplaced cols k line e → ⊥
well_placed t a d (off n) = n _ _ t
well_placed t a d (mixed m) = both_ways _ m a
well_placed t a d (too_deep u m) = let e = ap length (turn_once t u).0 in omega arith

from_end : {end : TextEnd} {text mid : List Spot} → Gap end outside text mid → text ≡ [] → mid ≡ []
from_end nothing h = h
from_end {end = end} (piece {mid = mid} w p g) h = absurd (piece_at_end (subst (λ x. Piece end [] x mid) h p))

no_spot : {s : Spot} {ss : List Spot} → s ∷ ss ≡ [] → ⊥
no_spot e = cc

end_no_fault : {end : TextEnd} {e : LexErr} {at : ℕ} → end.is_whole ≡ true → Fails end outside [] e at → ⊥
end_no_fault w (broken v g u) = both_ways _ u w
end_no_fault w (unclosed v g u o) = o refl
end_no_fault w (strange g p n s) = no_spot (from_end g refl)
end_no_fault w (spoilt g f) = fault_apart refl (literal_fails_at (from_end g refl) f)
end_no_fault w (wrong g n t) = next_some (next_at (from_end g refl) n)
end_no_fault w (later g n t f) = next_some (next_at (from_end g refl) n)

-- A text that has tokens is nowhere at fault.
pub lines_or_fault : {end : TextEnd} {cols : List Column} {ss : List Spot} {all : List Token} {e : LexErr} {at : ℕ} → Lines end cols ss all → Faulty end cols ss e at → ⊥
lines_or_fault (done w h) (in_words f) = end_no_fault w f
lines_or_fault (done w h) (in_column g p s m) = no_spot (from_end g refl)
lines_or_fault (empty b l) (in_words f) = words_or_fault b f
lines_or_fault (empty b l) (in_column g p s m) = empty_stops b g p s
lines_or_fault (empty b l) (below_empty c f) = lines_or_fault l (faulty_at refl (sym (body_once b c).2) f)
lines_or_fault (empty b l) (below_full c t a d f) = empty_or_full (body_once b c).0
lines_or_fault (full b t a d l h) (in_words f) = words_or_fault b f
lines_or_fault (full b t a d l h) (in_column g p s m) = well_placed t a d m
lines_or_fault (full b t a d l h) (below_empty c f) = empty_or_full (sym (body_once b c).0)
lines_or_fault (full b t a d l h) (below_full c u y m f) =
    lines_or_fault l (faulty_at (sym (turn_once t u).0) (sym (body_once b c).2) f)
