-- Which fault of a text is found first.
use Rattle.std.proofs.Common.{◌≡◌, ℕ, ◌≤◌, ◌<◌, List, [], ◌∷◌, ◌++◌, Bool, true, false, Option, Some, None, Result, Ok, Err, refl, sym, ◌∙◌, ap, subst, arith, inl, inr, ◌⊎◌, length, append_assoc, append-nil}
use Rattle.std.specs.Prelude.{codes, nat_lt, if◌then◌else◌}
use Rattle.std.proofs.lemmas.Bool.{both_ways, cases_eq, cases_Bool}
use Rattle.pt_base.specs.declared.numbers.Line.{Line}
use Rattle.pt_literals.specs.declared.source.Spot.{Spot}
use Rattle.pt_literals.specs.declared.source.TextEnd.{TextEnd}
use Rattle.pt_lexer.specs.declared.token.Bracket.{Bracket}
use Rattle.pt_literals.specs.declared.modes.Mode.{Mode}
use Rattle.pt_literals.specs.declared.modes.Mode.TheVariants as mode
use Rattle.pt_literals.specs.declared.modes.Part.{Part}
use Rattle.pt_literals.specs.declared.modes.Part.TheVariants as part
use Rattle.pt_lexer.specs.declared.token.Bracket.TheVariants.{Curly}
use Rattle.pt_literals.specs.declared.token.Lexeme.{Lexeme}
use Rattle.pt_literals.specs.declared.token.Lexeme.TheVariants.{Word, Start}
use Rattle.pt_lexer.specs.declared.token.Column.{Column}
use Rattle.pt_literals.specs.declared.token.LexErr.{LexErr}
use Rattle.pt_literals.specs.declared.token.LexErr.TheVariants as fault
use Rattle.pt_lexer.specs.declared.token.Opening.{Opening}
use Rattle.pt_literals.specs.declared.token.Token.{Token}
use Rattle.pt_literals.specs.declared.token.TokenKind.{TokenKind}
use Rattle.pt_literals.specs.declared.token.TokenKind.TheVariants as kind
use Rattle.pt_literals.specs.Literals.{literal, no_literal, faulty, known, holds}
use Rattle.pt_lexer.specs.Words.{kind_of_part, NoneSpelt, Longest, Next, plain, begun, string, NoWord}
use Rattle.pt_lexer.specs.Lines.{at_of, line_of, LineEnd, feed, both, carriage, Stops, at_line_end, at_text_end, Comment, text_ends, line_ends, goes_on, Piece, blank, comment, backslash, inside, Nest, nest, mode_of, opened_of, has_words, outside, Gap, nothing, piece, NoPiece, opens, closes, is_excluded, same_bracket, shut, opened_by, turned_by, turned_in_words, is_sign, ends_string, turned, token, marks, Body, finish, word, column_of, agrees, Turn}
use Rattle.pt_base.specs.declared.failure.Failure.{Failure}
use Rattle.pt_base.specs.Failures.{IfRefused}
use Rattle.pt_base.proofs.FailureLemmas.{if_refused_map}
use Rattle.pt_lexer.specs.Faults.{outermost, string_line, left_open_by, LiteralFails, at_once, Fails, broken, unclosed, strange, spoilt, wrong, later, Misplaced, off, mixed, too_deep, Faulty, in_words, in_column, below_empty, below_full, number_of, Precedes, Refused, IsMisplaced}
use Rattle.pt_lexer.specs.Progress.{Rises, DepthOrWord, Begins, IsBeforeLimit, FirstFault, FailsWith, WordsRead, empty_line, full_line, ReadsLine}
use Rattle.pt_lexer.specs.Columns.{AreRising, Indented}
use Rattle.pt_lexer.proofs.ReadLemmas.{gap_fails, gap_both}
use Rattle.pt_lexer.proofs.NextLemmas.{next_behind}
use Rattle.pt_lexer.proofs.LiteralLemmas.{behind_rises, no_or_holds, known_or_holds, literal_fails_once, literal_fails_at, literal_fails_behind, string_fails_behind, faulty_late, literal_late}
use Rattle.pt_lexer.proofs.Fronts.{fault_apart}
use Rattle.pt_lexer.proofs.Once.{gap_once, next_no_piece, next_some, no_piece_at_end, same_next, turned_once, next_at, empty_stops, well_placed, turn_once, err_here, err_or_ok, same_open, fails_at, words_or_fault, no_word_next, no_word_fault, next_or_fault, fault_no_piece}

-- places rise
line_end_rises : (end : TextEnd) {ss rest : List Spot} → LineEnd ss rest → Rises end ss → (at_of end ss ≤ at_of end rest) × Rises end rest
line_end_rises end (feed h) r = (omega (arith, r.0), r.1)
line_end_rises end (both h k) r = (omega (arith, r.0, r.1.0), r.1.1)
line_end_rises end (carriage h k) r = (omega (arith, r.0), r.1)

pub stops_rises : {end : TextEnd} {ss rest : List Spot} → Stops end ss rest → Rises end ss → (at_of end ss ≤ at_of end rest) × Rises end rest
stops_rises {end = end} (at_line_end l) r = line_end_rises end l r
stops_rises (at_text_end w) r = (omega arith, r)

comment_rises : (end : TextEnd) {ss rest : List Spot} → Comment ss rest → Rises end ss → (at_of end ss ≤ at_of end rest) × Rises end rest
comment_rises end text_ends r = (omega arith, r)
comment_rises end (line_ends h) r = (omega arith, r)
comment_rises end (goes_on h c) r = let k = comment_rises end c r.1 in (omega (arith, r.0, k.0), k.1)

piece_rises : {end : TextEnd} {opened : List Opening} {ss rest : List Spot} → Piece end opened ss rest → Rises end ss → (at_of end ss ≤ at_of end rest) × Rises end rest
piece_rises (blank h) r = (omega (arith, r.0), r.1)
piece_rises {end = end} (comment h c) r = let k = comment_rises end c r.1 in (omega (arith, r.0, k.0), k.1)
piece_rises (backslash h s) r = let k = stops_rises s r.1 in (omega (arith, r.0, k.0), k.1)
piece_rises {end = end} (inside l) r = line_end_rises end l r

pub gap_rises : {end : TextEnd} {n : Nest} {ss rest : List Spot} → Gap end n ss rest → Rises end ss → (at_of end ss ≤ at_of end rest) × Rises end rest
gap_rises nothing r = (omega arith, r)
gap_rises (piece w p g) r = let h = piece_rises p r in let k = gap_rises g h.1 in (omega (arith, h.0, k.0), k.1)

pub next_rises : (end : TextEnd) {m : Mode} {ss after : List Spot} {w : Lexeme} → Next m ss w after → Rises end ss → (at_of end ss < at_of end after) × Rises end after
next_rises end n r = behind_rises end (next_behind n) r

pub fails_behind : {end : TextEnd} {n : Nest} {ss : List Spot} {e : LexErr} {at : ℕ} → Fails end n ss e at → Rises end ss → at_of end ss ≤ at
fails_behind (broken v g w) r = (gap_rises g r).0
fails_behind (unclosed v g w o) r = (gap_rises g r).0
fails_behind (strange g p k s) r = (gap_rises g r).0
fails_behind (spoilt g f) r =
    let h = gap_rises g r in
    let k = literal_fails_behind f h.1 in
    omega (arith, h.0)
fails_behind (wrong g k t) r = (gap_rises g r).0
fails_behind {end = end} (later g k t f) r =
    let h = gap_rises g r in
    let l = next_rises end k h.1 in
    let q = fails_behind f l.1 in
    omega (arith, h.0, l.0)

rises_end : (end : TextEnd) (ss : List Spot) → Rises end ss → at_of end ss ≤ end.at
rises_end end [] r = omega arith
rises_end end (s ∷ ss) r = let h = rises_end end ss r.1 in omega (arith, r.0)

-- the fault of the words of a line is one
no_spots : {s : Spot} {ss : List Spot} → [] ≡ s ∷ ss → ⊥
no_spots e = cc

same_spot : {s t : Spot} {ss us : List Spot} → s ∷ ss ≡ t ∷ us → s ≡ t
same_spot e = cc

same_err : {r : Result Nest LexErr} {e f : LexErr} → r ≡ Err e → r ≡ Err f → e ≡ f
same_err h k = cc

end_no_next : {end : TextEnd} {n : Nest} {ss mid after : List Spot} {w : Lexeme} → Gap end n ss [] → Gap end n ss mid → Next (mode_of n) mid w after → ⊥
end_no_next g h k = next_some (next_at (sym (gap_once g h no_piece_at_end (next_no_piece k))) k)

word_there : {end : TextEnd} {n : Nest} {ss mid mid' after : List Spot} {w : Lexeme} → Gap end n ss mid → NoPiece end n mid → NoWord (mode_of n) mid → Gap end n ss mid' → Next (mode_of n) mid' w after → ⊥
word_there g p k h m = no_word_next k (next_at (sym (gap_once g h p (next_no_piece m))) m)

end_no_fault : {end : TextEnd} {n : Nest} {ss mid : List Spot} {e : LexErr} {at : ℕ} → has_words (mode_of n) ≡ true → Gap end n ss [] → Gap end n ss mid → LiteralFails end n mid e at → ⊥
end_no_fault v g h f = fault_apart v (literal_fails_at (sym (gap_once g h no_piece_at_end (fault_no_piece f))) f)

fault_there : {end : TextEnd} {n : Nest} {ss mid mid' : List Spot} {e : LexErr} {at : ℕ} → Gap end n ss mid → NoPiece end n mid → NoWord (mode_of n) mid → Gap end n ss mid' → LiteralFails end n mid' e at → ⊥
fault_there g p k h f = no_word_fault k (literal_fails_at (sym (gap_once g h p (fault_no_piece f))) f)

word_or_fault : {end : TextEnd} {n : Nest} {ss mid mid' after : List Spot} {w : Lexeme} {e : LexErr} {at : ℕ} → Gap end n ss mid → Next (mode_of n) mid w after → Gap end n ss mid' → LiteralFails end n mid' e at → ⊥
word_or_fault g k h f = next_or_fault (next_at (gap_once g h (next_no_piece k) (fault_no_piece f)) k) f

strange_at : {s t : Spot} → s ≡ t → (fault.BadChar s.at ≡ fault.BadChar t.at) × (s.at ≡ t.at)
strange_at e = (ap (λ x. fault.BadChar x.at) e, ap (λ x. x.at) e)

pub fails_once : {end : TextEnd} {n : Nest} {ss : List Spot} {e f : LexErr} {at place : ℕ} → Fails end n ss e at → Fails end n ss f place → (e ≡ f) × (at ≡ place)
fails_once (broken v g w) (broken u h x) = (refl, refl)
fails_once (broken v g w) (unclosed u h x o) = absurd (both_ways _ w x)
fails_once (broken v g w) (strange h p n s) = absurd (no_spots (gap_once g h no_piece_at_end p))
fails_once (broken v g w) (spoilt h f) = absurd (end_no_fault v g h f)
fails_once (broken v g w) (wrong h n t) = absurd (end_no_next g h n)
fails_once (broken v g w) (later h n t f) = absurd (end_no_next g h n)
fails_once (unclosed v g w o) (broken u h x) = absurd (both_ways _ x w)
fails_once (unclosed v g w o) (unclosed u h x q) = (refl, refl)
fails_once (unclosed v g w o) (strange h p n s) = absurd (no_spots (gap_once g h no_piece_at_end p))
fails_once (unclosed v g w o) (spoilt h f) = absurd (end_no_fault v g h f)
fails_once (unclosed v g w o) (wrong h n t) = absurd (end_no_next g h n)
fails_once (unclosed v g w o) (later h n t f) = absurd (end_no_next g h n)
fails_once (strange g p n s) (broken u h x) = absurd (no_spots (gap_once h g no_piece_at_end p))
fails_once (strange g p n s) (unclosed u h x o) = absurd (no_spots (gap_once h g no_piece_at_end p))
fails_once (strange g p n s) (strange h q m t) = strange_at (same_spot (gap_once g h p q))
fails_once (strange g p n s) (spoilt h f) = absurd (fault_there g p n h f)
fails_once (strange g p n s) (wrong h m t) = absurd (word_there g p n h m)
fails_once (strange g p n s) (later h m t f) = absurd (word_there g p n h m)
fails_once (spoilt g f) (broken u h x) = absurd (end_no_fault u h g f)
fails_once (spoilt g f) (unclosed u h x o) = absurd (end_no_fault u h g f)
fails_once (spoilt g f) (strange h p n s) = absurd (fault_there h p n g f)
fails_once (spoilt g f) (spoilt h k) = literal_fails_once f (literal_fails_at (sym (gap_once g h (fault_no_piece f) (fault_no_piece k))) k)
fails_once (spoilt g f) (wrong h n t) = absurd (word_or_fault h n g f)
fails_once (spoilt g f) (later h n t k) = absurd (word_or_fault h n g f)
fails_once (wrong g n t) (broken u h x) = absurd (end_no_next h g n)
fails_once (wrong g n t) (unclosed u h x o) = absurd (end_no_next h g n)
fails_once (wrong g n t) (strange h p m s) = absurd (word_there h p m g n)
fails_once (wrong g n t) (spoilt h f) = absurd (word_or_fault g n h f)
fails_once {end = end} {n = n} (wrong g k t) (wrong h m u) =
    let l = same_next g h k m in
    (same_err (turned_once n l.words (ap (line_of end) l.place) t u) refl, ap (at_of end) l.place)
fails_once {end = end} {n = n} (wrong g k t) (later h m u f) =
    let l = same_next h g m k in
    absurd (err_here n l.words (ap (line_of end) l.place) u t)
fails_once (later g n t f) (broken u h x) = absurd (end_no_next h g n)
fails_once (later g n t f) (unclosed u h x o) = absurd (end_no_next h g n)
fails_once (later g n t f) (strange h p m s) = absurd (word_there h p m g n)
fails_once (later g n t f) (spoilt h k) = absurd (word_or_fault g n h k)
fails_once {end = end} {n = n} (later g k t f) (wrong h m u) =
    let l = same_next g h k m in
    absurd (err_here n l.words (ap (line_of end) l.place) t u)
fails_once {end = end} {n = n} (later g k t f) (later h m u q) =
    let l = same_next g h k m in
    fails_once f (fails_at (sym (same_open n l.words (ap (line_of end) l.place) t u)) (sym l.behind) q)

-- the numbers of faults of words
abbrev IsLate : LexErr → Type 0
IsLate e = 7 ≤ number_of e

-- an answer that is one fault or another
abbrev ErrBy : (LexErr → Type 0) → Result Nest LexErr → Type 0
ErrBy P (Ok n) = Unit {0}
ErrBy P (Err e) = P e

by_if : (P : Result Nest LexErr → Type 0) (b : Bool) {x y : Result Nest LexErr} → P x → P y → P (if b then x else y)
by_if P true p q = p
by_if P false p q = q

late_shut : (P : LexErr → Type 0) (opened : List Opening) (b : Bracket) (l : Line) → P (fault.OpenBracket l) → ErrBy P (shut opened b l)
late_shut P [] b l p = p
late_shut P (x ∷ opened) b l p = by_if (ErrBy P) (same_bracket x.bracket b) tt p

late_opened : (m : Mode) (opened : List Opening) (b : Bracket) (l : Line) → ErrBy IsLate (opened_by m opened b l)
late_opened m opened b l = by_if (ErrBy IsLate) (nat_lt (length opened) 100) tt (omega arith)

late_brackets : (m : Mode) (opened : List Opening) (o c : Option Bracket) (l : Line) → ErrBy IsLate (turned_by m opened o c l)
late_brackets m opened (Some b) c l = late_opened m opened b l
late_brackets m opened None (Some b) l = late_shut IsLate opened b l (omega arith)
late_brackets m opened None None l = tt

late_words : (m : Mode) (opened : List Opening) (w : Lexeme) (l : Line) → ErrBy IsLate (turned_in_words m opened w l)
late_words m opened (Word (kind.Sign x)) l = by_if (ErrBy IsLate) (is_excluded x) (omega arith) (late_brackets m opened (opens x) (closes x) l)
late_words m opened (Word _) l = tt
late_words m opened (Start d) l = tt

late_turn : (n : Nest) (w : Lexeme) (l : Line) → ErrBy IsLate (turned n w l)
late_turn (nest mode.Words opened) w l = late_words mode.Words opened w l
late_turn (nest (mode.Text d) opened) w l = by_if (ErrBy IsLate) (ends_string w) tt (by_if (ErrBy IsLate) (is_sign (codes "{") w) (late_opened (mode.Text d) opened Curly l) tt)
late_turn (nest (mode.Field f) opened) w l = by_if (ErrBy IsLate) (is_sign (codes ":") w) tt (late_words (mode.Field f) opened w l)
late_turn (nest (mode.Spec f) opened) w l =
    by_if (ErrBy IsLate) (ends_string w) tt
    (by_if (ErrBy IsLate) (is_sign (codes "{") w) (by_if (ErrBy IsLate) f.is_nested (omega arith) (late_opened (mode.Spec f) opened Curly l))
    (by_if (ErrBy IsLate) (is_sign (codes "}") w) (late_shut IsLate opened Curly l (omega arith)) tt))

turned_late : (n : Nest) (w : Lexeme) (l : Line) (e : LexErr) → turned n w l ≡ Err e → IsLate e
turned_late n w l e h = let k = subst (ErrBy IsLate) h (late_turn n w l) in k

abbrev IsNoLimit : LexErr → Type 0
IsNoLimit e = number_of e < 9

first_brackets : (o c : Option Bracket) (l : Line) → ErrBy IsNoLimit (turned_by mode.Words [] o c l)
first_brackets (Some b) c l = tt
first_brackets None (Some b) l = omega arith
first_brackets None None l = tt

first_by : (w : Lexeme) (l : Line) → ErrBy IsNoLimit (turned outside w l)
first_by (Word (kind.Sign x)) l = by_if (ErrBy IsNoLimit) (is_excluded x) (omega arith) (first_brackets (opens x) (closes x) l)
first_by (Word _) l = tt
first_by (Start d) l = tt

-- the first word of a line opens no bracket too many
pub first_no_limit : (w : Lexeme) (l : Line) (e : LexErr) → turned outside w l ≡ Err e → IsNoLimit e
first_no_limit w l e h = let k = subst (ErrBy IsNoLimit) h (first_by w l) in k

open_late : (l : Line) (o : Option Line) → 4 ≤ number_of (left_open_by l o)
open_late l None = omega arith
open_late l (Some k) = omega arith

words_number : {end : TextEnd} {n : Nest} {ss : List Spot} {e : LexErr} {at : ℕ} → Fails end n ss e at → (4 ≤ number_of e) ⊎ (at ≡ end.at)
words_number (broken v g w) = inr refl
words_number {end = end} {n = n} (unclosed v g w o) = inl (open_late (outermost end.line (opened_of n)) (string_line n))
words_number (strange g p k s) = inl (omega arith)
words_number (spoilt g f) = literal_late f
words_number {n = n} (wrong {w = w} {e = e} g k t) = let h = turned_late n w _ e t in inl (omega (arith, h))
words_number (later g k t f) = words_number f

-- the same from behind the first gap
pub fails_from : {end : TextEnd} {n : Nest} {ss first : List Spot} {e : LexErr} {at : ℕ} → Fails end n ss e at → Gap end n ss first → NoPiece end n first → Fails end n first e at
fails_from {end = end} {n = n} (broken v h w) g p = broken v (subst (λ x. Gap end n x []) (gap_once h g no_piece_at_end p) nothing) w
fails_from {end = end} {n = n} (unclosed v h w o) g p = unclosed v (subst (λ y. Gap end n y []) (gap_once h g no_piece_at_end p) nothing) w o
fails_from {end = end} {n = n} (strange {s = s} {ss = ss} h q k t) g p = strange (subst (λ x. Gap end n x (s ∷ ss)) (gap_once h g q p) nothing) q k t
fails_from {end = end} {n = n} (spoilt {mid = mid} h f) g p = spoilt (subst (λ x. Gap end n x mid) (gap_once h g (fault_no_piece f) p) nothing) f
fails_from {end = end} {n = n} (wrong {mid = mid} h k t) g p = wrong (subst (λ x. Gap end n x mid) (gap_once h g (next_no_piece k) p) nothing) k t
fails_from {end = end} {n = n} (later {mid = mid} h k t f) g p = later (subst (λ x. Gap end n x mid) (gap_once h g (next_no_piece k) p) nothing) k t f

begins_at : {end : TextEnd} {text first : List Spot} {s : Spot} {e : LexErr} {place : ℕ} → Begins end text first s → Fails end outside text e place → (s.at < place) ⊎ ((s.at ≡ place) × (s.at < end.at))
begins_at {end} {text} {first} {s} {e} {place} b f =
    let r = gap_rises b.gap b.rises in
    let low = fails_behind (fails_from f b.gap b.full) r.1 in
    let here : Rises end (s ∷ b.more) = subst (Rises end) b.is r.1 in
    let at : at_of end first ≡ s.at = ap (at_of end) b.is in
    let top = rises_end end b.more here.1 in
    elim (cases_eq s.at place) [ inl same ↦ inr (same, omega (arith, here.0)) | inr other ↦ inl (omega arith) ]

-- other columns that are at fault stand at the same place
column_at : {end : TextEnd} {text first ss : List Spot} {s t : Spot} → Begins end text first s → Gap end outside text (t ∷ ss) → NoPiece end outside (t ∷ ss) → t ≡ s
column_at b g p = same_spot (gap_once g b.gap p b.full ∙ b.is)

pub not_empty_line : {end : TextEnd} {text first stop rest : List Spot} {s : Spot} → Begins end text first s → Body end outside text [] stop rest → ⊥
not_empty_line b body = empty_stops body b.gap b.full b.stands

-- the cases of a fault
pub by_fault : {end : TextEnd} {cols : List Column} {text : List Spot} {f : LexErr} {place : ℕ} (P : Type 0) → Faulty end cols text f place → (Fails end outside text f place → P)
    → ((t : Spot) (ss : List Spot) → Gap end outside text (t ∷ ss) → NoPiece end outside (t ∷ ss) → ((rest : List Spot) → Stops end (t ∷ ss) rest → ⊥) → t.at ≡ place → Misplaced cols (column_of text) t.line f → P)
    → ((stop rest : List Spot) → Body end outside text [] stop rest → Faulty end cols rest f place → P)
    → ((w : Token) (ws : List Token) (stop rest : List Spot) (after : List Column) (ks : List TokenKind) → Body end outside text (w ∷ ws) stop rest → Turn cols (column_of text) after ks → agrees (column_of text) cols ≡ true
    → length after ≤ 101 → Faulty end after rest f place → P)
    → P
by_fault P (in_words f) a b c d = a f
by_fault P (in_column {s = t} {ss = ss} g p n m) a b c d = b t ss g p n refl m
by_fault P (below_empty {stop = stop} {rest = rest} body f) a b c d = c stop rest body f
by_fault P (below_full {after = after} {stop = stop} {rest = rest} {w = w} {ws = ws} {ks = ks} body t g l f) a b c d = d w ws stop rest after ks body t g l f

found_column : {end : TextEnd} {text first : List Spot} {s : Spot} {cols : List Column} {e : LexErr} → Begins end text first s → Misplaced cols (column_of text) s.line e → Faulty end cols text e s.at
found_column {end = end} {text = text} b m =
    in_column (subst (Gap end outside text) b.is b.gap) (subst (NoPiece end outside) b.is b.full) (subst (λ x. (rest : List Spot) → Stops end x rest → ⊥) b.is b.stands) m

-- A line is refused for its column.
pub column_refused : {end : TextEnd} {text first : List Spot} {s : Spot} (cols : List Column) (e : LexErr) → Begins end text first s → Misplaced cols (column_of text) s.line e → number_of e ≤ 3
    → ((f : LexErr) → Misplaced cols (column_of text) s.line f → (number_of e < number_of f) ⊎ (e ≡ f)) → Refused end cols text e
column_refused {end} {text} {first} {s} cols e b m small least = record {
  at = s.at;
  found = found_column b m;
  first = λ f place h. by_fault (Precedes e s.at f place) h
      (λ k. elim (begins_at b k) [
        | inl lt ↦ inl lt
        | inr same ↦ elim (words_number k) [ inl late ↦ inr (same.0, inl (omega arith)) | inr out ↦ absurd (omega (arith, same.0, same.1, out)) ]
      ])
      (λ t ss g p n q k. let is = column_at b g p in inr (sym (ap (λ x. x.at) is) ∙ q, least f (subst (λ x. Misplaced cols (column_of text) x.line f) is k)))
      (λ stop rest body k. absurd (not_empty_line b body))
      (λ w ws stop rest after ks body t a l k. absurd (well_placed t a l m));
}

-- A line is refused for its words: its column is in order, as far as it has one.
pub words_refused : {end : TextEnd} {text : List Spot} (cols : List Column) (e : LexErr) (at : ℕ) → Fails end outside text e at
    → ((f : LexErr) (t : Spot) (ss : List Spot) → Gap end outside text (t ∷ ss) → NoPiece end outside (t ∷ ss) → Misplaced cols (column_of text) t.line f → ⊥) → Refused end cols text e
words_refused {end} {text} cols e at fails placed = record {
  at = at;
  found = in_words fails;
  first = λ f place h. by_fault (Precedes e at f place) h
      (λ k. let q = fails_once fails k in inr (q.1, inr q.0))
      (λ t ss g p n q k. absurd (placed f t ss g p k))
      (λ stop rest body k. absurd (words_or_fault body fails))
      (λ w ws stop rest after ks body t a l k. absurd (words_or_fault body fails));
}

no_deeper : {cols after : List Column} {k : Column} {line : Line} {ks : List TokenKind} {f : LexErr} → Turn cols k after ks → agrees k cols ≡ true → Misplaced cols k line f → f ≡ fault.Limit line
no_deeper t a (off n) = absurd (n _ _ t)
no_deeper t a (mixed m) = absurd (both_ways _ m a)
no_deeper t a (too_deep u h) = refl

too_many : {cols after after' : List Column} {k : Column} {ks ls : List TokenKind} → Turn cols k after ks → 101 < length after → Turn cols k after' ls → length after' ≤ 101 → ⊥
too_many t h u l = let e = ap length (turn_once t u).0 in omega arith

-- A line is refused for one block too many, unless its first word is at fault.
pub depth_refused : {end : TextEnd} {text first : List Spot} {s : Spot} (cols after : List Column) (ks : List TokenKind) → Begins end text first s → Turn cols (column_of text) after ks → agrees (column_of text) cols ≡ true
    → 101 < length after → ((f : LexErr) (place : ℕ) → Fails end outside first f place → s.at < place) → Refused end cols text (fault.Limit s.line)
depth_refused {end} {text} {first} {s} cols after ks b t a h behind = record {
  at = s.at;
  found = found_column b (too_deep t h);
  first = λ f place q. by_fault (Precedes (fault.Limit s.line) s.at f place) q
      (λ k. inl (behind f place (fails_from k b.gap b.full)))
      (λ u ss g p v q k. let is = column_at b g p in inr (sym (ap (λ x. x.at) is) ∙ q, inr (sym (no_deeper t a (subst (λ x. Misplaced cols (column_of text) x.line f) is k)))))
      (λ stop rest body k. absurd (not_empty_line b body))
      (λ w ws stop rest after' ls body u y l k. absurd (too_many t h u l));
}

below_or_same : {e f : LexErr} {line : Line} → IsBeforeLimit line e → f ≡ fault.Limit line → (number_of e < number_of f) ⊎ (e ≡ f)
below_or_same {e} (inl h) k = inl (subst (λ x. number_of e < number_of x) (sym k) h)
below_or_same (inr h) k = inr (h ∙ sym k)

pub first_word_refused : {end : TextEnd} {text first : List Spot} {s : Spot} (cols after : List Column) (ks : List TokenKind) (e : LexErr) → Begins end text first s → Turn cols (column_of text) after ks
    → agrees (column_of text) cols ≡ true → Fails end outside text e s.at → IsBeforeLimit s.line e → Refused end cols text e
first_word_refused {end} {text} {first} {s} cols after ks e b t a fails n = record {
  at = s.at;
  found = in_words fails;
  first = λ f place q. by_fault (Precedes e s.at f place) q
      (λ k. let q = fails_once fails k in inr (q.1, inr q.0))
      (λ u ss g p v q k. let is = column_at b g p in
      inr (sym (ap (λ x. x.at) is) ∙ q, below_or_same n (no_deeper t a (subst (λ x. Misplaced cols (column_of text) x.line f) is k))))
      (λ stop rest body k. absurd (words_or_fault body fails))
      (λ w ws stop rest after' ls body u y l k. absurd (words_or_fault body fails));
}

-- Behind a first word that is in order, a fault stands further on.
pub fault_behind : {end : TextEnd} {first after : List Spot} {more : Nest} {w : Lexeme} {f : LexErr} {place : ℕ} → Rises end first → Next mode.Words first w after → turned outside w (line_of end first) ≡ Ok more → Fails end outside first f place
    → at_of end first < place
fault_behind r n t (broken v g w) = absurd (end_no_next g nothing n)
fault_behind r n t (unclosed v g w o) = absurd (o refl)
fault_behind r n t (strange g p m s) = absurd (word_there g p m nothing n)
fault_behind r n t (spoilt h f) = absurd (word_or_fault nothing n h f)
fault_behind {end = end} r n t (wrong h m u) = let k = same_next nothing h n m in absurd (err_here outside k.words (ap (line_of end) k.place) t u)
fault_behind {end = end} r n t (later h m u f) =
    let q = same_next nothing h n m in
    let k = next_rises end n r in
    let l = fails_behind (fails_at (sym (same_open outside q.words (ap (line_of end) q.place) t u)) (sym q.behind) f) k.1 in
    omega (arith, k.0, l)

pub body_behind_gap : {end : TextEnd} {text first stop rest : List Spot} {ws : List Token} → Gap end outside text first → Body end outside first ws stop rest → Body end outside text ws stop rest
body_behind_gap g (finish h e) = finish (gap_both g h) e
body_behind_gap g (word h n t b) = word (gap_both g h) n t b

word_place : {end : TextEnd} {text first stop rest : List Spot} {s : Spot} {w : Token} {ws : List Token} → Begins end text first s → Body end outside first (w ∷ ws) stop rest → (w.at ≡ s.at) × (w.line ≡ s.line)
word_place {end = end} b (word h n t body) =
    let e = gap_once h nothing (next_no_piece n) b.full ∙ b.is in
    (ap (at_of end) e, ap (line_of end) e)

-- A line with words has been read.
pub words_line : {end : TextEnd} {text first stop rest : List Spot} {s : Spot} {old new : List Column} {t0 t1 t2 t3 : List Token} {newline : Token} → Begins end text first s → Indented old new (column_of text) s.at s.line t0 t1
    → length new ≤ 101 → WordsRead end first t1 t2 stop rest → newline ≡ token end stop kind.Newline → t3 ≡ t2 ++ newline ∷ [] → ReadsLine end old new text rest t0 t3
words_line {end} {text} {first} {stop} {rest} {s} {old} {new} {t0} {t1} {t2} {t3} {newline} b i l r n e = go r.words r.kept r.body
  where
    go : (ws : List Token) → t2 ≡ t1 ++ ws → Body end outside first ws stop rest → ReadsLine end old new text rest t0 t3
    go [] k body = absurd (not_empty_line b (body_behind_gap b.gap body))
    go (w ∷ ws) k body =
        let at = word_place b body in
        record {
          front = marks w.at w.line i.kinds ++ ((w ∷ ws) ++ token end stop kind.Newline ∷ []);
          kept = rw (e, k, i.kept, n, at.0, at.1, append_assoc, append_assoc) refl;
          line = full_line (body_behind_gap b.gap body) i.turns i.agreed l refl;
          rising = i.rising;
        }

-- the refusals of a line with words, as the code has them
pub refused_column : {end : TextEnd} {text first : List Spot} {s : Spot} (cols : List Column) (failure : Failure LexErr) → Begins end text first s → IfRefused (IsMisplaced cols (column_of text) s.line) failure → IfRefused (Refused end cols text) failure
refused_column cols failure b c = if_refused_map failure (λ e m. column_refused cols e b m.wrong m.small m.least) c

pub first_refused : {end : TextEnd} {text first : List Spot} {s : Spot} {old new : List Column} {ks : List TokenKind} (e : LexErr) → Begins end text first s → Turn old (column_of text) new ks → agrees (column_of text) old ≡ true
    → 101 < length new → FirstFault end first s e → Refused end old text e
first_refused {old = old} {new = new} {ks = ks} e b t a l (inl f) = first_word_refused old new ks e b t a (gap_fails b.gap f.0) f.1
first_refused {end = end} {text = text} {old = old} {new = new} {ks = ks} e b t a l (inr f) = subst (Refused end old text) (sym f.0) (depth_refused old new ks b t a l f.1)

pub refused_depth : {end : TextEnd} {text first : List Spot} {s : Spot} {old new : List Column} {t0 t1 : List Token} (failure : Failure LexErr) → Begins end text first s → Indented old new (column_of text) s.at s.line t0 t1 → 101 < length new
    → IfRefused (FirstFault end first s) failure → IfRefused (Refused end old text) failure
refused_depth failure b i l c = if_refused_map failure (λ e f. first_refused e b i.turns i.agreed l f) c

pub refused_words : {end : TextEnd} {text first : List Spot} {s : Spot} {old new : List Column} {t0 t1 : List Token} (failure : Failure LexErr) → Begins end text first s → Indented old new (column_of text) s.at s.line t0 t1 → length new ≤ 101
    → FailsWith end outside first failure → IfRefused (Refused end old text) failure
refused_words {end} {text} {first} {s} {old} {new} failure b i l c = if_refused_map failure (λ e f. words_refused old e f.0 (gap_fails b.gap f.1) (λ g t ss h p m. well_placed i.turns i.agreed l m)) c

-- the refusal of a text that breaks off before a word
pub refused_broken : {end : TextEnd} {text first : List Spot} (cols : List Column) → Gap end outside text first → NoPiece end outside first → first ≡ [] → ((rest : List Spot) → Stops end first rest → ⊥) → Refused end cols text (fault.NotUtf8 end.at)
refused_broken {end} {text} {first} cols g p e n =
    words_refused cols (fault.NotUtf8 end.at) end.at (broken refl (subst (Gap end outside text) e g) (whole_not end (λ w. n [] (subst (λ x. Stops end x []) (sym e) (at_text_end w)))))
    (λ f t ss h q m. no_spots (sym e ∙ gap_once g h p q))
  where
    whole_not : (end : TextEnd) → (end.is_whole ≡ true → ⊥) → end.is_whole ≡ false
    whole_not end h = elim (cases_Bool end.is_whole) [ inl w ↦ absurd (h w) | inr w ↦ w ]

-- the first word of a line
pub begin_again : {end : TextEnd} {text first : List Spot} {s : Spot} → Begins end text first s → Begins end first first s
begin_again b = record { more = b.more; rises = (gap_rises b.gap b.rises).1; gap = nothing; is = b.is; full = b.full; stands = b.stands }

at_first : {end : TextEnd} {first : List Spot} {s : Spot} → Begins end first first s → (at_of end first ≡ s.at) × (line_of end first ≡ s.line)
at_first {end} b = (ap (at_of end) b.is, ap (line_of end) b.is)

pub strange_first : {end : TextEnd} {first : List Spot} {s : Spot} → Begins end first first s → NoWord mode.Words first → FirstFault end first s (fault.BadChar s.at)
strange_first {end} {first} {s} b n = inl (
  subst (λ x. Fails end outside x (fault.BadChar s.at) s.at) (sym b.is)
      (strange nothing (subst (NoPiece end outside) b.is b.full) (subst (NoWord mode.Words) b.is n) (λ rest t o. subst (λ x. (rest : List Spot) → Stops end x rest → ⊥) b.is b.stands rest t)),
  inl (omega arith),
)

-- what a first word is at fault for, or the depth of its line
pub wrong_first : {end : TextEnd} {first after : List Spot} {s : Spot} {w : Lexeme} (e : LexErr) → Begins end first first s → Next mode.Words first w after → turned outside w s.line ≡ Err e → FirstFault end first s e
wrong_first {end} {first} {after} {s} {w} e b n t =
    let at = at_first b in
    inl (subst (Fails end outside first e) at.0 (wrong nothing n (subst (λ l. turned outside w l ≡ Err e) (sym at.1) t)), inl (first_no_limit w s.line e t))

pub deep_first : {end : TextEnd} {first after : List Spot} {s : Spot} {w : Lexeme} {more : Nest} → Begins end first first s → Next mode.Words first w after → turned outside w s.line ≡ Ok more → FirstFault end first s (fault.Limit s.line)
deep_first {end} {first} {after} {s} {w} {more} b n t =
    let at = at_first b in
    inr (refl, λ f place h. subst (λ x. x < place) at.0 (fault_behind b.rises n (subst (λ l. turned outside w l ≡ Ok more) (sym at.1) t) h))

pub word_first : {end : TextEnd} {first after : List Spot} {s : Spot} {w : Lexeme} (failure : Failure LexErr) → Begins end first first s → Next mode.Words first w after → DepthOrWord w s failure → IfRefused (FirstFault end first s) failure
word_first {end} {first} {after} {s} {w} failure b n c = if_refused_map failure go c
  where
    go : (e : LexErr) → (turned outside w s.line ≡ Err e) ⊎ ((e ≡ fault.Limit s.line) × ((more : Nest) × (turned outside w s.line ≡ Ok more))) → FirstFault end first s e
    go e (inl t) = wrong_first e b n t
    go e (inr k) = subst (FirstFault end first s) (sym k.0) (deep_first b n k.1.1)

-- a line that begins with a number or a string
pub faulty_first : {end : TextEnd} {first : List Spot} {s : Spot} (e : LexErr) → Begins end first first s → literal mode.Words first ≡ faulty e → FirstFault end first s e
faulty_first {end} {first} {s} e b h =
    let at = at_first b in
    inl (subst (Fails end outside first e) at.0 (spoilt nothing (at_once h)), subst (λ l. IsBeforeLimit l e) at.1 (faulty_late end mode.Words first e h).1)

pub spoilt_first : {end : TextEnd} {first : List Spot} {s : Spot} (failure : Failure LexErr) → Begins end first first s → IfRefused (λ e. literal mode.Words first ≡ faulty e) failure → IfRefused (FirstFault end first s) failure
spoilt_first failure b c = if_refused_map failure (λ e h. faulty_first e b h) c

pub known_first : {first rest : List Spot} {w : Lexeme} → literal mode.Words first ≡ known w rest → Next mode.Words first w rest
known_first h = begun h

-- a string changes no brackets
string_turns : {ss after inner : List Spot} {w : Lexeme} {p : Part} {e : LexErr} (line : Line) → Next mode.Words ss w after → literal mode.Words ss ≡ holds p inner → turned outside w line ≡ Err e → ⊥
string_turns line (plain l n) o t = no_or_holds l o
string_turns line (begun h) o t = known_or_holds h o
string_turns line (string {p = p} h i x) o t = part_turns p _ line t
  where
    part_turns : (p : Part) (x : List ℕ) (line : Line) {e : LexErr} → turned outside (Word (kind_of_part p x)) line ≡ Err e → ⊥
    part_turns (part.Whole d) x line t = err_or_ok refl t
    part_turns (part.Text d) x line t = err_or_ok refl t
    part_turns (part.Spec d) x line t = err_or_ok refl t

no_string_at_end : {inner : List Spot} {p : Part} → literal mode.Words [] ≡ holds p inner → ⊥
no_string_at_end h = no_or_holds {l = literal mode.Words []} refl h

behind_string : {end : TextEnd} {first inner : List Spot} {q : Part} {f : LexErr} {place : ℕ} → Rises end first → NoPiece end outside first → literal mode.Words first ≡ holds q inner → Fails end outside first f place → at_of end first < place
behind_string {inner = inner} {q = q} r p o (broken v g w) = absurd (no_string_at_end (subst (λ x. literal mode.Words x ≡ holds q inner) (gap_once nothing g p no_piece_at_end) o))
behind_string r p o (unclosed v g w n) = absurd (n refl)
behind_string r p o (strange g q m s) = absurd (no_or_holds (subst (λ x. literal mode.Words x ≡ no_literal) (gap_once g nothing q p) m.lacks) o)
behind_string r p o (spoilt g f) = string_fails_behind (literal_fails_at (gap_once g nothing (fault_no_piece f) p) f) o r
behind_string {end = end} r p o (wrong g n t) = absurd (string_turns _ (next_at (gap_once g nothing (next_no_piece n) p) n) o t)
behind_string {end = end} r p o (later g n t f) =
    let m = next_at (gap_once g nothing (next_no_piece n) p) n in
    let k = next_rises end m r in
    let l = fails_behind f k.1 in
    omega (arith, k.0)

pub string_first : {end : TextEnd} {first inner : List Spot} {s : Spot} {p : Part} → Begins end first first s → literal mode.Words first ≡ holds p inner → FirstFault end first s (fault.Limit s.line)
string_first {end} {first} {inner} {s} {p} b h =
    let at = at_first b in
    inr (refl, λ f place k. subst (λ x. x < place) at.0 (behind_string b.rises b.full h k))

pub no_word_first : {first : List Spot} → literal mode.Words first ≡ no_literal → NoneSpelt first → NoWord mode.Words first
no_word_first l n = record { lacks = l; none = n }

pub plain_first : {first after : List Spot} {w : TokenKind} → literal mode.Words first ≡ no_literal → Longest first w after → Next mode.Words first (Word w) after
plain_first l n = plain l n

pub indented_at : {old new : List Column} {k l : Column} {at : ℕ} {line : Line} {t0 t1 : List Token} → k ≡ l → Indented old new k at line t0 t1 → Indented old new l at line t0 t1
indented_at {old} {new} {k} {l} {at} {line} {t0} {t1} e i = subst (λ x. Indented old new x at line t0 t1) e i

pub misplaced_at : (cols : List Column) (k l : Column) (line : Line) (failure : Failure LexErr) → k ≡ l → IfRefused (IsMisplaced cols k line) failure → IfRefused (IsMisplaced cols l line) failure
misplaced_at cols k l line failure h m = subst (λ x. IfRefused (IsMisplaced cols x line) failure) h m

-- an empty line
pub no_words : {end : TextEnd} {text first rest : List Spot} (cols : List Column) (before : List Token) → Gap end outside text first → Stops end first rest → AreRising cols → ReadsLine end cols cols text rest before before
no_words cols before g h r = record { front = []; kept = sym (append-nil before); line = empty_line (finish g h); rising = r }
