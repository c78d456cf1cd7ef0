-- Words of a line, one after another.
use Rattle.std.proofs.Common.{◌≡◌, ℕ, ◌≤◌, List, [], ◌∷◌, ◌++◌, true, false, Option, Some, None, MatchOption, Ok, Err, Bor, refl, sym, ◌∙◌, ap, subst, arith, length, append_assoc, append-nil}
use Rattle.pt_base.specs.declared.numbers.Line.{Line}
use Rattle.pt_literals.specs.declared.modes.Mode.{Mode}
use Rattle.pt_literals.specs.declared.modes.Mode.TheVariants as mode
use Rattle.pt_literals.specs.declared.modes.Part.{Part}
use Rattle.pt_literals.specs.declared.source.Spot.{Spot}
use Rattle.pt_literals.specs.declared.source.TextEnd.{TextEnd}
use Rattle.pt_literals.specs.declared.token.LexErr.{LexErr}
use Rattle.pt_literals.specs.declared.token.LexErr.TheVariants as fault
use Rattle.pt_literals.specs.declared.token.Lexeme.{Lexeme}
use Rattle.pt_literals.specs.declared.token.Lexeme.TheVariants.{Word}
use Rattle.pt_literals.specs.declared.token.Begun.{Begun}
use Rattle.pt_lexer.specs.declared.token.Reading.{Reading}
use Rattle.pt_literals.specs.declared.token.Token.{Token}
use Rattle.pt_literals.specs.declared.token.TokenKind.{TokenKind}
use Rattle.pt_literals.specs.Literals.{Literal, literal, no_literal, faulty, holds}
use Rattle.pt_lexer.specs.Words.{kind_of_part, NoneSpelt, Longest, Next, string, NoWord}
use Rattle.pt_lexer.specs.Lines.{at_of, line_of, token, Stops, at_text_end, Nest, mode_of, opened_of, has_words, outside, Gap, nothing, piece, NoPiece, NoLineStop, turned, kind_of, Body, finish, word}
use Rattle.pt_base.specs.declared.failure.Failure.{Failure}
use Rattle.pt_base.specs.declared.failure.Failure.TheVariants.{Refused}
use Rattle.pt_base.specs.Failures.{IfRefused}
use Rattle.pt_base.proofs.FailureLemmas.{if_refused_map}
use Rattle.pt_lexer.specs.Faults.{outermost, or_line, left_open_by, string_line, line_of_part, broken_off, LiteralFails, at_once, in_string, Fails, broken, unclosed, strange, spoilt, wrong, later}
use Rattle.pt_literals.specs.Literals.{IsBegun}
use Rattle.pt_lexer.specs.Progress.{IsReading, BreaksOff, StringRead, IsSpoilt, EndsInside, BeginsSpoilt, spoilt_at_once, spoilt_inside, FailsWith, Going, WordsRead}
use Rattle.pt_lexer.proofs.GapLemmas.{piece_shorter}
use Rattle.pt_lexer.proofs.LiteralLemmas.{no_or_holds}

pub fault_strange : {end : TextEnd} {n : Nest} {text ss : List Spot} {s : Spot} → text ≡ s ∷ ss → NoPiece end n text → NoWord (mode_of n) text → NoLineStop end n text
    → Fails end n text (fault.BadChar s.at) (at_of end text)
fault_strange {end} {n} {text} {ss} {s} e p k h =
    subst (λ x. Fails end n x (fault.BadChar s.at) (at_of end x)) (sym e)
    (strange nothing (subst (NoPiece end n) e p) (subst (NoWord (mode_of n)) e k) (subst (NoLineStop end n) e h))

pub fault_broken : (end : TextEnd) (n : Nest) → has_words (mode_of n) ≡ true → end.is_whole ≡ false → Fails end n [] (fault.NotUtf8 end.at) end.at
fault_broken end n v w = broken v nothing w

pub fault_unclosed : (end : TextEnd) (n : Nest) (found : LexErr) → has_words (mode_of n) ≡ true → found ≡ left_open_by (outermost end.line (opened_of n)) (string_line n) → end.is_whole ≡ true → NoLineStop end n []
    → Fails end n [] found end.at
fault_unclosed end n found v f w h = subst (λ y. Fails end n [] y end.at) (sym f) (unclosed v nothing w (λ o. h [] (at_text_end w) o))

pub open_at : {l m : Line} {o q : Option Line} → l ≡ m → o ≡ q → left_open_by l o ≡ left_open_by m q
open_at {m = m} {o = o} h k = ap (λ x. left_open_by x o) h ∙ ap (left_open_by m) k

pub fault_end : {end : TextEnd} {n : Nest} {text : List Spot} {e : LexErr} → text ≡ [] → Fails end n [] e end.at → Fails end n text e (at_of end text)
fault_end {end} {n} {text} {e} h f = subst (λ x. Fails end n x e (at_of end x)) (sym h) f

-- only among words does nothing begin where the text ends
pub ends_in_words : (m : Mode) (text : List Spot) → text ≡ [] → NoWord m text → has_words m ≡ true
ends_in_words mode.Words text e n = refl
ends_in_words (mode.Text d) text e n = absurd (no_or_holds (subst (λ x. literal (mode.Text d) x ≡ no_literal) e n.lacks) refl)
ends_in_words (mode.Field f) text e n = refl
ends_in_words (mode.Spec f) text e n = absurd (no_or_holds (subst (λ x. literal (mode.Spec f) x ≡ no_literal) e n.lacks) refl)

-- so many words read
pub begun : (end : TextEnd) (text : List Spot) (old : List Token) → Going end text old old outside text
begun end text old = record { front = []; kept = sym (append-nil old); reads = λ ws stop behind b. b; fails = λ e at f. f }

pub one_more : {end : TextEnd} {text rest mid after : List Spot} {old new : List Token} {n more : Nest} (w : Lexeme) → Going end text old new n rest → Gap end n rest mid → Next (mode_of n) mid w after
    → turned n w (line_of end mid) ≡ Ok more → Going end text old (new ++ token end mid (kind_of w) ∷ []) more after
one_more {end = end} {mid = mid} {old = old} w g gap k t = record {
  front = g.front ++ token end mid (kind_of w) ∷ [];
  kept = rw (g.kept, append_assoc) refl;
  reads = λ ws stop behind b. rw append_assoc (g.reads (token end mid (kind_of w) ∷ ws) stop behind (word gap k t b));
  fails = λ e at f. g.fails e at (later gap k t f);
}

pub all_read : {end : TextEnd} {text rest stop behind : List Spot} {old new : List Token} {n : Nest} → Going end text old new n rest → n ≡ outside → Gap end n rest stop → Stops end stop behind
    → WordsRead end text old new stop behind
all_read {end} {text} {rest} {stop} {behind} {old} {new} {n} g e gap s = record {
  words = g.front;
  kept = g.kept;
  body = rw append-nil at (g.reads [] stop behind (subst (λ x. Body end x rest [] stop behind) (sym e) (finish (subst (λ x. Gap end x rest stop) e gap) s)));
}

pub gap_both : {end : TextEnd} {n : Nest} {text mid rest : List Spot} → Gap end n text mid → Gap end n mid rest → Gap end n text rest
gap_both nothing h = h
gap_both (piece w p g) h = piece w p (gap_both g h)

-- a fault behind a gap
pub gap_fails : {end : TextEnd} {n : Nest} {text mid : List Spot} {e : LexErr} {at : ℕ} → Gap end n text mid → Fails end n mid e at → Fails end n text e at
gap_fails g (broken v h w) = broken v (gap_both g h) w
gap_fails g (unclosed v h w o) = unclosed v (gap_both g h) w o
gap_fails g (strange h p k s) = strange (gap_both g h) p k s
gap_fails g (spoilt h f) = spoilt (gap_both g h) f
gap_fails g (wrong h k t) = wrong (gap_both g h) k t
gap_fails g (later h k t f) = later (gap_both g h) k t f

pub failed_here : {end : TextEnd} {text rest here : List Spot} {old new : List Token} {n : Nest} (e : LexErr) → Going end text old new n rest → Gap end n rest here → Fails end n here e (at_of end here)
    → FailsWith end outside text (Refused e)
failed_here e g gap f = (_, g.fails e _ (gap_fails gap f))

pub failed_word : {end : TextEnd} {text rest here after : List Spot} {old new : List Token} {n : Nest} {w : Lexeme} (failure : Failure LexErr) → Going end text old new n rest → Gap end n rest here → Next (mode_of n) here w after
    → IfRefused (λ e. turned n w (line_of end here) ≡ Err e) failure → FailsWith end outside text failure
failed_word failure g gap k c = if_refused_map failure (λ e t. (_, g.fails e _ (wrong gap k t))) c

literal_fails : {end : TextEnd} {m : Mode} {text : List Spot} {e : LexErr} (n : Nest) → mode_of n ≡ m → BeginsSpoilt end m text e → (at : ℕ) × LiteralFails end n text e at
literal_fails {end = end} n h (spoilt_at_once {text = text} {e = e} k) = (at_of end text, at_once (subst (λ x. literal x text ≡ faulty e) (sym h) k))
literal_fails {end = end} n h (spoilt_inside {text = text} {inner = inner} {p = p} {at = at} k f) =
    (at, in_string (subst (λ x. literal x text ≡ holds p inner) (sym h) k) (f (or_line (string_line n) (line_of_part p))))

pub failed_literal : {end : TextEnd} {text rest here : List Spot} {old new : List Token} {n : Nest} (failure : Failure LexErr) → Going end text old new n rest → Gap end n rest here → IfRefused (BeginsSpoilt end (mode_of n) here) failure
    → FailsWith end outside text failure
failed_literal {n = n} failure g gap c = if_refused_map failure (λ e b. let f = literal_fails n refl b in (f.0, g.fails e f.0 (spoilt gap f.1))) c

pub failed_end : {end : TextEnd} {text rest here : List Spot} {old new : List Token} {n : Nest} {p : Part} (e : LexErr) → Going end text old new n rest → Gap end n rest here → BreaksOff end (mode_of n) here p
    → e ≡ broken_off end (or_line (string_line n) (line_of_part p)) → FailsWith end outside text (Refused e)
failed_end {end} {text} {rest} {here} {old} {new} {n} {p} e g gap b h =
    (end.at, g.fails e end.at (subst (λ x. Fails end n rest x end.at) (sym h) (spoilt gap (in_string b.begins (b.ends (or_line (string_line n) (line_of_part p)))))))

-- a gap takes some of the text, or nothing
pub gap_within : {end : TextEnd} {n : Nest} {text rest : List Spot} → Gap end n text rest → length rest ≤ length text
gap_within nothing = omega arith
gap_within (piece w p g) = let h = gap_within g in let k = piece_shorter p in omega arith

abbrev pub FoundPlain : Type 0
FoundPlain = Option (TokenKind × Bor (List Spot))

abbrev pub PlainAnswer : FoundPlain → List Spot → Type 0
PlainAnswer o text = MatchOption o (NoneSpelt text) (λ x. Longest text x.0 x.1.now)

pub longest_at_some : {o : FoundPlain} {text : List Spot} {x : TokenKind × Bor (List Spot)} → PlainAnswer o text → o ≡ Some x → Longest text x.0 x.1.now
longest_at_some {o} {text} {x} a is = let n : PlainAnswer (Some x) text = subst (λ y. PlainAnswer y text) is a in n

pub none_spelt : {o : FoundPlain} {text : List Spot} → PlainAnswer o text → o ≡ None → NoneSpelt text
none_spelt {o} {text} a is = let n : PlainAnswer None text = subst (λ y. PlainAnswer y text) is a in n

-- what is read, as the code has it
pub begun_at : {b d : Begun} (l : Literal) → IsBegun b l → b ≡ d → IsBegun d l
begun_at l a is = subst (λ x. IsBegun x l) is a

pub reading_at : (end : TextEnd) (m : Mode) (text : List Spot) {r s : Reading} → IsReading end m text r → r ≡ s → IsReading end m text s
reading_at end m text a is = subst (IsReading end m text) is a

pub spoilt_literal : (end : TextEnd) (m : Mode) (text : List Spot) (failure : Failure LexErr) → IfRefused (λ e. literal m text ≡ faulty e) failure → IfRefused (BeginsSpoilt end m text) failure
spoilt_literal end m text failure c = if_refused_map failure (λ e h. spoilt_at_once h) c

pub spoilt_string : (end : TextEnd) (m : Mode) (text inner : List Spot) (p : Part) (failure : Failure LexErr) → literal m text ≡ holds p inner → IfRefused (IsSpoilt end p inner) failure → IfRefused (BeginsSpoilt end m text) failure
spoilt_string end m text inner p failure h c = if_refused_map failure (λ e f. spoilt_inside h f.1) c

abbrev pub PartAnswer : TextEnd → Part → List Spot → Option (List ℕ × Bor (List Spot)) → Type 0
PartAnswer end p text o = MatchOption o (EndsInside end p text) (λ r. StringRead p text r.0 r.1.now)

pub string_none : (end : TextEnd) (p : Part) (text : List Spot) {o : Option (List ℕ × Bor (List Spot))} → PartAnswer end p text o → o ≡ None → EndsInside end p text
string_none end p text a is = let n : PartAnswer end p text None = subst (PartAnswer end p text) is a in n

pub string_some : (end : TextEnd) (p : Part) (text : List Spot) {o : Option (List ℕ × Bor (List Spot))} {x : List ℕ × Bor (List Spot)} → PartAnswer end p text o → o ≡ Some x → StringRead p text x.0 x.1.now
string_some end p text {x = x} a is = let n : PartAnswer end p text (Some x) = subst (PartAnswer end p text) is a in n

pub no_word_here : {m : Mode} {text : List Spot} → literal m text ≡ no_literal → NoneSpelt text → NoWord m text
no_word_here l n = record { lacks = l; none = n }

pub string_word : (m : Mode) (text inner rest : List Spot) (p : Part) (x : List ℕ) (k : TokenKind) → literal m text ≡ holds p inner → StringRead p inner x rest → k ≡ kind_of_part p x → Next m text (Word k) rest
string_word m text inner rest p x k h s e = subst (λ y. Next m text (Word y) rest) (sym e) (string h s.inside s.written)

pub breaks_off : (end : TextEnd) (m : Mode) (text inner : List Spot) (p : Part) → literal m text ≡ holds p inner → EndsInside end p inner → BreaksOff end m text p
breaks_off end m text inner p h e = record { inner = inner; begins = h; ends = e }

pub going_on : {end : TextEnd} {text rest mid after : List Spot} {old new newer : List Token} {n more : Nest} {line : Line} {t : Token} {k : TokenKind} (w : Lexeme) → Going end text old new n rest
    → Gap end n rest mid → Next (mode_of n) mid w after → line ≡ line_of end mid → turned n w line ≡ Ok more → k ≡ kind_of w → t ≡ token end mid k → newer ≡ new ++ t ∷ [] → Going end text old newer more after
going_on {end} {text} {rest} {mid} {after} {old} {new} {newer} {n} {more} {line} {t} {k} w g gap q l turns kind is pushed =
    subst (λ x. Going end text old x more after) (sym (pushed ∙ (ap (λ y. new ++ y ∷ []) is ∙ ap (λ y. new ++ token end mid y ∷ []) kind))) (one_more w g gap q (subst (λ x. turned n w x ≡ Ok more) l turns))

pub failed_turn : {end : TextEnd} {text rest here after : List Spot} {old new : List Token} {n : Nest} {line : Line} {w : Lexeme} (failure : Failure LexErr) → Going end text old new n rest → Gap end n rest here → Next (mode_of n) here w after
    → line ≡ line_of end here → IfRefused (λ e. turned n w line ≡ Err e) failure → FailsWith end outside text failure
failed_turn {n = n} {w = w} failure g gap k l c = failed_word failure g gap k (subst (λ x. IfRefused (λ e. turned n w x ≡ Err e) failure) l c)
