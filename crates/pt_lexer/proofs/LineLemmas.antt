-- Lines of a text, one after another.
use Rattle.std.proofs.Common.{◌≡◌, ◌≢◌, ℕ, suc, ◌+◌, ◌≤◌, ◌<◌, List, [], ◌∷◌, ◌++◌, Bool, true, false, Result, Ok, Err, MatchResult, ◌⊎◌, refl, sym, ◌∙◌, ap, subst, arith, length, append_assoc, append-nil, inl, inr}
use Rattle.std.specs.Prelude.{◌==◌, if◌then◌else◌}
use Rattle.std.specs.Str.Lossy.{utf8_valid_len}
use Rattle.std.specs.Char.{len_utf8}
use Rattle.std.proofs.lemmas.Str.{len_utf8_bounds}
use Rattle.pt_literals.specs.declared.source.Spot.{Spot}
use Rattle.pt_literals.specs.declared.source.TextEnd.{TextEnd}
use Rattle.pt_lexer.specs.declared.token.Column.{Column}
use Rattle.pt_literals.specs.declared.token.LexErr.{LexErr}
use Rattle.pt_literals.specs.declared.token.LexErr.TheVariants as fault
use Rattle.pt_literals.specs.declared.token.Token.{Token}
use Rattle.pt_literals.specs.declared.token.TokenKind.TheVariants as kind
use Rattle.pt_lexer.specs.Columns.{AreRising}
use Rattle.pt_literals.specs.Source.{line_at, placed, end_behind, behind_mark, read_chars, end_of, spots_of}
use Rattle.pt_lexer.specs.Lines.{at_of, token, outside, Stops, at_line_end, at_text_end, nothing, NoPiece, Body, finish, word, closing, Lines, done, empty, full}
use Rattle.pt_base.specs.declared.failure.Failure.{Failure}
use Rattle.pt_base.specs.declared.failure.Failure.TheVariants as failures
use Rattle.pt_base.specs.Failures.{IfRefused}
use Rattle.pt_base.proofs.FailureLemmas.{if_refused_map}
use Rattle.pt_lexer.specs.Faults.{below_empty, below_full, number_of, Precedes, Refused, margin, IsTokens, IsRefused}
use Rattle.pt_lexer.specs.Progress.{Rises, LineRead, empty_line, full_line, ReadsLine, GoesOn, TextRead}
use Rattle.pt_lexer.proofs.NextLemmas.{next_shorter}
use Rattle.pt_lexer.proofs.GapLemmas.{stops_within, broken_stop, line_end_shorter}
use Rattle.pt_lexer.proofs.ReadLemmas.{gap_within}
use Rattle.pt_lexer.proofs.Once.{lines_once, lines_or_fault, body_once, words_or_fault, empty_stops, well_placed, turn_once, empty_or_full, faulty_at, no_piece_at_end}
use Rattle.pt_lexer.proofs.FirstLemmas.{by_fault, gap_rises, stops_rises, next_rises, refused_broken}

-- a line takes some of the text, and places still rise behind it
pub body_rises : (end : TextEnd) {n : _} {text stop rest : List Spot} {ws : List Token} → Body end n text ws stop rest → Rises end text → Rises end rest
body_rises end (finish g e) r = (stops_rises e (gap_rises g r).1).1
body_rises end (word g k t b) r = body_rises end b (next_rises end k (gap_rises g r).1).1

pub line_rises : {end : TextEnd} {cols after : List Column} {text rest : List Spot} {front : List Token} → LineRead end cols text after rest front → Rises end text → Rises end rest
line_rises {end = end} (empty_line b) r = body_rises end b r
line_rises {end = end} (full_line b t a l e) r = body_rises end b r

body_within : {end : TextEnd} {n : _} {text stop rest : List Spot} {ws : List Token} → Body end n text ws stop rest → length rest ≤ length text
body_within (finish g e) = let h = gap_within g in let k = stops_within e in omega arith
body_within (word g n t b) = let h = gap_within g in let k = next_shorter n in let l = body_within b in omega arith

body_shorter : {end : TextEnd} {n : _} {text stop rest : List Spot} {ws : List Token} → Body end n text ws stop rest → text ≢ [] → length rest < length text
body_shorter (finish g (at_line_end l)) n = let h = gap_within g in let k = line_end_shorter l in omega arith
body_shorter (finish {text = text} g (at_text_end w)) n = some_length text n
  where
    some_length : (text : List Spot) → text ≢ [] → 0 < length text
    some_length [] n = absurd (n refl)
    some_length (s ∷ ss) n = omega arith
body_shorter (word g n t b) m = let h = gap_within g in let k = next_shorter n in let l = body_within b in omega arith

pub line_shorter : {end : TextEnd} {cols after : List Column} {text rest : List Spot} {front : List Token} → LineRead end cols text after rest front → text ≢ [] → length rest < length text
line_shorter (empty_line b) n = body_shorter b n
line_shorter (full_line b t a l e) n = body_shorter b n

-- the lines behind a line
pub lines_behind : {end : TextEnd} {cols after : List Column} {s : Spot} {ss rest : List Spot} {front all : List Token} → LineRead end cols (s ∷ ss) after rest front → Lines end after rest all → Lines end cols (s ∷ ss) (front ++ all)
lines_behind (empty_line b) l = empty b l
lines_behind (full_line b t a d e) l = full b t a d l (rw (e, append_assoc, append_assoc) refl)

pub refused_behind : {end : TextEnd} {cols after : List Column} {s : Spot} {ss rest : List Spot} {front : List Token} (e : LexErr) → LineRead end cols (s ∷ ss) after rest front → Refused end after rest e → Refused end cols (s ∷ ss) e
refused_behind {end} {cols} {after} {s} {ss} {rest} e (empty_line b) r = record {
  at = r.at;
  found = below_empty b r.found;
  first = λ f place h. by_fault (Precedes e r.at f place) h
      (λ k. absurd (words_or_fault b k))
      (λ t us g p n q m. absurd (empty_stops b g p n))
      (λ stop' rest' c k. r.first f place (faulty_at refl (sym (body_once b c).2) k))
      (λ w ws stop' rest' after' ks c t a l k. absurd (empty_or_full (body_once b c).0));
}
refused_behind {end} {cols} {after} {s} {ss} {rest} e (full_line b t a l q) r = record {
  at = r.at;
  found = below_full b t a l r.found;
  first = λ f place h. by_fault (Precedes e r.at f place) h
      (λ k. absurd (words_or_fault b k))
      (λ u us g p n q m. absurd (well_placed t a l m))
      (λ stop' rest' c k. absurd (empty_or_full (sym (body_once b c).0)))
      (λ w ws stop' rest' after' ks c u y m k. r.first f place (faulty_at (sym (turn_once t u).0) (sym (body_once b c).2) k));
}

pub begun : (end : TextEnd) (cols : List Column) (text : List Spot) (old : List Token) → Rises end text → AreRising cols → GoesOn end cols cols text text old old
begun end cols text old r c = record { front = []; kept = sym (append-nil old); reads = λ all l. l; refuses = λ e q. q; rising = c; rises = r; shorter = omega arith }

goes_one : {end : TextEnd} {cols now after : List Column} {text ss behind : List Spot} {s : Spot} {old new newer : List Token} → GoesOn end cols now text (s ∷ ss) old new → ReadsLine end now after (s ∷ ss) behind new newer
    → GoesOn end cols after text behind old newer
goes_one g l = record {
  front = g.front ++ l.front;
  kept = rw (l.kept, g.kept, append_assoc) refl;
  reads = λ all h. rw append_assoc (g.reads (l.front ++ all) (lines_behind l.line h));
  refuses = λ e q. g.refuses e (refused_behind e l.line q);
  rising = l.rising;
  rises = line_rises l.line g.rises;
  shorter = let h = line_shorter l.line no_end in let k = g.shorter in omega arith;
}
  where
    no_end : {s : Spot} {ss : List Spot} → s ∷ ss ≢ []
    no_end e = cc

pub goes_more : {end : TextEnd} {cols now after : List Column} {text behind : List Spot} {old new newer : List Token} (rest : List Spot) → GoesOn end cols now text rest old new → rest ≢ [] → ReadsLine end now after rest behind new newer
    → GoesOn end cols after text behind old newer
goes_more [] g n l = absurd (n refl)
goes_more (s ∷ ss) g n l = goes_one g l

pub reads_at : {end e : TextEnd} {now after : List Column} {rest behind : List Spot} {new newer : List Token} → end ≡ e → ReadsLine end now after rest behind new newer → ReadsLine e now after rest behind new newer
reads_at {now = now} {after = after} {rest = rest} {behind = behind} {new = new} {newer = newer} h l = subst (λ x. ReadsLine x now after rest behind new newer) h l

pub refused_at : {end e : TextEnd} {cols now : List Column} {text rest : List Spot} {old new : List Token} (failure : Failure LexErr) → end ≡ e → GoesOn e cols now text rest old new → IfRefused (Refused end now rest) failure → IfRefused (Refused e cols text) failure
refused_at {now = now} {rest = rest} failure h g c = if_refused_map failure (λ f r. g.refuses f (subst (λ x. Refused x now rest f) h r)) c

pub reads_shorter : {end : TextEnd} {now after : List Column} {rest behind : List Spot} {new newer : List Token} → ReadsLine end now after rest behind new newer → rest ≢ [] → length behind < length rest
reads_shorter l n = line_shorter l.line n

-- the end of a text
pub text_read : {end : TextEnd} {cols now : List Column} {text rest : List Spot} {old new last : List Token} → GoesOn end cols now text rest old new → rest ≡ [] → end.is_whole ≡ true → last ≡ new ++ closing end now → TextRead end cols text old last
text_read {end} {cols} {now} {text} {rest} {old} {new} {last} g e w k = record {
  front = g.front ++ closing end now;
  kept = rw (k, g.kept, append_assoc) refl;
  lines = g.reads (closing end now) (subst (λ x. Lines end now x (closing end now)) (sym e) (done w refl));
}

no_piece_here : {end : TextEnd} {rest : List Spot} → rest ≡ [] → NoPiece end outside rest
no_piece_here {end} e = subst (NoPiece end outside) (sym e) no_piece_at_end

pub text_broken : {end : TextEnd} {cols now : List Column} {text rest : List Spot} {old new : List Token} → GoesOn end cols now text rest old new → rest ≡ [] → end.is_whole ≡ false → Refused end cols text (fault.NotUtf8 end.at)
text_broken {end} {cols} {now} {text} {rest} g e w =
    g.refuses (fault.NotUtf8 end.at) (refused_broken now nothing (no_piece_here e) e (subst (λ x. (r : List Spot) → Stops end x r → ⊥) (sym e) (λ r s. broken_stop w s)))

pub goes_at : (cols now : List Column) (end e : TextEnd) (text rest : List Spot) (old new : List Token) → end ≡ e → GoesOn end cols now text rest old new → GoesOn e cols now text rest old new
goes_at cols now end e text rest old new h g = subst (λ x. GoesOn x cols now text rest old new) h g

-- the tokens that close the blocks
closing_head : (end : TextEnd) (k l : Column) (cols : List Column) → closing end (k ∷ cols) ≡ closing end (l ∷ cols)
closing_head end k l [] = refl
closing_head end k l (m ∷ cols) = refl

pub closing_more : (end : TextEnd) (k x : Column) (outer rest : List Column) (tokens new all : List Token) → outer ≡ x ∷ rest → new ≡ tokens ++ token end [] kind.Dedent ∷ [] → tokens ++ closing end (k ∷ outer) ≡ all → new ++ closing end (k ∷ rest) ≡ all
closing_more end k x outer rest tokens new all e n h =
    rw (n, append_assoc) (ap (λ y. tokens ++ (token end [] kind.Dedent ∷ y)) (closing_head end k x rest) ∙ (sym (ap (λ y. tokens ++ closing end (k ∷ y)) e) ∙ h))

pub closing_last : (end : TextEnd) (k : Column) (outer : List Column) (tokens new all : List Token) → outer ≡ [] → new ≡ tokens ++ token end [] kind.End ∷ [] → tokens ++ closing end (k ∷ outer) ≡ all → new ≡ all
closing_last end k outer tokens new all e n h = n ∙ (sym (ap (λ y. tokens ++ closing end (k ∷ y)) e) ∙ h)

-- places of a whole text rise
at_placed : (at line before : ℕ) (cs : List ℕ) (whole : Bool) → at_of (end_behind at line before cs whole) (placed at line before cs) ≡ at
at_placed at line before [] whole = refl
at_placed at line before (c ∷ cs) whole = refl

rises_placed : (at line before : ℕ) (cs : List ℕ) (whole : Bool) → Rises (end_behind at line before cs whole) (placed at line before cs)
rises_placed at line before [] whole = tt
rises_placed at line before (c ∷ cs) whole =
    (omega (arith, at_placed (at + len_utf8 c) (line_at line before c) c cs whole, (len_utf8_bounds c).0), rises_placed (at + len_utf8 c) (line_at line before c) c cs whole)

rises_mark : (end : TextEnd) (text : List Spot) → Rises end text → Rises end (behind_mark text)
rises_mark end [] r = tt
rises_mark end (s ∷ ss) r = go (s.char == 0xfeff)
  where
    go : (b : Bool) → Rises end (if b then ss else s ∷ ss)
    go true = r.1
    go false = r

pub rises_whole : (bytes : List ℕ) → Rises (end_of bytes) (spots_of bytes)
rises_whole bytes = rises_mark (end_of bytes) (placed 0 1 0 (read_chars bytes)) (rises_placed 0 1 0 (read_chars bytes) (utf8_valid_len bytes == length bytes))

mark_within : (text : List Spot) → length (behind_mark text) ≤ length text
mark_within [] = omega arith
mark_within (s ∷ ss) = go (s.char == 0xfeff)
  where
    go : (b : Bool) → length (if b then ss else s ∷ ss) ≤ suc (length ss)
    go true = omega arith
    go false = omega arith

-- a whole text begins
pub rises_text : (bytes : List ℕ) (end : TextEnd) (spots text : List Spot) → spots ≡ placed 0 1 0 (read_chars bytes) → end ≡ end_of bytes → text ≡ behind_mark spots → Rises end text
rises_text bytes end spots text s e t =
    subst (Rises end) (sym t) (rises_mark end spots (subst (Rises end) (sym s) (subst (λ x. Rises x (placed 0 1 0 (read_chars bytes))) (sym e) (rises_placed 0 1 0 (read_chars bytes) (utf8_valid_len bytes == length bytes)))))

pub text_short : (spots text : List Spot) → text ≡ behind_mark spots → length text ≤ length spots
text_short spots text e = let h = ap length e in let k = mark_within spots in omega arith

pub is_tokens : (bytes : List ℕ) (end : TextEnd) (cols : List Column) (spots text : List Spot) (old new : List Token) → spots ≡ placed 0 1 0 (read_chars bytes) → end ≡ end_of bytes → text ≡ behind_mark spots → cols ≡ margin → old ≡ []
    → TextRead end cols text old new → IsTokens bytes new
is_tokens bytes end cols spots text old new s e t m o r =
    subst (λ x. Lines x margin (spots_of bytes) new) e
    (subst (λ x. Lines end x (spots_of bytes) new) m
    (subst (λ x. Lines end cols x new) (t ∙ ap behind_mark s)
    (subst (Lines end cols text) (sym (r.kept ∙ ap (λ x. x ++ r.front) o)) r.lines)))

pub is_refused : (bytes : List ℕ) (end : TextEnd) (cols : List Column) (spots text : List Spot) (failure : Failure LexErr) → spots ≡ placed 0 1 0 (read_chars bytes) → end ≡ end_of bytes → text ≡ behind_mark spots → cols ≡ margin
    → IfRefused (Refused end cols text) failure → IfRefused (IsRefused bytes) failure
is_refused bytes end cols spots text failure s e t m c =
    if_refused_map failure (λ f r. subst (λ x. Refused x margin (spots_of bytes) f) e (subst (λ x. Refused end x (spots_of bytes) f) m (subst (λ x. Refused end cols x f) (t ∙ ap behind_mark s) r))) c

-- What the answer is where the text has tokens, and where it is refused.
memory_or : (failure : Failure LexErr) {P : LexErr → Type 0} → IfRefused P failure → ((e : LexErr) → P e → ⊥) → failure ≡ failures.Memory
memory_or failures.Memory c n = refl
memory_or (failures.Refused e) c n = absurd (n e c)

same_number : (e f : LexErr) → (number_of e < number_of f) ⊎ (e ≡ f) → (number_of f < number_of e) ⊎ (f ≡ e) → e ≡ f
same_number e f (inr a) b = a
same_number e f (inl a) (inr b) = sym b
same_number e f (inl a) (inl b) = absurd (omega arith)

precede_once : (e f : LexErr) (m n : ℕ) → Precedes e m f n → Precedes f n e m → e ≡ f
precede_once e f m n (inl a) (inl b) = absurd (omega arith)
precede_once e f m n (inl a) (inr b) = absurd (omega (arith, b.0))
precede_once e f m n (inr a) (inl b) = absurd (omega (arith, a.0))
precede_once e f m n (inr a) (inr b) = same_number e f a.1 b.1

-- A text is refused for one thing.
pub refused_once : (bytes : List ℕ) (e f : LexErr) → IsRefused bytes e → IsRefused bytes f → e ≡ f
refused_once bytes e f r q = precede_once e f r.at q.at (r.first f q.at q.found) (q.first e r.at r.found)

abbrev pub Exact : List ℕ → Result (List Token) (Failure LexErr) → Type 0
Exact bytes r = MatchResult r (IsTokens bytes) (IfRefused (IsRefused bytes))

pub one_list : (bytes : List ℕ) (r : Result (List Token) (Failure LexErr)) → Exact bytes r → (all : List Token) → IsTokens bytes all → MatchResult r (λ found. found ≡ all) (λ e. e ≡ failures.Memory)
one_list bytes (Ok found) x all h = lines_once x h
one_list bytes (Err failure) x all h = memory_or failure x (λ e r. lines_or_fault h r.found)

pub one_refusal : (bytes : List ℕ) (r : Result (List Token) (Failure LexErr)) → Exact bytes r → (f : LexErr) → IsRefused bytes f → MatchResult r (λ _. ⊥) (IfRefused (λ e. e ≡ f))
one_refusal bytes (Ok found) x f h = lines_or_fault x h.found
one_refusal bytes (Err failure) x f h = if_refused_map failure (λ e r. refused_once bytes e f r h) x
