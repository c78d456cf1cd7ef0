-- Gaps, as the code finds them.
use Rattle.std.proofs.Common.{◌≡◌, ◌≢◌, ◌≤◌, ◌<◌, List, [], ◌∷◌, Bool, true, false, Option, Some, None, MatchOption, Bor, refl, sym, ◌∙◌, ap, subst, arith, inl, inr, ◌⊎◌, length}
use Rattle.std.specs.Prelude.{◌==◌}
use Rattle.std.proofs.lemmas.Bool.{both_ways, eqb-true, true≢false}
use Rattle.pt_literals.specs.declared.source.Spot.{Spot}
use Rattle.pt_literals.specs.declared.source.TextEnd.{TextEnd}
use Rattle.pt_literals.specs.declared.modes.Mode.{Mode}
use Rattle.pt_lexer.specs.declared.token.Opening.{Opening}
use Rattle.pt_literals.specs.Source.{ends_line}
use Rattle.pt_literals.specs.Source.{is_blank}
use Rattle.pt_lexer.specs.Lines.{NoFeed, LineEnd, feed, both, carriage, Stops, at_line_end, at_text_end, Comment, text_ends, line_ends, goes_on, Piece, blank, comment, backslash, inside, Nest, nest, mode_of, opened_of, has_words, Gap, nothing, piece, NoPiece}

pub feed_at : {text ss : List Spot} {s : Spot} → text ≡ s ∷ ss → s.char ≡ 10 → LineEnd text ss
feed_at {ss = ss} e h = subst (λ x. LineEnd x ss) (sym e) (feed h)

pub both_at : {text ss us : List Spot} {s t : Spot} → text ≡ s ∷ ss → ss ≡ t ∷ us → s.char ≡ 13 → t.char ≡ 10 → LineEnd text us
both_at {us = us} {s = s} e f h k = subst (λ x. LineEnd x us) (sym (e ∙ ap (λ x. s ∷ x) f)) (both h k)

pub carriage_at_end : {text ss : List Spot} {s : Spot} → text ≡ s ∷ ss → ss ≡ [] → s.char ≡ 13 → LineEnd text ss
carriage_at_end {ss = ss} e f h = subst (λ x. LineEnd x ss) (sym e) (carriage h (subst NoFeed (sym f) tt))

pub carriage_before : {text ss us : List Spot} {s t : Spot} → text ≡ s ∷ ss → ss ≡ t ∷ us → s.char ≡ 13 → t.char ≢ 10 → LineEnd text ss
carriage_before {ss = ss} e f h k = subst (λ x. LineEnd x ss) (sym e) (carriage h (subst NoFeed (sym f) k))

none_at_end : {rest : List Spot} → LineEnd [] rest → ⊥
none_at_end h = elim h [ ]

pub no_line_end_at_end : {text rest : List Spot} → text ≡ [] → LineEnd text rest → ⊥
no_line_end_at_end {rest = rest} e h = none_at_end (subst (λ x. LineEnd x rest) e h)

head_ends : {s : Spot} {ss rest : List Spot} → LineEnd (s ∷ ss) rest → (s.char ≡ 10) ⊎ (s.char ≡ 13)
head_ends (feed h) = inl h
head_ends (both h k) = inr h
head_ends (carriage h k) = inr h

pub no_line_end : {text ss rest : List Spot} {s : Spot} → text ≡ s ∷ ss → s.char ≢ 10 → s.char ≢ 13 → LineEnd text rest → ⊥
no_line_end {rest = rest} e h k l = elim (head_ends (subst (λ x. LineEnd x rest) e l)) [ inl m ↦ h m | inr m ↦ k m ]

abbrev pub EndAnswer : Option (Bor (List Spot)) → List Spot → Type 0
EndAnswer o text = MatchOption o ((rest : List Spot) → LineEnd text rest → ⊥) (λ r. LineEnd text r.now)

abbrev pub StopAnswer : Option (Bor (List Spot)) → TextEnd → List Spot → Type 0
StopAnswer o end text = MatchOption o ((rest : List Spot) → Stops end text rest → ⊥) (λ r. Stops end text r.now)

pub no_stop : {end : TextEnd} {text rest : List Spot} → text ≢ [] → ((r : List Spot) → LineEnd text r → ⊥) → Stops end text rest → ⊥
no_stop n h (at_line_end l) = h _ l
no_stop n h (at_text_end w) = n refl

pub stop_of : (o : Option (Bor (List Spot))) (end : TextEnd) (text : List Spot) → text ≢ [] → EndAnswer o text → StopAnswer o end text
stop_of None end text n h = λ rest s. no_stop n h s
stop_of (Some r) end text n h = at_line_end h

pub stop_at_end : (end : TextEnd) (text : List Spot) → text ≡ [] → end.is_whole ≡ true → Stops end text text
stop_at_end end text e w = subst (λ x. Stops end x x) (sym e) (at_text_end w)

pub broken_stop : {end : TextEnd} {rest : List Spot} → end.is_whole ≡ false → Stops end [] rest → ⊥
broken_stop w (at_line_end l) = none_at_end l
broken_stop w (at_text_end v) = both_ways _ w v

pub no_stop_at_end : (end : TextEnd) (text : List Spot) → text ≡ [] → end.is_whole ≡ false → (rest : List Spot) → Stops end text rest → ⊥
no_stop_at_end end text e w rest s = broken_stop w (subst (λ x. Stops end x rest) e s)

-- comments
pub comment_at_end : {text : List Spot} → text ≡ [] → Comment text text
comment_at_end e = subst (λ x. Comment x x) (sym e) text_ends

pub comment_at_line_end : {text ss : List Spot} {s : Spot} → text ≡ s ∷ ss → ends_line s.char ≡ true → Comment text text
comment_at_line_end e h = subst (λ x. Comment x x) (sym e) (line_ends h)

pub comment_more : {text ss rest : List Spot} {s : Spot} → text ≡ s ∷ ss → ends_line s.char ≡ false → Comment ss rest → Comment text rest
comment_more {rest = rest} e h c = subst (λ x. Comment x rest) (sym e) (goes_on h c)

-- pieces
abbrev pub NoPieceAt : TextEnd → List Opening → List Spot → Type 0
NoPieceAt end opened text = (rest : List Spot) → Piece end opened text rest → ⊥

abbrev pub PieceAnswer : Option (Bor (List Spot)) → TextEnd → List Opening → List Spot → Type 0
PieceAnswer o end opened text = MatchOption o (NoPieceAt end opened text) (λ r. Piece end opened text r.now)

pub blank_at : {end : TextEnd} {opened : List Opening} {text ss : List Spot} {s : Spot} → text ≡ s ∷ ss → is_blank s.char ≡ true → Piece end opened text ss
blank_at {end} {opened} {text} {ss} e h = subst (λ x. Piece end opened x ss) (sym e) (blank h)

pub comment_at : {end : TextEnd} {opened : List Opening} {text ss rest : List Spot} {s : Spot} → text ≡ s ∷ ss → s.char ≡ 35 → Comment ss rest → Piece end opened text rest
comment_at {end} {opened} {text} {ss} {rest} e h c = subst (λ x. Piece end opened x rest) (sym e) (comment h c)

no_piece_end : {end : TextEnd} {opened : List Opening} {rest : List Spot} → Piece end opened [] rest → ⊥
no_piece_end (inside l) = none_at_end l

pub no_piece_at_end : {end : TextEnd} {opened : List Opening} {text : List Spot} → text ≡ [] → NoPieceAt end opened text
no_piece_at_end {end} {opened} e rest p = no_piece_end (subst (λ x. Piece end opened x rest) e p)

pub no_backslash : {end : TextEnd} {opened : List Opening} {s : Spot} {ss rest : List Spot} → s.char ≡ 92 → ((r : List Spot) → Stops end ss r → ⊥) → Piece end opened (s ∷ ss) rest → ⊥
no_backslash h n (blank k) = true≢false (sym k ∙ ap is_blank h)
no_backslash h n (comment k c) = omega arith
no_backslash h n (backslash k c) = n _ c
no_backslash h n (inside l) = elim (head_ends l) [ inl m ↦ omega arith | inr m ↦ omega arith ]

pub backslash_of : (o : Option (Bor (List Spot))) (end : TextEnd) (opened : List Opening) (text ss : List Spot) (s : Spot) → text ≡ s ∷ ss → s.char ≡ 92 → StopAnswer o end ss → PieceAnswer o end opened text
backslash_of None end opened text ss s e h a = λ rest p. no_backslash h a (subst (λ x. Piece end opened x rest) e p)
backslash_of (Some r) end opened text ss s e h a = subst (λ x. Piece end opened x r.now) (sym e) (backslash h a)

pub only_inside : {end : TextEnd} {opened : List Opening} {s : Spot} {ss rest : List Spot} → is_blank s.char ≡ false → s.char ≢ 35 → s.char ≢ 92 → Piece end opened (s ∷ ss) rest → (opened ≢ []) × LineEnd (s ∷ ss) rest
only_inside b c d (blank k) = absurd (both_ways _ b k)
only_inside b c d (comment k m) = absurd (c k)
only_inside b c d (backslash k m) = absurd (d k)
only_inside b c d (inside l) = (λ e. some_opened e, l)
  where
    some_opened : {x : Opening} {opened : List Opening} → x ∷ opened ≡ [] → ⊥
    some_opened e = cc

pub no_piece_outside : {end : TextEnd} {opened : List Opening} {text ss : List Spot} {s : Spot} → text ≡ s ∷ ss → is_blank s.char ≡ false → s.char ≢ 35 → s.char ≢ 92 → opened ≡ [] → NoPieceAt end opened text
no_piece_outside {end} {opened} e b c d o rest p = (only_inside b c d (subst (λ x. Piece end opened x rest) e p)).0 o

inside_at : {end : TextEnd} {opened : List Opening} {ss rest : List Spot} → opened ≢ [] → LineEnd ss rest → Piece end opened ss rest
inside_at {opened = []} n l = absurd (n refl)
inside_at {opened = x ∷ opened} n l = inside l

pub inside_of : (o : Option (Bor (List Spot))) (end : TextEnd) (opened : List Opening) (text ss : List Spot) (s : Spot) → text ≡ s ∷ ss → is_blank s.char ≡ false → s.char ≢ 35 → s.char ≢ 92 → opened ≢ []
    → EndAnswer o text → PieceAnswer o end opened text
inside_of None end opened text ss s e b c d n a = λ rest p. a rest (subst (λ x. LineEnd x rest) (sym e) (only_inside b c d (subst (λ x. Piece end opened x rest) e p)).1)
inside_of (Some r) end opened text ss s e b c d n a = inside_at n a

-- gaps
pub gap_more : {end : TextEnd} {n : Nest} {text mid rest : List Spot} → has_words (mode_of n) ≡ true → Gap end n text mid → Piece end (opened_of n) mid rest → Gap end n text rest
gap_more w nothing p = piece w p nothing
gap_more w (piece v q g) p = piece v q (gap_more w g p)

-- no gap stands where the text is not read as words
pub no_piece_in_text : (end : TextEnd) (n : Nest) (text : List Spot) → has_words (mode_of n) ≡ false → NoPiece end n text
no_piece_in_text end n text f = record { none = λ rest w p. both_ways _ f w }

pub no_piece_here : (end : TextEnd) (m : Mode) (opened : List Opening) (text : List Spot) → NoPieceAt end opened text → NoPiece end (nest m opened) text
no_piece_here end m opened text n = record { none = λ rest w p. n rest p }

pub line_end_shorter : {ss rest : List Spot} → LineEnd ss rest → length rest < length ss
line_end_shorter (feed h) = omega arith
line_end_shorter (both h k) = omega arith
line_end_shorter (carriage h k) = omega arith

pub stops_within : {end : TextEnd} {ss rest : List Spot} → Stops end ss rest → length rest ≤ length ss
stops_within (at_line_end l) = let h = line_end_shorter l in omega arith
stops_within (at_text_end w) = omega arith

comment_within : {ss rest : List Spot} → Comment ss rest → length rest ≤ length ss
comment_within text_ends = omega arith
comment_within (line_ends h) = omega arith
comment_within (goes_on h c) = let k = comment_within c in omega arith

pub piece_shorter : {end : TextEnd} {opened : List Opening} {ss rest : List Spot} → Piece end opened ss rest → length rest < length ss
piece_shorter (blank h) = omega arith
piece_shorter (comment h c) = let k = comment_within c in omega arith
piece_shorter (backslash h s) = let k = stops_within s in omega arith
piece_shorter (inside l) = line_end_shorter l

pub not_empty : (text : List Spot) {b : Bool} → b ≡ (length text == 0) → b ≡ false → text ≢ []
not_empty [] e h k = true≢false (sym e ∙ h)
not_empty (s ∷ ss) e h k = cc

nil_of_length : (text : List Spot) → length text ≡ 0 → text ≡ []
nil_of_length [] h = refl
nil_of_length (s ∷ ss) h = absurd (omega arith)

pub is_nil : (text : List Spot) {b : Bool} → b ≡ (length text == 0) → b ≡ true → text ≡ []
is_nil text e h = nil_of_length text (eqb-true (length text) 0 (sym e ∙ h))
