-- Open columns: which of them a line opens, leaves and agrees with.
use Rattle.std.proofs.Common.{◌≡◌, ◌≢◌, ℕ, ◌+◌, ◌≤◌, ◌<◌, List, [], ◌∷◌, ◌++◌, Bool, true, false, refl, sym, ◌∙◌, ap, subst, arith, inl, inr, ◌⊎◌, length, append_assoc, append-nil, drop, get_or, nat_lt, add-one}
use Rattle.std.specs.Prelude.{◌==◌, ◌*◌, ◌/◌, if◌then◌else◌}
use Rattle.std.specs.Bool.{beq}
use Rattle.std.proofs.lemmas.Bool.{and_from, and_left, and_right, lt-ltb, le-ltb, cases_lt}
use Rattle.std.proofs.lemmas.List.{map-append, drop_all}
use Rattle.std.proofs.Math.Seq.{drop-cons}
use Rattle.pt_base.specs.declared.numbers.Line.{Line}
use Rattle.pt_literals.specs.declared.source.Spot.{Spot}
use Rattle.pt_lexer.specs.declared.token.Column.{Column}
use Rattle.pt_literals.specs.declared.token.LexErr.{LexErr}
use Rattle.pt_literals.specs.declared.token.LexErr.TheVariants as fault
use Rattle.pt_literals.specs.declared.token.Token.{Token}
use Rattle.pt_literals.specs.declared.token.TokenKind.{TokenKind}
use Rattle.pt_literals.specs.declared.token.TokenKind.TheVariants as kind
use Rattle.pt_literals.specs.Source.{is_blank}
use Rattle.pt_lexer.specs.Lines.{behind_blank, column_from, compares_alike, agrees, Back, there, further, Turn, deeper, level, marks}
use Rattle.pt_lexer.specs.Columns.{AreRising, Indented}
use Rattle.pt_lexer.specs.Faults.{Misplaced, off, mixed, too_deep, number_of, IsMisplaced}

-- the column of a line
column_step : (s : Spot) (ss : List Spot) (k : Column) → is_blank s.char ≡ true → column_from k (s ∷ ss) ≡ column_from (behind_blank k s.char) ss
column_step s ss k b = ap (λ x. if x then column_from (behind_blank k s.char) ss else k) b

column_stop : (s : Spot) (ss : List Spot) (k : Column) → is_blank s.char ≡ false → column_from k (s ∷ ss) ≡ k
column_stop s ss k b = ap (λ x. if x then column_from (behind_blank k s.char) ss else k) b

split_at : (text : List Spot) (i : ℕ) (d : Spot) → i < length text → drop i text ≡ get_or text i d ∷ drop (i + 1) text
split_at text i d h = drop-cons text i d h ∙ ap (λ j. get_or text i d ∷ drop j text) (sym (add-one i))

pub column_goes_on : (text : List Spot) (i : ℕ) (d : Spot) (k : Column) → i < length text → is_blank (get_or text i d).char ≡ true
    → column_from k (drop i text) ≡ column_from (behind_blank k (get_or text i d).char) (drop (i + 1) text)
column_goes_on text i d k h b = ap (column_from k) (split_at text i d h) ∙ column_step (get_or text i d) (drop (i + 1) text) k b

pub column_stops : (text : List Spot) (i : ℕ) (d : Spot) (k : Column) → i < length text → is_blank (get_or text i d).char ≡ false → column_from k (drop i text) ≡ k
column_stops text i d k h b = ap (column_from k) (split_at text i d h) ∙ column_stop (get_or text i d) (drop (i + 1) text) k b

pub column_ends : (text : List Spot) (i : ℕ) (k : Column) → length text ≤ i → column_from k (drop i text) ≡ k
column_ends text i k h = ap (column_from k) (drop_all i text h)

-- no blank moves a column by more than eight
pub behind_near : (k : Column) (c : ℕ) → ((behind_blank k c).wide ≤ k.wide + 8) × ((behind_blank k c).narrow ≤ k.narrow + 1)
behind_near k c = go (c == 32) (c == 9)
  where
    go : (a b : Bool) → ((if a then record { wide = k.wide + 1; narrow = k.narrow + 1 } else if b then record { wide = (k.wide / 8 + 1) * 8; narrow = k.narrow + 1 } else k).wide ≤ k.wide + 8)
        × ((if a then record { wide = k.wide + 1; narrow = k.narrow + 1 } else if b then record { wide = (k.wide / 8 + 1) * 8; narrow = k.narrow + 1 } else k).narrow ≤ k.narrow + 1)
    go true b = (omega arith, omega arith)
    go false true = (omega arith, omega arith)
    go false false = (omega arith, omega arith)

-- comparisons
alike_below : (k l : Column) → k.wide < l.wide → k.narrow < l.narrow → compares_alike k l ≡ true
alike_below k l h n = rw (lt-ltb k.wide l.wide h, lt-ltb k.narrow l.narrow n, le-ltb l.wide k.wide (omega arith), le-ltb l.narrow k.narrow (omega arith)) refl

alike_above : (k l : Column) → l.wide < k.wide → l.narrow < k.narrow → compares_alike k l ≡ true
alike_above k l h n = rw (lt-ltb l.wide k.wide h, lt-ltb l.narrow k.narrow n, le-ltb k.wide l.wide (omega arith), le-ltb k.narrow l.narrow (omega arith)) refl

alike_at : (k l : Column) → k.wide ≡ l.wide → k.narrow ≡ l.narrow → compares_alike k l ≡ true
alike_at k l h n = rw (le-ltb k.wide l.wide (omega arith), le-ltb k.narrow l.narrow (omega arith), le-ltb l.wide k.wide (omega arith), le-ltb l.narrow k.narrow (omega arith)) refl

above_agrees : (f k : Column) (cols : List Column) → AreRising (f ∷ cols) → f.wide ≤ k.wide → f.narrow ≤ k.narrow → agrees k cols ≡ true
above_agrees f k [] r h n = refl
above_agrees f k (l ∷ cols) r h n = and_from (compares_alike k l) _ (alike_above k l (omega (arith, r.0)) (omega (arith, r.1))) (above_agrees l k cols r.2 (omega (arith, r.0)) (omega (arith, r.1)))

unlike_above : (k f : Column) → f.wide < k.wide → k.narrow ≤ f.narrow → compares_alike k f ≡ false
unlike_above k f h n =
    and_right (beq (nat_lt k.wide f.wide) (nat_lt k.narrow f.narrow)) (beq (nat_lt f.wide k.wide) (nat_lt f.narrow k.narrow)) (rw (lt-ltb f.wide k.wide h, le-ltb f.narrow k.narrow n) refl)

-- a block is opened
pub opened_block : (f k : Column) (cols now : List Column) (at : ℕ) (line : Line) (before after : List Token) → AreRising (f ∷ cols) → f.wide < k.wide → f.narrow < k.narrow
    → now ≡ f ∷ cols → after ≡ before ++ record { kind = kind.Indent; at = at; line = line } ∷ [] → Indented (f ∷ cols) (k ∷ now) k at line before after
opened_block f k cols now at line before after r h n is e = subst (λ x. Indented (f ∷ cols) (k ∷ x) k at line before after) (sym is) (record {
  kinds = kind.Indent ∷ [];
  kept = e;
  turns = deeper h;
  agreed = and_from (compares_alike k f) _ (alike_above k f h n) (above_agrees f k cols r (omega arith) (omega arith));
  rising = (h, n, r);
})

pub first_off : (cols : List Column) (k : Column) (line : Line) → ((after : List Column) (ks : List TokenKind) → Turn cols k after ks → ⊥) → IsMisplaced cols k line (fault.BadIndent line)
first_off cols k line n = record { wrong = off n; small = omega arith; least = λ f m. other f m }
  where
    other : (f : LexErr) → Misplaced cols k line f → (2 < number_of f) ⊎ (fault.BadIndent line ≡ f)
    other f (off m) = inr refl
    other f (mixed a) = inl (omega arith)
    other f (too_deep t h) = inl (omega arith)

pub first_mixed : (cols after : List Column) (k : Column) (line : Line) (ks : List TokenKind) → agrees k cols ≡ false → Turn cols k after ks → IsMisplaced cols k line (fault.MixedTabs line)
first_mixed cols after k line ks a t = record { wrong = mixed a; small = omega arith; least = λ f m. other f m }
  where
    other : (f : LexErr) → Misplaced cols k line f → (3 < number_of f) ⊎ (fault.MixedTabs line ≡ f)
    other f (off n) = absurd (n after ks t)
    other f (mixed b) = inr refl
    other f (too_deep u h) = inl (omega arith)

pub mixed_deeper : (f k : Column) (cols : List Column) (line : Line) → f.wide < k.wide → k.narrow ≤ f.narrow → IsMisplaced (f ∷ cols) k line (fault.MixedTabs line)
mixed_deeper f k cols line h n = first_mixed (f ∷ cols) (k ∷ (f ∷ cols)) k line (kind.Indent ∷ []) (and_left (compares_alike k f) _ (unlike_above k f h n)) (deeper h)

-- So many columns that lie further in have been left.
pub data Left (k : Column) (cols : List Column) : List Column → List TokenKind → Type 0 where
  none_left : Left k cols cols []
  one_left : {t : Column} {now : List Column} {ks : List TokenKind} → Left k cols (t ∷ now) ks → k.wide < t.wide → Left k cols now (ks ++ kind.Dedent ∷ [])

left_back : {k : Column} {cols now after : List Column} {ks ls : List TokenKind} → Left k cols now ks → Back now k after ls → Back cols k after (ks ++ ls)
left_back none_left b = b
left_back {k = k} {cols = cols} {after = after} {ls = ls} (one_left {ks = ks} l h) b = subst (Back cols k after) (sym (append_assoc ks (kind.Dedent ∷ []) ls)) (left_back l (further h b))

abbrev pub NoBack : List Column → Column → Type 0
NoBack cols k = (after : List Column) (ks : List TokenKind) → Back cols k after ks → ⊥

pub no_back_above : {t k : Column} {now after : List Column} {ks : List TokenKind} → k.wide < t.wide → NoBack now k → Back (t ∷ now) k after ks → ⊥
no_back_above h n (there e) = omega arith
no_back_above h n (further e b) = n _ _ b

left_no_back : {k : Column} {cols now : List Column} {ks : List TokenKind} → Left k cols now ks → NoBack now k → NoBack cols k
left_no_back none_left n = n
left_no_back (one_left l h) n = left_no_back l (λ after ks b. no_back_above h n b)

left_disagrees : {k : Column} {cols now : List Column} {ks : List TokenKind} → Left k cols now ks → agrees k now ≡ false → agrees k cols ≡ false
left_disagrees none_left n = n
left_disagrees {k = k} (one_left {t = t} l h) n = left_disagrees l (and_right (compares_alike k t) _ n)

rising_rest : (t : Column) (cols : List Column) → AreRising (t ∷ cols) → AreRising cols
rising_rest t [] r = tt
rising_rest t (l ∷ cols) r = r.2

left_rising : {k : Column} {cols now : List Column} {ks : List TokenKind} → Left k cols now ks → AreRising cols → AreRising now
left_rising none_left r = r
left_rising (one_left l h) r = rising_rest _ _ (left_rising l r)

-- a column that lies no further in than the innermost of these
abbrev IsWithin : Column → List Column → Type 0
IsWithin k [] = ⊥
IsWithin k (f ∷ cols) = k.narrow ≤ f.narrow

within_below : (t k : Column) (now : List Column) → AreRising (t ∷ now) → IsWithin k now → k.narrow < t.narrow
within_below t k [] r w = absurd w
within_below t k (f ∷ now) r w = omega (arith, r.1)

left_agrees : {k : Column} {cols now : List Column} {ks : List TokenKind} → Left k cols now ks → AreRising cols → IsWithin k now → agrees k now ≡ true → agrees k cols ≡ true
left_agrees none_left r w a = a
left_agrees {k = k} (one_left {t = t} {now = now} l h) r w a =
    let below : k.narrow < t.narrow = within_below t k now (left_rising l r) w in
    left_agrees l r (omega arith) (and_from (compares_alike k t) _ (alike_below k t h below) a)

-- a line stands at an open column
pub closed_blocks : (f k : Column) (cols rest : List Column) (ks : List TokenKind) (at : ℕ) (line : Line) (before after : List Token) → Left k cols (f ∷ rest) ks → AreRising cols → k.wide ≡ f.wide → k.narrow ≡ f.narrow
    → after ≡ before ++ marks at line ks → Indented cols (f ∷ rest) k at line before after
closed_blocks f k cols rest ks at line before after l r h n e = record {
  kinds = ks;
  kept = e;
  turns = level (subst (Back cols k (f ∷ rest)) (append-nil ks) (left_back l (there h)));
  agreed = left_agrees l r (omega arith) (and_from (compares_alike k f) _ (alike_at k f h n) (above_agrees f k rest (left_rising l r) (omega arith) (omega arith)));
  rising = left_rising l r;
}

pub no_turn : {f k : Column} {cols : List Column} → k.wide ≤ f.wide → NoBack (f ∷ cols) k → (after : List Column) (ks : List TokenKind) → Turn (f ∷ cols) k after ks → ⊥
no_turn h n after ks (deeper e) = omega arith
no_turn h n after ks (level b) = n after ks b

no_back_out : {t k : Column} {after : List Column} {ks : List TokenKind} → k.wide < t.wide → Back (t ∷ []) k after ks → ⊥
no_back_out h (there e) = omega arith
no_back_out h (further e b) = elim b [ ]

pub no_back_at : {t k : Column} {now after : List Column} {ks : List TokenKind} → t.wide < k.wide → Back (t ∷ now) k after ks → ⊥
no_back_at h (there e) = omega arith
no_back_at h (further e b) = omega arith

-- a line stands at no open column: it is further out than all, or between two
pub misplaced_out : (g f k : Column) (cols : List Column) (rest : List Column) (ks : List TokenKind) (line : Line) → k.wide ≤ g.wide → Left k (g ∷ cols) (f ∷ rest) ks → rest ≡ [] → k.wide < f.wide
    → IsMisplaced (g ∷ cols) k line (fault.BadIndent line)
misplaced_out g f k cols rest ks line w l e h = first_off (g ∷ cols) k line (no_turn w (left_no_back l (λ after ks b. no_back_out h (subst (λ x. Back (f ∷ x) k after ks) e b))))

pub misplaced_between : (g f k : Column) (cols rest : List Column) (ks : List TokenKind) (line : Line) → k.wide ≤ g.wide → Left k (g ∷ cols) (f ∷ rest) ks → f.wide ≤ k.wide → k.wide ≢ f.wide
    → IsMisplaced (g ∷ cols) k line (fault.BadIndent line)
misplaced_between g f k cols rest ks line w l h n = first_off (g ∷ cols) k line (no_turn w (left_no_back l (λ after ks b. no_back_at (omega arith) b)))

differs_at : (k f : Column) → k.wide ≡ f.wide → k.narrow ≢ f.narrow → compares_alike k f ≡ false
differs_at k f h n = go (lt_or_gt k.narrow f.narrow n)
  where
    lt_or_gt : (a b : ℕ) → a ≢ b → (a < b) ⊎ (b < a)
    lt_or_gt a b n = elim (cases_lt a b) [ inl h ↦ inl h | inr h ↦ inr (omega arith) ]

    go : (k.narrow < f.narrow) ⊎ (f.narrow < k.narrow) → compares_alike k f ≡ false
    go (inl lt) = rw (le-ltb k.wide f.wide (omega arith), lt-ltb k.narrow f.narrow lt) refl
    go (inr lt) =
        and_right (beq (nat_lt k.wide f.wide) (nat_lt k.narrow f.narrow)) (beq (nat_lt f.wide k.wide) (nat_lt f.narrow k.narrow))
        (rw (le-ltb f.wide k.wide (omega arith), lt-ltb f.narrow k.narrow lt) refl)

pub mixed_level : (f k : Column) (cols rest : List Column) (ks : List TokenKind) (line : Line) → Left k cols (f ∷ rest) ks → k.wide ≡ f.wide → k.narrow ≢ f.narrow → IsMisplaced cols k line (fault.MixedTabs line)
mixed_level f k cols rest ks line l h n =
    first_mixed cols (f ∷ rest) k line (ks ++ []) (left_disagrees l (and_left (compares_alike k f) _ (differs_at k f h n))) (level (left_back l (there h)))

pub more_marks : (at : ℕ) (line : Line) (ks : List TokenKind) (before old new : List Token) → old ≡ before ++ marks at line ks → new ≡ old ++ record { kind = kind.Dedent; at = at; line = line } ∷ []
    → new ≡ before ++ marks at line (ks ++ kind.Dedent ∷ [])
more_marks at line ks before old new e f = rw (f, e, map-append, append_assoc) refl

pub left_more : (k t f : Column) (cols now rest : List Column) (ks : List TokenKind) → Left k cols (t ∷ now) ks → now ≡ f ∷ rest → k.wide < t.wide → Left k cols (f ∷ rest) (ks ++ kind.Dedent ∷ [])
left_more k t f cols now rest ks l e h = one_left (subst (λ x. Left k cols (t ∷ x) ks) e l) h

pub nothing_left : (k : Column) (cols : List Column) (at : ℕ) (line : Line) (before : List Token) → (ks : List TokenKind) × Left k cols cols ks × (before ≡ before ++ marks at line ks)
nothing_left k cols at line before = ([], none_left, sym (append-nil before))
