-- The lines of a file of commands.
use Rattle.std.proofs.Common.{◌≡◌, ◌<◌, ◌==◌, ◌∙◌, ◌+◌, ◌-◌, ◌++◌, ℕ, suc, Bool, true, false, cond, not, List, [], ◌∷◌, length, take, drop, refl, sym, ap, subst, append_assoc, length-drop, arith}
use Rattle.std.specs.List.{slice_split, onto_first, position_or_len, before_first, after_first}
use Rattle.std.specs.Str.Lines.{lines, lines_of_parts, strip_carriage_return}
use Rattle.std.proofs.lemmas.Bool.{ne_eqb}
use Rattle.std.proofs.lemmas.List.{take_all}
use Rattle.std.proofs.lemmas.List.Splits.{slice_split_first}

abbrev pub is_feed : ℕ → Bool
is_feed b = b == 10

-- a part behind which another stands
before_more : (x : List ℕ) (p : ℕ → Bool) (ys : List ℕ) → lines_of_parts (x ∷ slice_split p ys) ≡ strip_carriage_return x ∷ lines_of_parts (slice_split p ys)
before_more x p [] = refl
before_more x p (y ∷ ys) = by (p y) (slice_split p ys)
  where
    by : (b : Bool) (parts : List (List ℕ))
        → lines_of_parts (x ∷ cond b ([] ∷ parts) (onto_first y parts)) ≡ strip_carriage_return x ∷ lines_of_parts (cond b ([] ∷ parts) (onto_first y parts))
    by true parts = refl
    by false [] = refl
    by false (part ∷ parts) = refl

-- the first line, where it has an end
one_line : (bytes : List ℕ) → position_or_len is_feed bytes < length bytes
    → lines bytes ≡ strip_carriage_return (take (position_or_len is_feed bytes) bytes) ∷ lines (drop (position_or_len is_feed bytes + 1) bytes)
one_line bytes h = ap lines_of_parts (slice_split_first is_feed bytes 0 h) ∙ before_more (before_first is_feed bytes) is_feed (after_first is_feed bytes)

one_part : (bytes : List ℕ) → position_or_len is_feed bytes ≡ length bytes → slice_split is_feed bytes ≡ bytes ∷ []
one_part [] h = refl
one_part (b ∷ bs) h = by (one_part bs) (is_feed b) h
  where
    by : (position_or_len is_feed bs ≡ length bs → slice_split is_feed bs ≡ bs ∷ []) → (t : Bool) → cond (not t) (1 + position_or_len is_feed bs) 0 ≡ length (b ∷ bs) → cond t ([] ∷ slice_split is_feed bs) (onto_first b (slice_split is_feed bs)) ≡ (b ∷ bs) ∷ []
    by rest true h = absurd (omega arith)
    by rest false h = ap (onto_first b) (rest (omega arith))

cut_line : (rest : List ℕ) (at : ℕ) → at ≡ position_or_len is_feed rest → at < length rest
    → strip_carriage_return (take at rest) ∷ lines (drop (at + 1) rest) ≡ lines rest
cut_line rest at is within =
    let P : ℕ → Type 0 = λ k. strip_carriage_return (take k rest) ∷ lines (drop (k + 1) rest) ≡ lines rest in
    subst P (sym is) (sym (one_line rest (subst (λ k. k < length rest) is within)))

all_behind : (xs : List ℕ) (k : ℕ) → take (length xs - k) (drop k xs) ≡ drop k xs
all_behind xs k = take_all (length xs - k) (drop k xs) (omega (arith, length-drop k xs))

-- a line more, by what is left
pub next_line : (all ls new : List (List ℕ)) (rest line : List ℕ) (at : ℕ) → ls ++ lines rest ≡ all → at ≡ position_or_len is_feed rest → at < length rest
    → line ≡ strip_carriage_return (take at rest) → new ≡ ls ++ line ∷ [] → new ++ lines (take (length rest - (at + 1)) (drop (at + 1) rest)) ≡ all
next_line all ls new rest line at before is within cut pushed =
    ap (λ xs. new ++ lines xs) (all_behind rest (at + 1))
    ∙ ap (λ xs. xs ++ lines (drop (at + 1) rest)) pushed
    ∙ append_assoc ls (line ∷ []) (lines (drop (at + 1) rest))
    ∙ ap (λ l. ls ++ l ∷ lines (drop (at + 1) rest)) cut
    ∙ ap (λ xs. ls ++ xs) (cut_line rest at is within) ∙ before

-- behind the last line feed: a line where something stands there
pub last_line : (rest : List ℕ) → position_or_len is_feed rest ≡ length rest → 0 < length rest → lines rest ≡ rest ∷ []
last_line [] none some = absurd (omega arith)
last_line (b ∷ bs) none some =
    ap lines_of_parts (one_part (b ∷ bs) none)
    ∙ ap (λ (t : Bool). cond {A = List (List ℕ)} t [] ((b ∷ bs) ∷ [])) (ne_eqb (suc (length bs)) 0 (λ e. absurd (omega arith)))

pub no_line : (rest : List ℕ) → length rest ≡ 0 → lines rest ≡ []
no_line [] none = refl
no_line (b ∷ bs) none = absurd (omega arith)

pub ruleset file_lines = (last_line, no_line)
