-- The part at the front of a text, and where a text may be cut.
use Rattle.std.proofs.Common.{◌∙◌, ◌++◌, ◌≡◌, ◌≢◌, ◌+◌, ◌<◌, ◌≤◌, ◌==◌, ◌||◌, ◌⊎◌, inl, inr, ℕ, zero, suc, Bool, true, false, not, cond, List, [], ◌∷◌, length, take, drop, get_or, reverse, ◌-◌, refl, sym, ap, subst, add-one, arith}
use Rattle.std.proofs.lemmas.Bool.{eqb-true}
use Rattle.std.proofs.lemmas.Str.{IsCharBoundary-start, IsCharBoundary-after_ascii, IsCharBoundary-before_ascii}
use Rattle.std.specs.Str.{IsUtf8, IsCharBoundary}
use Rattle.pt_literals.specs.Source.{is_blank}
use Rattle.std.proofs.lemmas.List.{get_or-reverse, length-drop, length-reverse, reverse-append, reverse-reverse}
use Rattle.pt_strs.specs.Strip.{front, without_end, without_front}
use Rattle.pt_strs.proofs.StripLemmas.{front-rest}
use Rattle.pt_commands.specs.declared.parts.Part.{Part}
use Rattle.pt_commands.specs.declared.parts.Part.TheVariants.{Blanks, Word, Item}
use Rattle.pt_commands.specs.Parts.{is_in, part_len}

pub take_part : (p : ℕ → Bool) (xs : List ℕ) → take (part_len p xs) xs ≡ front p xs
take_part p [] = refl
take_part p (c ∷ cs) = by (p c) (take_part p cs)
  where
    by : (b : Bool) → take (part_len p cs) cs ≡ front p cs → take (cond b (suc (part_len p cs)) 0) (c ∷ cs) ≡ cond b (c ∷ front p cs) []
    by true ih = ap (λ ds. c ∷ ds) ih
    by false ih = refl

pub drop_part : (p : ℕ → Bool) (xs : List ℕ) → drop (part_len p xs) xs ≡ without_front p xs
drop_part p [] = refl
drop_part p (c ∷ cs) = by (p c) (drop_part p cs)
  where
    by : (b : Bool) → drop (part_len p cs) cs ≡ without_front p cs
        → drop (cond b (suc (part_len p cs)) 0) (c ∷ cs) ≡ cond b (without_front p cs) (c ∷ cs)
    by true ih = ih
    by false ih = refl

part_within : (p : ℕ → Bool) (xs : List ℕ) → part_len p xs ≤ length xs
part_within p [] = omega arith
part_within p (c ∷ cs) = by (p c) (part_within p cs)
  where
    by : (b : Bool) → part_len p cs ≤ length cs → cond b (suc (part_len p cs)) 0 ≤ suc (length cs)
    by true ih = omega arith
    by false ih = omega arith

-- what stands behind the part doesn't belong to it
part_stops : (p : ℕ → Bool) (xs : List ℕ) → part_len p xs < length xs → p (get_or xs (part_len p xs) 0) ≡ false
part_stops p [] within = absurd (omega arith)
part_stops p (c ∷ cs) within = by (p c) refl (part_stops p cs) within
  where
    by : (b : Bool) → p c ≡ b → (part_len p cs < length cs → p (get_or cs (part_len p cs) 0) ≡ false)
        → cond b (suc (part_len p cs)) 0 < suc (length cs) → p (get_or (c ∷ cs) (cond b (suc (part_len p cs)) 0) 0) ≡ false
    by true e ih h = ih (omega arith)
    by false e ih h = e

-- what stands in it does
part_passes : (p : ℕ → Bool) (xs : List ℕ) (k : ℕ) → k < part_len p xs → p (get_or xs k 0) ≡ true
part_passes p [] k within = absurd (omega arith)
part_passes p (c ∷ cs) k within = by (p c) refl (part_passes p cs) k within
  where
    by : (b : Bool) → p c ≡ b → ((i : ℕ) → i < part_len p cs → p (get_or cs i 0) ≡ true)
        → (i : ℕ) → i < cond b (suc (part_len p cs)) 0 → p (get_or (c ∷ cs) i 0) ≡ true
    by true e ih zero h = e
    by true e ih (suc i) h = ih i (omega arith)
    by false e ih i h = absurd (omega arith)

either : (a b : Bool) → (a || b) ≡ true → (a ≡ true) ⊎ (b ≡ true)
either true b e = inl refl
either false b e = inr e

blank_ascii : (c : ℕ) → is_blank c ≡ true → c < 128
blank_ascii c e = first (either (c == 32) ((c == 9) || (c == 12)) e)
  where
    small : (n : ℕ) → n < 128 → (c == n) ≡ true → c < 128
    small n h is = let same : c ≡ n = eqb-true c n is in omega arith

    second : ((c == 9) ≡ true) ⊎ ((c == 12) ≡ true) → c < 128
    second (inl is) = small 9 (omega arith) is
    second (inr is) = small 12 (omega arith) is

    first : ((c == 32) ≡ true) ⊎ (((c == 9) || (c == 12)) ≡ true) → c < 128
    first (inl is) = small 32 (omega arith) is
    first (inr is) = second (either (c == 9) (c == 12) is)

is_not : (b : Bool) → not b ≡ false → b ≡ true
is_not true e = refl
is_not false e = absurd cc

comma_is : (c : ℕ) → is_in Item c ≡ false → c ≡ 44
comma_is c e = eqb-true c 44 (is_not (c == 44) e)

behind_ascii : (xs : List ℕ) (n : ℕ) → n ≤ length xs → (n < length xs → get_or xs n 0 < 128) → IsCharBoundary xs n
behind_ascii xs n within ascii = (within, λ h. (IsCharBoundary-before_ascii xs n h (ascii h)).1 h)

boundary : (part : Part) (xs : List ℕ) → IsUtf8 xs → IsCharBoundary xs (part_len (is_in part) xs)
boundary Blanks xs u = at (part_len (is_in Blanks) xs) refl
  where
    at : (n : ℕ) → part_len (is_in Blanks) xs ≡ n → IsCharBoundary xs n
    at zero e = IsCharBoundary-start xs u
    at (suc n) e =
        let within = part_within (is_in Blanks) xs in
        let inside : n < part_len (is_in Blanks) xs = omega arith in
        let blank = blank_ascii (get_or xs n 0) (part_passes (is_in Blanks) xs n inside) in
        subst (λ k. IsCharBoundary xs k) (add-one n) (IsCharBoundary-after_ascii xs n u (omega arith) blank)
boundary Word xs u =
    behind_ascii xs (part_len (is_in Word) xs) (part_within (is_in Word) xs)
    (λ h. blank_ascii (get_or xs (part_len (is_in Word) xs) 0)
    (is_not (is_blank (get_or xs (part_len (is_in Word) xs) 0)) (part_stops (is_in Word) xs h)))
boundary Item xs u =
    behind_ascii xs (part_len (is_in Item) xs) (part_within (is_in Item) xs)
    (λ h. let same = comma_is (get_or xs (part_len (is_in Item) xs) 0) (part_stops (is_in Item) xs h) in omega arith)

-- a text may be cut behind such a part
pub cut_boundary : (part : Part) (text bytes : List ℕ) (n : ℕ) → bytes ≡ text → IsUtf8 bytes → n ≡ part_len (is_in part) bytes → IsCharBoundary text n
cut_boundary part text bytes n same u is =
    subst (λ t. IsCharBoundary t n) same (subst (λ k. IsCharBoundary bytes k) (sym is) (boundary part bytes u))

-- what stands behind an item begins with a comma, if anything stands there
pub no_comma : (xs : List ℕ) → ((rest : List ℕ) → without_front (is_in Item) xs ≢ 44 ∷ rest) → without_front (is_in Item) xs ≡ []
no_comma [] h = refl
no_comma (c ∷ cs) h = by (is_in Item c) refl (no_comma cs) h
  where
    by : (b : Bool) → is_in Item c ≡ b → (((rest : List ℕ) → without_front (is_in Item) cs ≢ 44 ∷ rest) → without_front (is_in Item) cs ≡ [])
        → ((rest : List ℕ) → cond b (without_front (is_in Item) cs) (c ∷ cs) ≢ 44 ∷ rest)
        → cond b (without_front (is_in Item) cs) (c ∷ cs) ≡ []
    by true e ih h = ih h
    by false e ih h = absurd (h cs (ap (λ d. d ∷ cs) (comma_is c e)))

-- what is cut off, by where a text is cut
pub cut_front : (p : ℕ → Bool) (text bytes x : List ℕ) (n : ℕ) → bytes ≡ text → n ≡ part_len p bytes → x ≡ take n text → x ≡ front p text
cut_front p text bytes x n same is e = e ∙ ap (λ k. take k text) (is ∙ ap (part_len p) same) ∙ take_part p text

pub cut_behind : (p : ℕ → Bool) (text bytes x : List ℕ) (n : ℕ) → bytes ≡ text → n ≡ part_len p bytes → x ≡ drop n text → x ≡ without_front p text
cut_behind p text bytes x n same is e = e ∙ ap (λ k. drop k text) (is ∙ ap (part_len p) same) ∙ drop_part p text

pub take_before : (xs ys : List ℕ) → take (length xs) (xs ++ ys) ≡ xs
take_before [] ys = refl
take_before (x ∷ xs) ys = ap (λ zs. x ∷ zs) (take_before xs ys)

-- a text is what stays of it and the blanks behind that
end_parts : (xs : List ℕ) → xs ≡ without_end is_blank xs ++ reverse (front is_blank (reverse xs))
end_parts xs =
    sym (reverse-reverse xs) ∙ ap (λ (ys : List ℕ). reverse ys) (sym (front-rest is_blank (reverse xs)))
    ∙ reverse-append (front is_blank (reverse xs)) (without_front is_blank (reverse xs))

take_end : (xs : List ℕ) → take (length (without_end is_blank xs)) xs ≡ without_end is_blank xs
take_end xs =
    ap (λ ys. take (length (without_end is_blank xs)) ys) (end_parts xs) ∙ take_before (without_end is_blank xs) (reverse (front is_blank (reverse xs)))

end_length : (xs : List ℕ) → length (without_end is_blank xs) + part_len is_blank (reverse xs) ≡ length xs
end_length xs =
    let kept : length (without_end is_blank xs) ≡ length (without_front is_blank (reverse xs)) = length-reverse (without_front is_blank (reverse xs)) in
    let dropped : length (drop (part_len is_blank (reverse xs)) (reverse xs)) ≡ length (without_front is_blank (reverse xs)) =
    ap length (drop_part is_blank (reverse xs)) in
    let short : length (drop (part_len is_blank (reverse xs)) (reverse xs)) ≡ length (reverse xs) - part_len is_blank (reverse xs) =
    length-drop (part_len is_blank (reverse xs)) (reverse xs) in
    let within : part_len is_blank (reverse xs) ≤ length (reverse xs) = part_within is_blank (reverse xs) in
    let same : length (reverse xs) ≡ length xs = length-reverse xs in
    omega arith

end_ascii : (xs : List ℕ) → length (without_end is_blank xs) < length xs → get_or xs (length (without_end is_blank xs)) 0 < 128
end_ascii xs h =
    let sum : length (without_end is_blank xs) + part_len is_blank (reverse xs) ≡ length xs = end_length xs in
    let same : length (reverse xs) ≡ length xs = length-reverse xs in
    let inside : length (reverse xs) - 1 - length (without_end is_blank xs) < part_len is_blank (reverse xs) = omega arith in
    let within : length (without_end is_blank xs) < length (reverse xs) = omega arith in
    let is : get_or xs (length (without_end is_blank xs)) 0 ≡ get_or (reverse xs) (length (reverse xs) - 1 - length (without_end is_blank xs)) 0 =
    sym (ap (λ (ys : List ℕ). get_or ys (length (without_end is_blank xs)) 0) (reverse-reverse xs))
    ∙ get_or-reverse (reverse xs) (length (without_end is_blank xs)) 0 within in
    let low : get_or (reverse xs) (length (reverse xs) - 1 - length (without_end is_blank xs)) 0 < 128 =
    blank_ascii (get_or (reverse xs) (length (reverse xs) - 1 - length (without_end is_blank xs)) 0)
    (part_passes is_blank (reverse xs) (length (reverse xs) - 1 - length (without_end is_blank xs)) inside) in
    subst (λ c. c < 128) (sym is) low

-- before the blanks behind it a text may be cut
pub cut_end_boundary : (text bytes : List ℕ) (n : ℕ) → bytes ≡ text → n ≡ length (without_end is_blank bytes) → IsCharBoundary text n
cut_end_boundary text bytes n same is =
    let sum : length (without_end is_blank bytes) + part_len is_blank (reverse bytes) ≡ length bytes = end_length bytes in
    let cut : IsCharBoundary bytes (length (without_end is_blank bytes)) =
    behind_ascii bytes (length (without_end is_blank bytes)) (omega arith) (end_ascii bytes) in
    subst (λ t. IsCharBoundary t n) same (subst (λ k. IsCharBoundary bytes k) (sym is) cut)

pub cut_end_kept : (text bytes x : List ℕ) (n : ℕ) → bytes ≡ text → n ≡ length (without_end is_blank bytes) → x ≡ take n text → x ≡ without_end is_blank text
cut_end_kept text bytes x n same is e =
    e ∙ ap (λ k. take k text) (is ∙ ap (λ (t : List ℕ). length (without_end is_blank t)) same) ∙ take_end text
