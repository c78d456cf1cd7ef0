-- What the log's line of an event tells: its kind and the name of its block.
use Rattle.std.proofs.Common.{◌≡◌, ◌+◌, ◌≤◌, ◌∙◌, ◌/◌, ◌%◌, ◌==◌, ℕ, zero, suc, Bool, true, false, not, cond, List, [], ◌∷◌, ◌++◌, take, drop, refl, sym, ap, inl, inr, arith, one-add, append_assoc, eqb-true}
use Rattle.std.specs.Prelude.{codes, nat_lt, if◌then◌else◌}
use Rattle.std.specs.List.{position_or_len, before_first, after_first, AllByRecursion}
use Rattle.std.specs.Fmt.{decimal, digits, digits_onto, digit_glyph}
use Rattle.std.proofs.lemmas.Bool.{cases_Bool}
use Rattle.pt_cover.specs.Pieces.{Text, is_blank, is_line_end, told_line, kind_named, kind_of, is_line, name_of}
use Rattle.law_reports.specs.Named.{IsOneLine}

abbrev Fails : (ℕ → Bool) → List ℕ → Type 0
Fails p xs = AllByRecursion (λ c. p c ≡ false) xs

fails-both : (p : ℕ → Bool) (xs ys : List ℕ) → Fails p xs → Fails p ys → Fails p (xs ++ ys)
fails-both p [] ys f g = g
fails-both p (x ∷ xs) ys f g = (f.0, fails-both p xs ys f.1 g)

-- what stands before and behind the first that passes
abbrev place : (ℕ → Bool) → List ℕ → Bool → ℕ
place p ys b = cond (not b) (1 + position_or_len p ys) 0

before-found : (p : ℕ → Bool) (xs : List ℕ) (c : ℕ) (ys : List ℕ) → Fails p xs → p c ≡ true → before_first p (xs ++ c ∷ ys) ≡ xs
before-found p [] c ys f e = ap (λ b. take (place p ys b) (c ∷ ys)) e
before-found p (x ∷ xs) c ys f e =
    ap (λ b. take (place p (xs ++ c ∷ ys) b) (x ∷ (xs ++ c ∷ ys))) f.0
    ∙ ap (λ k. take k (x ∷ (xs ++ c ∷ ys))) (one-add (position_or_len p (xs ++ c ∷ ys))) ∙ ap (λ zs. x ∷ zs) (before-found p xs c ys f.1 e)

after-found : (p : ℕ → Bool) (xs : List ℕ) (c : ℕ) (ys : List ℕ) → Fails p xs → p c ≡ true → after_first p (xs ++ c ∷ ys) ≡ ys
after-found p [] c ys f e = ap (λ b. drop (place p ys b + 1) (c ∷ ys)) e
after-found p (x ∷ xs) c ys f e =
    let n = position_or_len p (xs ++ c ∷ ys) in
    let more : (1 + n) + 1 ≡ suc (n + 1) = omega arith in
    ap (λ b. drop (place p (xs ++ c ∷ ys) b + 1) (x ∷ (xs ++ c ∷ ys))) f.0
    ∙ ap (λ k. drop k (x ∷ (xs ++ c ∷ ys))) more ∙ after-found p xs c ys f.1 e

before-over : (p : ℕ → Bool) (xs ys : List ℕ) → Fails p xs → before_first p (xs ++ ys) ≡ xs ++ before_first p ys
before-over p [] ys f = refl
before-over p (x ∷ xs) ys f =
    ap (λ b. take (place p (xs ++ ys) b) (x ∷ (xs ++ ys))) f.0
    ∙ ap (λ k. take k (x ∷ (xs ++ ys))) (one-add (position_or_len p (xs ++ ys))) ∙ ap (λ zs. x ∷ zs) (before-over p xs ys f.1)

-- the word before the first blank is the kind, whatever comes behind that
kind-word : (word rest : Text) → Fails is_line_end word → Fails is_blank word → kind_of (word ++ 32 ∷ rest) ≡ kind_named word
kind-word word rest ends blanks =
    ap (λ x. kind_named (before_first is_blank x)) (before-over is_line_end word (32 ∷ rest) ends ∙ ap (λ x. word ++ x) (before-over is_line_end (32 ∷ []) rest (refl, tt)))
    ∙ ap kind_named (before-found is_blank word 32 (before_first is_line_end rest) blanks refl)

pub no-line : (word rest : Text) → Fails is_line_end word → Fails is_blank word → is_line (kind_named word) ≡ false → is_line (kind_of (word ++ 32 ∷ rest)) ≡ false
no-line word rest ends blanks other = ap is_line (kind-word word rest ends blanks) ∙ other

-- decimal digits are neither blanks nor line ends
abbrev AreLarge : List ℕ → Type 0
AreLarge cs = AllByRecursion (λ c. 48 ≤ c) cs

glyph-large : (d : ℕ) → 48 ≤ digit_glyph false d
glyph-large d = go (nat_lt d 10)
  where
    go : (b : Bool) → 48 ≤ (if b then 48 + d else 87 + d)
    go true = omega arith
    go false = omega arith

either-large : (b : Bool) (xs ys : List ℕ) → AreLarge xs → AreLarge ys → AreLarge (if b then xs else ys)
either-large true xs ys p q = p
either-large false xs ys p q = q

onto-large : (k n : ℕ) (acc : List ℕ) → AreLarge acc → AreLarge (digits_onto k 10 false n acc)
onto-large zero n acc a = a
onto-large (suc k) n acc a =
    let more = digit_glyph false (n % 10) ∷ acc in
    either-large (n / 10 == 0) more (digits_onto k 10 false (n / 10) more) (glyph-large (n % 10), a)
    (onto-large k (n / 10) more (glyph-large (n % 10), a))

decimal-large : (n : ℕ) → AreLarge (decimal n)
unfolding digits
decimal-large n = onto-large 64 n [] tt

unequal : (c m : ℕ) → 48 ≤ c → suc m ≤ 48 → (c == m) ≡ false
unequal c m l s = elim (cases_Bool (c == m)) [
  | inl t ↦ let same = eqb-true c m t in absurd (omega (arith, l, s, same))
  | inr f ↦ f
]

large-fails : (m : ℕ) (xs : List ℕ) → suc m ≤ 48 → AreLarge xs → Fails (λ c. c == m) xs
large-fails m [] s a = tt
large-fails m (x ∷ xs) s a = (unequal x m a.0 s, large-fails m xs s a.1)

-- so the line of the log for one that begins has the name of its block
abbrev pub line_text : (n : ℕ) (name : Text) → Text
line_text n name = codes "line" ++ (codes " " ++ (decimal n ++ (codes " " ++ (name ++ (10 ∷ [])))))

pub line-name : (n : ℕ) (name : Text) → IsOneLine name → name_of (line_text n name) ≡ name
line-name n name f =
    ap (λ x. after_first is_blank (after_first is_blank x)) whole
    ∙ ap (λ x. after_first is_blank x) (after-found is_blank (codes "line") 32 (decimal n ++ 32 ∷ name) (refl, (refl, (refl, (refl, tt)))) refl)
    ∙ after-found is_blank (decimal n) 32 name (large-fails 32 (decimal n) (omega arith) (decimal-large n)) refl
  where
    told : Text
    told = codes "line" ++ (32 ∷ (decimal n ++ (32 ∷ name)))

    digits-told : Fails is_line_end (decimal n ++ (32 ∷ name))
    digits-told = fails-both is_line_end (decimal n) (32 ∷ name) (large-fails 10 (decimal n) (omega arith) (decimal-large n)) (refl, f)

    all : Fails is_line_end (codes "line" ++ (32 ∷ (decimal n ++ (32 ∷ name))))
    all = (refl, (refl, (refl, (refl, (refl, digits-told)))))

    parts : line_text n name ≡ (codes "line" ++ (32 ∷ (decimal n ++ (32 ∷ name)))) ++ (10 ∷ [])
    parts = ap (λ x. codes "line" ++ (32 ∷ x)) (sym (append_assoc (decimal n) (32 ∷ name) (10 ∷ [])))

    whole : told_line (line_text n name) ≡ codes "line" ++ (32 ∷ (decimal n ++ (32 ∷ name)))
    whole = ap told_line parts ∙ before-found is_line_end (codes "line" ++ (32 ∷ (decimal n ++ (32 ∷ name)))) 10 [] all refl
