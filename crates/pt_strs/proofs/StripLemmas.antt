-- Characters taken off the ends, and the words between blanks.
use Rattle.std.proofs.Common.{◌≡◌, ◌∙◌, ◌≢◌, ℕ, suc, ◌<◌, ◌≤◌, Bool, true, false, not, List, [], ◌∷◌, ◌++◌, length, refl, sym, ap, arith, if◌then◌else◌}
use Rattle.pt_strs.specs.Blank.{is_blank}
use Rattle.pt_strs.specs.Strip.{front, without_front}
use Rattle.pt_strs.specs.Words.{longer, words}

module _ (p : ℕ → Bool) where
  pub front-rest : (cs : List ℕ) → front p cs ++ without_front p cs ≡ cs
  front-rest [] = refl
  front-rest (c ∷ cs) = by (p c) (front-rest cs)
    where
      by : (b : Bool) → front p cs ++ without_front p cs ≡ cs → (if b then c ∷ front p cs else []) ++ (if b then without_front p cs else c ∷ cs) ≡ c ∷ cs
      by true h = ap (λ l. c ∷ l) h
      by false h = refl

  pub without-shorter : (cs : List ℕ) → length (without_front p cs) ≤ length cs
  without-shorter [] = omega arith
  without-shorter (c ∷ cs) = by (p c) (without-shorter cs)
    where
      by : (b : Bool) → length (without_front p cs) ≤ length cs → length (if b then without_front p cs else c ∷ cs) ≤ suc (length cs)
      by true h = omega arith
      by false h = omega arith

  -- what is left begins with nothing to take off
  pub without-twice : (cs : List ℕ) → without_front p (without_front p cs) ≡ without_front p cs
  without-twice [] = refl
  without-twice (c ∷ cs) = by (p c) refl (without-twice cs)
    where
      by : (b : Bool) → p c ≡ b → without_front p (without_front p cs) ≡ without_front p cs → without_front p (if b then without_front p cs else c ∷ cs) ≡ (if b then without_front p cs else c ∷ cs)
      by true e h = h
      by false e h = rw e refl

-- two tests that agree take the same off
pub without-same : (p q : ℕ → Bool) → ((c : ℕ) → p c ≡ q c) → (cs : List ℕ) → without_front p cs ≡ without_front q cs
without-same p q h [] = refl
without-same p q h (c ∷ cs) = rw (h c) (ap (λ l. if q c then l else c ∷ cs) (without-same p q h cs))

abbrev pub vis : ℕ → Bool
vis c = not (is_blank c)

pub words-blanks : (cs : List ℕ) → words (without_front is_blank cs) ≡ words cs
words-blanks [] = refl
words-blanks (c ∷ cs) = by (is_blank c) refl (words-blanks cs)
  where
    by : (b : Bool) → is_blank c ≡ b → words (without_front is_blank cs) ≡ words cs → words (if b then without_front is_blank cs else c ∷ cs) ≡ words (c ∷ cs)
    by true e h = rw e h
    by false e h = refl

-- the first word
words-first : (c : ℕ) (cs : List ℕ) → is_blank c ≡ false → words (c ∷ cs) ≡ front vis (c ∷ cs) ∷ words (without_front vis (c ∷ cs))
words-first c [] e = rw e refl
words-first c (d ∷ ds) e = by (is_blank d) refl (words-first d ds)
  where
    by : (b : Bool) → is_blank d ≡ b → (is_blank d ≡ false → words (d ∷ ds) ≡ front vis (d ∷ ds) ∷ words (without_front vis (d ∷ ds))) → words (c ∷ d ∷ ds) ≡ front vis (c ∷ d ∷ ds) ∷ words (without_front vis (c ∷ d ∷ ds))
    by true f ih =
        let W = words (d ∷ ds) in
        let F = front vis (d ∷ ds) in
        let R = without_front vis (d ∷ ds) in
        let first : words (c ∷ d ∷ ds) ≡ (c ∷ []) ∷ W = ap (λ b. if b then W else (if is_blank d then (c ∷ []) ∷ W else longer c W)) e ∙ ap (λ b. if b then (c ∷ []) ∷ W else longer c W) f in
        let none : F ≡ [] = ap (λ b. if not b then d ∷ front vis ds else []) f in
        let begins : front vis (c ∷ d ∷ ds) ≡ c ∷ F = ap (λ b. if not b then c ∷ F else []) e in
        let all : R ≡ d ∷ ds = ap (λ b. if not b then without_front vis ds else d ∷ ds) f in
        let behind : without_front vis (c ∷ d ∷ ds) ≡ R = ap (λ b. if not b then R else c ∷ d ∷ ds) e in
        first ∙ ap (λ l. (c ∷ l) ∷ W) (sym none) ∙ ap (λ l. l ∷ W) (sym begins) ∙ ap (λ l. front vis (c ∷ d ∷ ds) ∷ words l) (sym (behind ∙ all))
    by false f ih =
        let W = words (d ∷ ds) in
        let F = front vis (d ∷ ds) in
        let R = without_front vis (d ∷ ds) in
        let first : words (c ∷ d ∷ ds) ≡ longer c W = ap (λ b. if b then W else (if is_blank d then (c ∷ []) ∷ W else longer c W)) e ∙ ap (λ b. if b then (c ∷ []) ∷ W else longer c W) f in
        let begins : front vis (c ∷ d ∷ ds) ≡ c ∷ F = ap (λ b. if not b then c ∷ F else []) e in
        let behind : without_front vis (c ∷ d ∷ ds) ≡ R = ap (λ b. if not b then R else c ∷ d ∷ ds) e in
        first ∙ ap (longer c) (ih f) ∙ ap (λ l. l ∷ words R) (sym begins) ∙ ap (λ l. front vis (c ∷ d ∷ ds) ∷ words l) (sym behind)

-- a text that begins with no blank is a word and the words behind the blanks that follow
pub record FirstWord (cs : List ℕ) : Type 0 where
  pub is : words cs ≡ front vis cs ∷ words (without_front is_blank (without_front vis cs))
  pub shorter : length (without_front is_blank (without_front vis cs)) < length cs

pub first-word : (cs : List ℕ) → cs ≢ [] → without_front is_blank cs ≡ cs → FirstWord cs
first-word [] some begins = absurd (some refl)
first-word (c ∷ cs) some begins = by (is_blank c) refl
  where
    by : (b : Bool) → is_blank c ≡ b → FirstWord (c ∷ cs)
    by true e =
        let less : without_front is_blank cs ≡ c ∷ cs = sym (ap (λ b. if b then without_front is_blank cs else c ∷ cs) e) ∙ begins in
        absurd (omega (arith, ap length less, without-shorter is_blank cs))
    by false e =
        let rest = without_front vis (c ∷ cs) in
        let tail : rest ≡ without_front vis cs = rw e refl in
        record {
          is = words-first c cs e ∙ ap (λ l. front vis (c ∷ cs) ∷ l) (sym (words-blanks rest));
          shorter = omega (arith, without-shorter is_blank rest, ap length tail, without-shorter vis cs);
        }
