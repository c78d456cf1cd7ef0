-- One part more of texts that are joined.
use Rattle.std.proofs.Common.{◌≡◌, ◌∙◌, ℕ, zero, suc, ◌+◌, ◌*◌, ◌<◌, ◌≤◌, List, [], ◌∷◌, ◌++◌, length, refl, sym, ap, arith, append_assoc, add-one}
use Rattle.std.proofs.Math.Nat.{mul-suc, suc-mul, zero-mul}
use Rattle.std.proofs.lemmas.List.{append-nil, length-append}
use Rattle.pt_strs.specs.Join.{followed, copies}
use Rattle.pt_strs.specs.Replace.{apart}

pub copies_more : (n : ℕ) (cs : List ℕ) → copies n cs ++ cs ≡ copies (n + 1) cs
copies_more n cs = more n ∙ ap (λ m. copies m cs) (sym (add-one n))
  where
    more : (n : ℕ) → copies n cs ++ cs ≡ copies (suc n) cs
    more zero = sym (append-nil cs)
    more (suc n) = append_assoc cs (copies n cs) cs ∙ ap (λ l. cs ++ l) (more n)

pub copies-nil : (n : ℕ) → copies n [] ≡ []
copies-nil zero = refl
copies-nil (suc n) = copies-nil n

pub length-copies : (n : ℕ) (cs : List ℕ) → length (copies n cs) ≡ n * length cs
length-copies zero cs = sym (zero-mul (length cs))
length-copies (suc n) cs = omega (arith, length-append cs (copies n cs), length-copies n cs, suc-mul n (length cs))

-- a character more of a text that is spread
pub length-spread : (new : List ℕ) (c : ℕ) (cs : List ℕ) → length (followed new (apart (c ∷ cs))) ≡ length new + (1 + length (followed new (apart cs)))
length-spread new c cs = omega (arith, length-append new (c ∷ followed new (apart cs)))

pub length-spread-end : (new : List ℕ) → length (followed new (apart [])) ≡ length new
length-spread-end new = ap length (append-nil new)

-- it has the other text at least once
pub spread-least : (new cs : List ℕ) → length new ≤ length (followed new (apart cs))
spread-least new [] = omega (arith, length-spread-end new)
spread-least new (c ∷ cs) = omega (arith, length-spread new c cs)

pub ruleset spreads = (length-spread, length-spread-end, spread-least)

pub more-than-times : (n size : ℕ) → 0 < size → n ≤ n * size
more-than-times n zero h = absurd (omega arith)
more-than-times n (suc size) h = omega (arith, mul-suc n size)
