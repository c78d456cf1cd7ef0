-- Steps of a slice.
use Rattle.std.proofs.Common.{◌≡◌, ◌∙◌, ℕ, zero, suc, ◌+◌, ◌-◌, ◌*◌, ◌/◌, ◌≤◌, List, [], ◌∷◌, Option, None, Some, MatchOption, length, drop, reverse, sym, ap, arith, add-one}
use Rattle.std.proofs.Math.Nat.{add-div_right}
use Rattle.std.proofs.lemmas.Nat.{div-mul-add}
use Rattle.std.proofs.lemmas.List.{drop-drop, length-reverse}
use Rattle.pt_strs.specs.Slice.{every}

-- one character more passed over
pub drop-next : (xs : List ℕ) (i : ℕ) (old new : List ℕ) (o : Option ℕ) → old ≡ drop i xs → MatchOption o ((old ≡ []) × (new ≡ [])) (λ c. old ≡ c ∷ new) → new ≡ drop (i + 1) xs
drop-next xs i old new None e h = h.1 ∙ ap (drop 1) (sym h.0 ∙ e) ∙ drop-drop 1 i xs
drop-next xs i old new (Some c) e h = ap (drop 1) (sym h ∙ e) ∙ drop-drop 1 i xs

-- how many characters a slice picks
pub length-every : (k pass : ℕ) (cs : List ℕ) → pass ≤ k → length (every k pass cs) ≡ (length cs + (k - pass)) / (k + 1)
length-every k pass [] h =
    let same : 0 * (k + 1) + (k - pass) ≡ 0 + (k - pass) = omega arith in
    sym (div-mul-add 0 (k + 1) (k - pass) (omega arith)) ∙ ap (λ n. n / (k + 1)) same
length-every k zero (c ∷ cs) h =
    let n = length cs in
    let more : n + (k - k) ≡ n = omega arith in
    let whole : n + (k + 1) ≡ suc n + (k - 0) = omega arith in
    ap suc (length-every k k cs (omega arith) ∙ ap (λ m. m / (k + 1)) more) ∙ sym (add-one (n / (k + 1))) ∙ sym (add-div_right n (omega arith)) ∙ ap (λ m. m / (k + 1)) whole
length-every k (suc pass) (c ∷ cs) h =
    let same : length cs + (k - pass) ≡ suc (length cs) + (k - suc pass) = omega arith in
    length-every k pass cs (omega arith) ∙ ap (λ n. n / (k + 1)) same

pub length-picked : (k : ℕ) (cs : List ℕ) → length (every k 0 cs) ≡ (length cs + k) / (k + 1)
length-picked k cs = let same : length cs + (k - 0) ≡ length cs + k = omega arith in length-every k 0 cs (omega arith) ∙ ap (λ n. n / (k + 1)) same

pub length-picked-back : (k : ℕ) (cs : List ℕ) → length (every k 0 (reverse cs)) ≡ (length cs + k) / (k + 1)
length-picked-back k cs = length-picked k (reverse cs) ∙ ap (λ n. (n + k) / (k + 1)) (length-reverse cs)
