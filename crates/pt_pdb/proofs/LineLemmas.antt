-- A line by its number.
use Rattle.std.proofs.Common.{◌≡◌, ◌∙◌, ℕ, zero, suc, ◌-◌, ◌<◌, List, [], ◌∷◌, length, get_or, refl, ap, subst, arith}
use Rattle.pt_pdb.specs.Positions.{numbered}

get_same : (ls : List (List ℕ)) (n : ℕ) (a b : List ℕ) → n < length ls → get_or ls n a ≡ get_or ls n b
get_same [] n a b within = absurd (omega arith)
get_same (l ∷ ls) zero a b within = refl
get_same (l ∷ ls) (suc n) a b within = get_same ls n a b (omega arith)

-- the line that was found
pub found : (ls : List (List ℕ)) (n : ℕ) (a : List ℕ) → 0 < n → n - 1 < length ls → a ≡ get_or ls (n - 1) a → a ≡ numbered ls n
found ls zero a l within is = absurd (omega arith)
found ls (suc n) a l within is =
    let before : suc n - 1 ≡ n = omega arith in
    is ∙ ap (λ k. get_or ls k a) before ∙ get_same ls n a [] (subst (λ k. k < length ls) before within)
