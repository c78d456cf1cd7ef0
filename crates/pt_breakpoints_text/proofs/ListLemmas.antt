-- What is written of each in a list.
use Rattle.std.proofs.Common.{◌≡◌, ◌∙◌, ◌+◌, ◌<◌, ◌++◌, ℕ, suc, List, ◌∷◌, drop, flat_map, get_or, length, ap, append_assoc, arith, sym}
use Rattle.std.proofs.Math.Seq.{drop-cons}
use Rattle.std.proofs.lemmas.List.Concat.{flat_map-cons}

-- of one more
pub one_more : {X : Type 0} (f : X → List ℕ) (xs : List X) (i : ℕ) (x : X) (old new whole : List ℕ) → i < length xs → x ≡ get_or xs i x
    → old ++ flat_map f (drop i xs) ≡ whole → new ≡ old ++ f x → new ++ flat_map f (drop (i + 1) xs) ≡ whole
one_more {X} f xs i x old new whole within is before pushed =
    let cut : drop i xs ≡ x ∷ drop (suc i) xs = drop-cons xs i x within ∙ ap (λ (y : X). y ∷ drop (suc i) xs) (sym is) in
    let next : i + 1 ≡ suc i = omega arith in
    ap (λ (k : ℕ). new ++ flat_map f (drop k xs)) next
    ∙ ap (λ (out : List ℕ). out ++ flat_map f (drop (suc i) xs)) pushed
    ∙ append_assoc old (f x) (flat_map f (drop (suc i) xs))
    ∙ ap (λ (more : List ℕ). old ++ more) (sym (ap (flat_map f) cut ∙ flat_map-cons f x (drop (suc i) xs)))
    ∙ before
