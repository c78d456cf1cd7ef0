-- Items that are picked, one after the other.
use Rattle.std.proofs.Common.{◌≡◌, ◌∙◌, ℕ, ◌+◌, ◌<◌, ◌≤◌, List, [], ◌∷◌, ◌++◌, length, drop, take, get_or, sym, ap, arith, append_assoc, add-one}
use Rattle.std.proofs.lemmas.List.{at_drop_more, length-take}
use Rattle.std.proofs.Math.ListN.{drop_of_length-le}
use Rattle.pt_heap.specs.declared.value.Value.{Value}
use Rattle.pt_heap.specs.declared.value.Value.TheVariants as value
use Rattle.pt_text_operations.specs.Picked.{every, middle}

-- no item stands from a place on to one that isn't behind it
pub none_between : (from to : ℕ) (vs : List Value) → to ≤ from → middle from to vs ≡ []
none_between from to vs l = drop_of_length-le (take to vs) (omega (arith, l, length-take to vs))

-- an item behind all that are passed over is picked
picks : (b : ℕ) (picked more : List Value) (v : Value) (rest : List Value) → more ≡ picked ++ v ∷ [] → more ++ every b b rest ≡ picked ++ every b 0 (v ∷ rest)
picks b picked more v rest e = ap (λ l. l ++ every b b rest) e ∙ append_assoc picked (v ∷ []) (every b b rest)

-- another is passed over
passes : (b pass less : ℕ) (v : Value) (rest : List Value) → pass ≡ less + 1 → every b less rest ≡ every b pass (v ∷ rest)
passes b pass less v rest e = sym (ap (λ n. every b n (v ∷ rest)) (e ∙ add-one less))

module _ (b pass : ℕ) (picked whole : List Value) where
  -- from the first on
  module _ (vs : List Value) (i : ℕ) (l : i < length vs) (inv : picked ++ every b pass (drop i vs) ≡ whole) where
    next : picked ++ every b pass (get_or vs i value.None ∷ drop (i + 1) vs) ≡ whole
    next = ap (λ x. picked ++ x) (sym (at_drop_more (every b pass) vs i value.None l)) ∙ inv

    pub picks-next : (more : List Value) → pass ≡ 0 → more ≡ picked ++ get_or vs i value.None ∷ [] → more ++ every b b (drop (i + 1) vs) ≡ whole
    picks-next more z e =
        let rest = drop (i + 1) vs in
        picks b picked more (get_or vs i value.None) rest e ∙ ap (λ n. picked ++ every b n (get_or vs i value.None ∷ rest)) (sym z) ∙ next

    pub passes-next : (less : ℕ) → pass ≡ less + 1 → picked ++ every b less (drop (i + 1) vs) ≡ whole
    passes-next less e = ap (λ x. picked ++ x) (passes b pass less (get_or vs i value.None) (drop (i + 1) vs) e) ∙ next
