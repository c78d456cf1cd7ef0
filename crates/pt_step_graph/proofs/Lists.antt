-- What is added step by step.
use Rattle.std.proofs.Common.{◌≡◌, ℕ, ◌+◌, ◌<◌, Bool, true, false, if◌then◌else◌, List, [], ◌∷◌, ◌++◌, length, map, take, refl, sym, ap, ◌∙◌, zero, suc, arith, get_or, append_assoc}
use Rattle.std.specs.Prelude.{Vec, nat_lt, cond}
use Rattle.std.proofs.Math.Seq.{take-suc}
use Rattle.pt_ranges.specs.declared.handlers.Handler.{Handler}
use Rattle.pt_step_graph.specs.declared.exits.Exits.{Exits}
use Rattle.pt_step_graph.specs.Steps.{own, some_of}
use Rattle.pt_step_graph.specs.Graph.{within}

pub within_append : (n : ℕ) (xs ys : List ℕ) → within n (xs ++ ys) ≡ within n xs ++ within n ys
within_append n [] ys = refl
within_append n (x ∷ xs) ys = by_test (within_append n xs ys) (nat_lt x n)
  where
    by_test : within n (xs ++ ys) ≡ within n xs ++ within n ys → (t : Bool)
        → cond t (x ∷ within n (xs ++ ys)) (within n (xs ++ ys)) ≡ cond t (x ∷ within n xs) (within n xs) ++ within n ys
    by_test ih true = ap (λ zs. x ∷ zs) ih
    by_test ih false = ih

pub own_within : (work : List ℕ) (n : ℕ) (e : Exits) (pc : ℕ)
    → ((work ++ within n (some_of e.onward)) ++ within n (some_of e.aside)) ++ within n (if e.again then pc ∷ [] else []) ≡ work ++ within n (own e pc)
own_within work n e pc = append_assoc (work ++ within n (some_of e.onward)) (within n (some_of e.aside)) (within n (if e.again then pc ∷ [] else []))
    ∙ (append_assoc work (within n (some_of e.onward)) (within n (some_of e.aside) ++ within n (if e.again then pc ∷ [] else [])) ∙ ap (λ zs. work ++ zs)
    (ap (λ zs. within n (some_of e.onward) ++ zs) (sym (within_append n (some_of e.aside) (if e.again then pc ∷ [] else [])))
    ∙ sym (within_append n (some_of e.onward) (some_of e.aside ++ (if e.again then pc ∷ [] else [])))))

-- one more of a list
pub within_more : (n : ℕ) (xs : List ℕ) (i : ℕ) (work now : List ℕ) (x : ℕ) → i < length xs → now ≡ work ++ within n (take i xs) → x ≡ get_or xs i 0
    → now ++ within n (x ∷ []) ≡ work ++ within n (take (i + 1) xs)
within_more n xs i work now x lt e is =
    let h : suc i ≡ i + 1 = omega arith in
    ap (λ zs. zs ++ within n (x ∷ [])) e ∙ (append_assoc work (within n (take i xs)) (within n (x ∷ [])) ∙ ap (λ zs. work ++ zs)
    (sym (within_append n (take i xs) (x ∷ []))
    ∙ ap (λ zs. within n zs) (ap (λ y. take i xs ++ y ∷ []) is ∙ (sym (take-suc xs i 0 lt) ∙ ap (λ k. take k xs) h))))

abbrev pub target : Handler → ℕ
target row = row.target.0

map_length : (rows : List Handler) → length (map target rows) ≡ length rows
map_length [] = refl
map_length (row ∷ rows) = omega (arith, map_length rows)

map_get : (rows : List Handler) (i : ℕ) (d : Handler) → i < length rows → get_or (map target rows) i 0 ≡ (get_or rows i d).target.0
map_get [] i d h = absurd (omega arith)
map_get (row ∷ rows) zero d h = refl
map_get (row ∷ rows) (suc i) d h = map_get rows i d (omega arith)

pub targets_more : (n : ℕ) (rows : List Handler) (i : ℕ) (work now : List ℕ) (d : Handler) → i < length rows → now ≡ work ++ within n (take i (map target rows))
    → now ++ within n ((get_or rows i d).target.0 ∷ []) ≡ work ++ within n (take (i + 1) (map target rows))
targets_more n rows i work now d lt e = within_more n (map target rows) i work now (get_or rows i d).target.0 (omega (arith, lt, map_length rows)) e
    (sym (map_get rows i d lt))

pub bundles_length : {X : Type 0} (bs : List (Vec ℕ X)) → length (map (λ b. b.items) bs) ≡ length bs
bundles_length [] = refl
bundles_length (b ∷ bs) = omega (arith, bundles_length bs)
