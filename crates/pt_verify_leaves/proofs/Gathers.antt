-- Lists of items by numbers.
use Rattle.std.proofs.Common.{◌≡◌, ℕ, zero, suc, ◌+◌, ◌<◌, ◌≤◌, Bool, true, false, List, [], ◌∷◌, ◌++◌, length, map, set, take, get_or, refl, sym, ap, ◌∙◌, subst, arith, ◌⊎◌, inl, inr}
use Rattle.std.specs.Prelude.{Vec, Contains, nat_lt, cond}
use Rattle.std.proofs.lemmas.Bool.{lt-ltb, ltb-true}
use Rattle.std.proofs.lemmas.List.{map-set, map-append, get_or-map, get_or-set_same, get_or-set_other, get_or_past, length-set}
use Rattle.std.proofs.lemmas.List.Elements.{Contains-push, Contains-push_cases, Contains-append_left}
use Rattle.std.proofs.Math.Seq.{take-suc}
use Rattle.pt_step_graph.specs.Graph.{bundles_of}
use Rattle.pt_step_graph.proofs.Lists.{bundles_length}
use Rattle.pt_closure.specs.Closure.{Pair}
use Rattle.pt_verify_leaves.specs.Gathering.{list_at, put, AreGathered}

pub none_in : {X : Type 0} (x : X) → Contains [] x → ⊥
none_in x (k, lt, is) = absurd (omega arith)

pub low_or : (a b : ℕ) → (a < b) ⊎ (b ≤ a)
low_or a zero = inr (omega arith)
low_or zero (suc b) = inl (omega arith)
low_or (suc a) (suc b) = elim (low_or a b) [ inl h ↦ inl (omega (arith, h)) | inr h ↦ inr (omega (arith, h)) ]

eq_or : (a b : ℕ) → (a ≡ b) ⊎ (a ≡ b → ⊥)
eq_or zero zero = inl refl
eq_or zero (suc b) = inr (λ h. omega arith)
eq_or (suc a) zero = inr (λ h. omega arith)
eq_or (suc a) (suc b) = elim (eq_or a b) [ inl h ↦ inl (ap (λ n. suc n) h) | inr ne ↦ inr (λ h. ne (omega arith)) ]

-- lists of none

pub gathered_none : AreGathered 0 [] []
gathered_none = record { long = refl; only = λ n x c. absurd (none_in x c); all = λ n x lt c. absurd (omega (arith, lt)) }

last_is : (lists : List (List ℕ)) (xs : List ℕ) (n x : ℕ) → Contains (list_at (lists ++ xs ∷ []) n) x → Contains (list_at lists n) x ⊎ Contains xs x
last_is [] xs zero x c = inr c
last_is [] xs (suc n) x c = absurd (none_in x c)
last_is (ys ∷ lists) xs zero x c = inl c
last_is (ys ∷ lists) xs (suc n) x c = last_is lists xs n x c

long_push : {X : Type 0} (xs : List X) (x : X) → length (xs ++ x ∷ []) ≡ length xs + 1
long_push [] x = refl
long_push (y ∷ xs) x = omega (arith, long_push xs x)

gathered_none_more : (k : ℕ) (lists : List (List ℕ)) (xs : List ℕ) → AreGathered k [] lists → xs ≡ [] → AreGathered (k + 1) [] (lists ++ xs ∷ [])
gathered_none_more k lists xs g e = record {
  long = long_push lists xs ∙ ap (λ n. n + 1) g.long;
  only = λ n x c. elim (last_is lists xs n x c) [ inl h ↦ g.only n x h | inr h ↦ absurd (none_in x (subst (λ ys. Contains ys x) e h)) ];
  all = λ n x lt c. absurd (none_in _ c);
}

pub empty_more : {Y Z : Type 0} (k : ℕ) (lists lists' : Vec (Vec ℕ Y) Z) (xs : Vec ℕ Y) → AreGathered k [] (bundles_of lists) → xs.items ≡ []
    → lists'.items ≡ lists.items ++ xs ∷ [] → AreGathered (k + 1) [] (bundles_of lists')
empty_more k lists lists' xs g none e = subst (λ ls. AreGathered (k + 1) [] ls)
    (sym (ap (λ ys. map (λ b. b.items) ys) e ∙ map-append (λ b. b.items) lists.items (xs ∷ [])))
    (gathered_none_more k (bundles_of lists) xs.items g none)

-- an item is put into a list

put_in : (lists : List (List ℕ)) (n x : ℕ) → n < length lists → put lists n x ≡ set lists n (list_at lists n ++ x ∷ [])
put_in lists n x lt = ap (λ t. cond t (set lists n (list_at lists n ++ x ∷ [])) lists) (lt-ltb n (length lists) lt)

put_out : (lists : List (List ℕ)) (n x : ℕ) → length lists ≤ n → put lists n x ≡ lists
put_out lists n x le = by_test (nat_lt n (length lists)) refl
  where
    by_test : (t : Bool) → nat_lt n (length lists) ≡ t → cond t (set lists n (list_at lists n ++ x ∷ [])) lists ≡ lists
    by_test true e = absurd (omega (arith, le, ltb-true n (length lists) e))
    by_test false e = refl

lists_long : {Y Z : Type 0} (lists : Vec (Vec ℕ Y) Z) → length (bundles_of lists) ≡ length lists.items
lists_long lists = bundles_length lists.items

pub put_is : {Y Z : Type 0} (lists : Vec (Vec ℕ Y) Z) (n x : ℕ) (xs xs' : Vec ℕ Y) → n < length lists.items → xs ≡ get_or lists.items n xs
    → xs'.items ≡ xs.items ++ x ∷ [] → map (λ b. b.items) (set lists.items n xs') ≡ put (bundles_of lists) n x
put_is lists n x xs xs' lt e more = map-set (λ b. b.items) lists.items n xs'
    ∙ (ap (λ ys. set (bundles_of lists) n ys) (more ∙ ap (λ ys. ys ++ x ∷ [])
    (sym (get_or-map (λ b. b.items) lists.items n xs [] lt ∙ ap (λ b. b.items) (sym e))))
    ∙ sym (put_in (bundles_of lists) n x (omega (arith, lt, lists_long lists))))

pub put_not : {Y Z : Type 0} (lists : Vec (Vec ℕ Y) Z) (n x : ℕ) → length lists.items ≤ n → bundles_of lists ≡ put (bundles_of lists) n x
put_not lists n x le = sym (put_out (bundles_of lists) n x (omega (arith, le, lists_long lists)))

put_here : (lists : List (List ℕ)) (n x : ℕ) → n < length lists → list_at (put lists n x) n ≡ list_at lists n ++ x ∷ []
put_here lists n x lt = ap (λ ls. list_at ls n) (put_in lists n x lt) ∙ get_or-set_same lists n (list_at lists n ++ x ∷ []) [] lt

put_other : (lists : List (List ℕ)) (n x m : ℕ) → (m ≡ n → ⊥) → list_at (put lists n x) m ≡ list_at lists m
put_other lists n x m ne = elim (low_or n (length lists)) [
  | inl lt ↦ ap (λ ls. list_at ls m) (put_in lists n x lt) ∙ get_or-set_other lists n m (list_at lists n ++ x ∷ []) [] ne
  | inr le ↦ ap (λ ls. list_at ls m) (put_out lists n x le)
]

put_long : (lists : List (List ℕ)) (n x : ℕ) → length (put lists n x) ≡ length lists
put_long lists n x = elim (low_or n (length lists)) [
  | inl lt ↦ ap (λ ls. length ls) (put_in lists n x lt) ∙ length-set lists n (list_at lists n ++ x ∷ [])
  | inr le ↦ ap (λ ls. length ls) (put_out lists n x le)
]

put_out_here : (lists : List (List ℕ)) (n x y : ℕ) → length lists ≤ n → Contains (list_at (put lists n x) n) y → ⊥
put_out_here lists n x y le c =
    none_in y (subst (λ ys. Contains ys y) (ap (λ ls. list_at ls n) (put_out lists n x le) ∙ get_or_past lists n [] le) c)

module _ (count : ℕ) (pairs : List Pair) (lists : List (List ℕ)) (g : AreGathered count pairs lists) (n x : ℕ) where
  abbrev pair : Pair
  pair = (n, x)

  in_put : (m y : ℕ) → Contains (list_at (put lists n x) m) y → (m ≡ n) ⊎ (m ≡ n → ⊥) → Contains (pairs ++ pair ∷ []) (m, y)
  in_put m y c (inr ne) = Contains-append_left pairs (pair ∷ []) (m, y) (g.only m y (subst (λ ys. Contains ys y) (put_other lists n x m ne) c))
  in_put m y c (inl e) = let d = subst (λ k. Contains (list_at (put lists n x) k) y) e c in
      subst (λ k. Contains (pairs ++ pair ∷ []) (k, y)) (sym e) (elim (low_or n (length lists)) [
        | inl lt ↦ elim (Contains-push_cases (list_at lists n) x y (subst (λ ys. Contains ys y) (put_here lists n x lt) d)) [
          | inl h ↦ Contains-append_left pairs (pair ∷ []) (n, y) (g.only n y h)
          | inr same ↦ subst (λ z. Contains (pairs ++ pair ∷ []) (n, z)) same (Contains-push pairs pair)
        ]
        | inr le ↦ absurd (put_out_here lists n x y le d)
      ])

  stays_in : (m y : ℕ) → Contains (list_at lists m) y → (m ≡ n) ⊎ (m ≡ n → ⊥) → Contains (list_at (put lists n x) m) y
  stays_in m y c (inr ne) = subst (λ ys. Contains ys y) (sym (put_other lists n x m ne)) c
  stays_in m y c (inl e) = let d = subst (λ k. Contains (list_at lists k) y) e c in
      subst (λ k. Contains (list_at (put lists n x) k) y) (sym e) (elim (low_or n (length lists)) [
        | inl lt ↦ subst (λ ys. Contains ys y) (sym (put_here lists n x lt)) (Contains-append_left (list_at lists n) (x ∷ []) y d)
        | inr le ↦ absurd (none_in y (subst (λ ys. Contains ys y) (get_or_past lists n [] le) d))
      ])

  put_all : (m y : ℕ) → m < count → Contains (pairs ++ pair ∷ []) (m, y) → Contains (list_at (put lists n x) m) y
  put_all m y lt c = elim (Contains-push_cases pairs pair (m, y) c) [
    | inl h ↦ stays_in m y (g.all m y lt h) (eq_or m n)
    | inr same ↦ (let one : n ≡ m = ap (λ p. p.0) same in let two : x ≡ y = ap (λ p. p.1) same in
        subst (λ k. Contains (list_at (put lists n x) k) y) one (subst (λ z. Contains (list_at (put lists n x) n) z) two
        (subst (λ ys. Contains ys x) (sym (put_here lists n x (omega (arith, lt, one, g.long)))) (Contains-push (list_at lists n) x))))
  ]

  gathered_put : AreGathered count (pairs ++ pair ∷ []) (put lists n x)
  gathered_put = record {
    long = put_long lists n x ∙ g.long;
    only = λ m y c. in_put m y c (eq_or m n);
    all = put_all;
  }

pub gathered_more : (count : ℕ) (pairs : List Pair) (k : ℕ) (lists lists' : List (List ℕ)) (d : Pair) → k < length pairs → AreGathered count (take k pairs) lists
    → lists' ≡ put lists (get_or pairs k d).0 (get_or pairs k d).1 → AreGathered count (take (k + 1) pairs) lists'
gathered_more count pairs k lists lists' d lt g e =
    let h : suc k ≡ k + 1 = omega arith in
    subst (λ ls. AreGathered count (take (k + 1) pairs) ls) (sym e) (subst (λ ps. AreGathered count ps (put lists (get_or pairs k d).0 (get_or pairs k d).1))
    (sym (take-suc pairs k d lt) ∙ ap (λ n. take n pairs) h)
    (gathered_put count (take k pairs) lists g (get_or pairs k d).0 (get_or pairs k d).1))

pub read_list : {Y Z : Type 0} (lists : Vec (Vec ℕ Y) Z) (n : ℕ) (xs : Vec ℕ Y) → n < length lists.items → xs ≡ get_or lists.items n xs
    → list_at (bundles_of lists) n ≡ xs.items
read_list lists n xs lt e = get_or-map (λ b. b.items) lists.items n xs [] lt ∙ ap (λ b. b.items) (sym e)
