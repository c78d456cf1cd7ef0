-- One link from a root to another, on no more levels than any before.
use Rattle.std.proofs.Common.{◌≡◌, ℕ, ◌<◌, ◌≤◌, List, length, refl, sym, ◌∙◌, arith, subst, ◌⊎◌, inl, inr, get_or}
use Rattle.pt_joins.specs.declared.joins.Join.{Join}
use Rattle.pt_joins.specs.declared.joins.Node.{Node}
use Rattle.pt_joins.specs.Joins.{node_at, Root, top, link, HasRoot, Same, IsForest, IsTop, IsLow, AreLow, Links, Bridges, onward, backward, AfterJoin}
use Rattle.pt_joins.proofs.Roots.{eq_or, below_or, root_from, root_in, root_top, one_root, same_back, node_is}

-- on a level below that of all links the roots are those of the whole forest
pub flat : (nodes : List Node) (h level : ℕ) → AreLow nodes h → level < h → (i r : ℕ) → Root nodes 0 i r → Root nodes level i r
flat nodes h level low lt i _ (top l e) = top l (omega (arith, e))
flat nodes h level low lt i r (link l e k) = link l (omega (arith, low i e)) (flat nodes h level low lt _ r k)

module _ (xs ys : List Node) (lower upper h : ℕ) (f : IsForest xs) (low : AreLow xs h) (some : 0 < h) (tl : IsTop xs lower) (tu : IsTop xs upper)
    (apart : lower ≡ upper → ⊥) (fewer : IsLow xs lower upper) (l : Links xs ys lower upper h) where
  same_levels : (i : ℕ) → (i ≡ lower → ⊥) → (node_at ys i).levels ≡ (node_at xs i).levels
  same_levels i ne = l.other_levels i ne

  -- a node with a link is none of the two roots
  linked_apart : (i d : ℕ) → d < (node_at xs i).levels → i ≡ lower → ⊥
  linked_apart i d lt e = let z : (node_at xs i).levels ≡ 0 = subst (λ x. (node_at xs x).levels ≡ 0) (sym e) tl.none in omega (arith, lt, z)

  linked_apart_upper : (i d : ℕ) → d < (node_at xs i).levels → i ≡ upper → ⊥
  linked_apart_upper i d lt e = let z : (node_at xs i).levels ≡ 0 = subst (λ x. (node_at xs x).levels ≡ 0) (sym e) tu.none in omega (arith, lt, z)

  -- on the levels above nothing changes
  high : (d : ℕ) → h ≤ d → (i r : ℕ) → Root xs d i r → Root ys d i r
  high d le i _ (top lt e) = top (omega (arith, lt, l.long)) (elim (eq_or i lower) [
    | inl same ↦ subst (λ x. (node_at ys x).levels ≤ d) (sym same) (omega (arith, l.is, le))
    | inr ne ↦ (let q = same_levels i ne in omega (arith, q, e))
  ])
  high d le i r (link lt e k) = let ne = linked_apart i d e in link (omega (arith, lt, l.long)) (let q = same_levels i ne in omega (arith, q, e))
      (subst (λ x. Root ys d x r) (sym (l.other_parents i ne)) (high d le _ r k))

  high_back : (d : ℕ) → h ≤ d → (i r : ℕ) → Root ys d i r → Root xs d i r
  high_back d le i _ (top lt e) = top (omega (arith, lt, l.long)) (elim (eq_or i lower) [
    | inl same ↦ subst (λ x. (node_at xs x).levels ≤ d) (sym same) (omega (arith, tl.none))
    | inr ne ↦ (let q = same_levels i ne in omega (arith, q, e))
  ])
  high_back d le i r (link lt e k) =
      let ne : i ≡ lower → ⊥ = (λ (same : i ≡ lower). let q : (node_at ys i).levels ≡ h = subst (λ x. (node_at ys x).levels ≡ h) (sym same) l.is in omega (arith, q, e, le)) in
      link (omega (arith, lt, l.long)) (let q = same_levels i ne in omega (arith, q, e))
      (subst (λ x. Root xs d x r) (l.other_parents i ne) (high_back d le _ r k))

  -- on those below the one root moves to the other
  abbrev Moved : (r s : ℕ) → Type 0
  Moved r s = ((r ≡ lower) × (s ≡ upper)) ⊎ ((r ≡ lower → ⊥) × (s ≡ r))

  upper_root : (d : ℕ) → Root ys d upper upper
  upper_root d = top (omega (arith, tu.inside, l.long)) (let q = same_levels upper (λ e. apart (sym e)) in omega (arith, q, tu.none))

  lower_root : (d : ℕ) → d < h → Root ys d lower upper
  lower_root d lt = link (omega (arith, tl.inside, l.long)) (omega (arith, l.is, lt)) (subst (λ x. Root ys d x upper) (sym l.parent) (upper_root d))

  moved : (d : ℕ) → d < h → (i r : ℕ) → Root xs d i r → (s : ℕ) × (Moved r s × Root ys d i s)
  moved d lt i _ (top b e) = elim (eq_or i lower) [
    | inl same ↦ (upper, (inl (same, refl), subst (λ x. Root ys d x upper) (sym same) (lower_root d lt)))
    | inr ne ↦ (i, (inr (ne, refl), top (omega (arith, b, l.long)) (let q = same_levels i ne in omega (arith, q, e))))
  ]
  moved d lt i r (link b e k) =
      let ne = linked_apart i d e in
      let (s, (m, k')) = moved d lt _ r k in
      (s, (m, link (omega (arith, b, l.long)) (let q = same_levels i ne in omega (arith, q, e)) (subst (λ x. Root ys d x s) (sym (l.other_parents i ne)) k')))

  same_move : (r s t : ℕ) → Moved r s → Moved r t → s ≡ t
  same_move r s t (inl (a, b)) (inl (c, d)) = b ∙ sym d
  same_move r s t (inl (a, b)) (inr (c, d)) = absurd (c a)
  same_move r s t (inr (a, b)) (inl (c, d)) = absurd (a c)
  same_move r s t (inr (a, b)) (inr (c, d)) = b ∙ sym d

  keeps : (d i j : ℕ) → Same xs d i j → Same ys d i j
  keeps d i j w = elim (below_or d h) [
    | inl lt ↦ (let (s, (m, k)) = moved d lt i w.root w.one_is in
        let (t, (m', k')) = moved d lt j w.root w.other_is in
        record { root = s; one_is = k; other_is = subst (λ x. Root ys d j x) (same_move w.root t s m' m) k' })
    | inr le ↦ record { root = w.root; one_is = high d le i w.root w.one_is; other_is = high d le j w.root w.other_is }
  ]

  -- two that are one class now were one class, or in the two that were linked
  parts : (r s t : ℕ) → Moved r t → Moved s t → (r ≡ s) ⊎ (((r ≡ lower) × (s ≡ upper)) ⊎ ((r ≡ upper) × (s ≡ lower)))
  parts r s t (inl (a, b)) (inl (c, d)) = inl (a ∙ sym c)
  parts r s t (inl (a, b)) (inr (c, d)) = inr (inl (a, sym d ∙ b))
  parts r s t (inr (a, b)) (inl (c, d)) = inr (inr (sym b ∙ d, c))
  parts r s t (inr (a, b)) (inr (c, d)) = inl (sym b ∙ d)

  rooted : (d i : ℕ) → i < length ys → HasRoot ys d i
  rooted d i lt = let w = f.rooted d i (omega (arith, lt, l.long)) in elim (below_or d h) [
    | inl b ↦ (let (s, (m, k)) = moved d b i w.root w.is in record { root = s; is = k })
    | inr le ↦ record { root = w.root; is = high d le i w.root w.is }
  ]

  more_below : (i : ℕ) → (node_at xs i).below ≤ (node_at ys i).below
  more_below i = elim (eq_or i upper) [
    | inl e ↦ subst (λ x. (node_at xs x).below ≤ (node_at ys x).below) (sym e) (omega (arith, l.more))
    | inr ne ↦ (let q = l.other_below i ne in omega (arith, q))
  ]

  bound : (i : ℕ) → (node_at ys i).below < 18446744073709551616
  bound i = elim (eq_or i upper) [
    | inl e ↦ subst (λ x. (node_at ys x).below < 18446744073709551616) (sym e) l.bound
    | inr ne ↦ subst (λ x. x < 18446744073709551616) (sym (l.other_below i ne)) (f.bound i)
  ]

  inside : (i : ℕ) → 0 < (node_at ys i).levels → (node_at ys i).parent < length ys
  inside i lt = elim (eq_or i lower) [
    | inl e ↦ subst (λ x. (node_at ys x).parent < length ys) (sym e) (omega (arith, l.parent, tu.inside, l.long))
    | inr ne ↦ (let q = same_levels i ne in let p = l.other_parents i ne in let g = f.inside i (omega (arith, q, lt)) in omega (arith, p, g, l.long))
  ]

  grows : (i : ℕ) → 0 < (node_at ys i).levels → (node_at ys i).below < (node_at ys (node_at ys i).parent).below
  grows i lt = elim (eq_or i lower) [
    | inl e ↦ subst (λ x. (node_at ys x).below < (node_at ys (node_at ys x).parent).below) (sym e)
        (subst (λ p. (node_at ys lower).below < (node_at ys p).below) (sym l.parent)
        (let q = l.other_below lower apart in omega (arith, q, fewer, l.more)))
    | inr ne ↦ (let q = same_levels i ne in
        let some' : 0 < (node_at xs i).levels = omega (arith, q, lt) in
        subst (λ p. (node_at ys i).below < (node_at ys p).below) (sym (l.other_parents i ne))
        (let g = f.grows i some' in
        let b = l.other_below i (linked_apart_upper i 0 some') in
        let m = more_below (node_at xs i).parent in omega (arith, g, b, m)))
  ]

  forest : IsForest ys
  forest = record { inside = inside; grows = grows; bound = bound; rooted = rooted }

  still_low : AreLow ys h
  still_low i lt = elim (eq_or i lower) [
    | inl e ↦ subst (λ x. h ≤ (node_at ys x).levels) (sym e) (omega (arith, l.is))
    | inr ne ↦ (let q = same_levels i ne in let g = low i (omega (arith, q, lt)) in omega (arith, q, g))
  ]

  -- the classes of two numbers whose roots these are
  module _ (a b : ℕ) (ra : Root xs 0 a lower) (rb : Root xs 0 b upper) where
    at_lower : (d : ℕ) → d < h → Root xs d a lower
    at_lower d lt = flat xs h d low lt a lower ra

    at_upper : (d : ℕ) → d < h → Root xs d b upper
    at_upper d lt = flat xs h d low lt b upper rb

    meet : (d : ℕ) → d < h → Same ys d a b
    meet d lt =
        let (s, (m, k)) = moved d lt a lower (at_lower d lt) in
        let (t, (m', k')) = moved d lt b upper (at_upper d lt) in
        record {
          root = upper;
          one_is = subst (λ x. Root ys d a x) (same_move lower s upper m (inl (refl, refl))) k;
          other_is = subst (λ x. Root ys d b x) (same_move upper t upper m' (inr ((λ e. apart (sym e)), refl))) k';
        }

    bridges : (d i j r s : ℕ) → d < h → Root xs d i r → Root xs d j s → ((r ≡ lower) × (s ≡ upper)) ⊎ ((r ≡ upper) × (s ≡ lower))
        → Bridges xs (record { one = a; other = b; levels = h }) d i j
    bridges d i j r s lt k k' (inl (e, g)) = onward
        (record { root = lower; one_is = subst (λ x. Root xs d i x) e k; other_is = at_lower d lt })
        (record { root = upper; one_is = at_upper d lt; other_is = subst (λ x. Root xs d j x) g k' })
    bridges d i j r s lt k k' (inr (e, g)) = backward
        (record { root = upper; one_is = subst (λ x. Root xs d i x) e k; other_is = at_upper d lt })
        (record { root = lower; one_is = at_lower d lt; other_is = subst (λ x. Root xs d j x) g k' })

    only_low : (d : ℕ) → d < h → (i j : ℕ) → Same ys d i j
        → Same xs d i j ⊎ ((d < h) × Bridges xs (record { one = a; other = b; levels = h }) d i j)
    only_low d lt i j w =
        let v = f.rooted d i (omega (arith, root_from ys d i w.root w.one_is, l.long)) in
        let v' = f.rooted d j (omega (arith, root_from ys d j w.root w.other_is, l.long)) in
        let (t, (m, q)) = moved d lt i v.root v.is in
        let (u, (m', q')) = moved d lt j v'.root v'.is in
        let e : t ≡ w.root = one_root ys d i t w.root q w.one_is in
        let e' : u ≡ w.root = one_root ys d j u w.root q' w.other_is in
        elim (parts v.root v'.root w.root (subst (λ x. Moved v.root x) e m) (subst (λ x. Moved v'.root x) e' m')) [
          | inl same ↦ inl (record { root = v.root; one_is = v.is; other_is = subst (λ x. Root xs d j x) (sym same) v'.is })
          | inr z ↦ inr (lt, bridges d i j v.root v'.root lt v.is v'.is z)
        ]

    only : (d i j : ℕ) → Same ys d i j → Same xs d i j ⊎ ((d < h) × Bridges xs (record { one = a; other = b; levels = h }) d i j)
    only d i j w = elim (below_or d h) [
      | inl lt ↦ only_low d lt i j w
      | inr le ↦ inl (record { root = w.root; one_is = high_back d le i w.root w.one_is; other_is = high_back d le j w.root w.other_is })
    ]

    pub linked : AfterJoin xs ys (record { one = a; other = b; levels = h })
    linked = record { forest = forest; long = l.long; low = still_low; keeps = keeps; joins = meet; only = only }

pub flip : (xs ys : List Node) (a b h : ℕ) → AfterJoin xs ys (record { one = b; other = a; levels = h })
    → AfterJoin xs ys (record { one = a; other = b; levels = h })
flip xs ys a b h r = record {
  forest = r.forest;
  long = r.long;
  low = r.low;
  keeps = r.keeps;
  joins = λ d lt. same_back ys d b a (r.joins d lt);
  only = λ d i j w. elim (r.only d i j w) [ inl s ↦ inl s | inr (lt, z) ↦ inr (lt, turned d i j z) ];
} where
  turned : (d i j : ℕ) → Bridges xs (record { one = b; other = a; levels = h }) d i j
      → Bridges xs (record { one = a; other = b; levels = h }) d i j
  turned d i j (onward p q) = backward p q
  turned d i j (backward p q) = onward p q

-- nothing has to be done where the pair is joined on no level, or in one class on all
pub joined_on_none : (xs : List Node) (j : Join) → IsForest xs → AreLow xs j.levels → j.levels ≡ 0 → AfterJoin xs xs j
joined_on_none xs j f low z = record {
  forest = f;
  long = refl;
  low = low;
  keeps = λ d i k w. w;
  joins = λ d lt. absurd (omega (arith, lt, z));
  only = λ d i k w. inl w;
}

pub joined_before : (xs : List Node) (j : Join) (r s : ℕ) → IsForest xs → AreLow xs j.levels → Root xs 0 j.one r
    → Root xs 0 j.other s → r ≡ s → AfterJoin xs xs j
joined_before xs j r s f low k k' e = record {
  forest = f;
  long = refl;
  low = low;
  keeps = λ d i m w. w;
  joins = λ d lt. record { root = r; one_is = flat xs j.levels d low lt j.one r k; other_is = subst (λ x. Root xs d j.other x) (sym e) (flat xs j.levels d low lt j.other s k') };
  only = λ d i m w. inl w;
}

-- a root of the whole forest has no link
pub is_top : (xs : List Node) (i r : ℕ) → Root xs 0 i r → IsTop xs r
is_top xs i r k = record { inside = root_in xs 0 i r k; none = (let e = root_top xs 0 i r k in omega (arith, e)) }

pub is_low : (xs : List Node) (a b r s : ℕ) (n m : Node) → Root xs 0 a r → Root xs 0 b s → n ≡ get_or xs r n
    → m ≡ get_or xs s m → n.below ≤ m.below → IsLow xs r s
is_low xs a b r s n m k k' e g le = subst (λ x. x.below ≤ (node_at xs s).below) (node_is xs r n (root_in xs 0 a r k) e)
    (subst (λ x. n.below ≤ x.below) (node_is xs s m (root_in xs 0 b s k') g) le)
