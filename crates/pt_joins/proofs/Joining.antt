-- The pairs are joined one by one, those of the most levels first.
use Rattle.std.proofs.Common.{◌≡◌, ℕ, ◌<◌, ◌≤◌, List, [], ◌∷◌, ◌++◌, length, refl, sym, ap, ◌∙◌, arith, subst, ◌⊎◌, inl, inr, get_or, length-append}
use Rattle.std.specs.Prelude.{Contains, MatchBool, nat_eq}
use Rattle.std.proofs.lemmas.Bool.Decides.{eqb_tells}
use Rattle.std.proofs.lemmas.List.{get_or_append_left}
use Rattle.std.proofs.lemmas.List.Elements.{Contains-push, Contains-push_cases, Contains-append_left}
use Rattle.pt_joins.specs.declared.joins.Join.{Join}
use Rattle.pt_joins.specs.declared.joins.Node.{Node}
use Rattle.pt_joins.specs.Joins.{Least, Joined, paired, related, same, back, along, Root, top, Same, IsForest, AreLow, AreWithin, Bridges, onward, backward, AfterJoin, Rises, IsByLevels, AreAlone, JoinsSoFar, TellsJoins}
use Rattle.pt_joins.proofs.Roots.{one_root, own_root, same_back, same_along}

pub none_in_empty : {X : Type 0} (x : X) → Contains [] x → ⊥
none_in_empty x (k, lt, is) = absurd (omega arith)

pub is_empty : {X : Type 0} (xs : List X) → length xs ≡ 0 → xs ≡ []
is_empty [] h = refl
is_empty (x ∷ xs) h = absurd (omega arith)

pub no_more : {X : Type 0} (xs ys : List X) → xs ≡ ys ++ [] → ys ≡ [] → xs ≡ []
no_more xs ys e h = e ∙ ap (λ zs. zs ++ []) h

at_last : (xs : List Join) (x d : Join) → get_or (xs ++ x ∷ []) (length xs) d ≡ x
at_last [] x d = refl
at_last (y ∷ xs) x d = at_last xs x d

-- in a list that rises the last has the most levels
rises_last : (xs : List Join) (x y : Join) → Rises (xs ++ x ∷ []) → Contains xs y → y.levels ≤ x.levels
rises_last xs x y r (k, lt, e) =
    let g = r k (length xs) y (omega (arith, lt)) (omega (arith, length-append xs (x ∷ []))) in
    let p : get_or (xs ++ x ∷ []) k y ≡ y = get_or_append_left xs (x ∷ []) y k lt ∙ e in
    subst (λ z. z.levels ≤ x.levels) p (subst (λ z. (get_or (xs ++ x ∷ []) k y).levels ≤ z.levels) (at_last xs x y) g)

rises_front : (xs : List Join) (x : Join) → Rises (xs ++ x ∷ []) → Rises xs
rises_front xs x r m n j le lt =
    let g = r m n j le (omega (arith, lt, length-append xs (x ∷ []))) in
    subst (λ z. z.levels ≤ (get_or xs n j).levels) (get_or_append_left xs (x ∷ []) j m (omega (arith, le, lt)))
    (subst (λ z. (get_or (xs ++ x ∷ []) m j).levels ≤ z.levels) (get_or_append_left xs (x ∷ []) j n lt) g)

-- at first each number is alone
pub alone_forest : (nodes : List Node) (count : ℕ) → AreAlone count nodes → IsForest nodes
alone_forest nodes count a = record {
  inside = λ i lt. absurd (omega (arith, lt, a.levels i));
  grows = λ i lt. absurd (omega (arith, lt, a.levels i));
  bound = λ i. omega (arith, a.below i);
  rooted = λ d i lt. record { root = i; is = top lt (omega (arith, a.levels i)) };
}

module _ (joins : List Join) (count : ℕ) where
  pub start : (sorted : List Join) (nodes : List Node) → IsByLevels joins sorted → AreAlone count nodes
      → JoinsSoFar joins sorted count nodes
  start sorted nodes b a = record {
    forest = alone_forest nodes count a;
    long = a.long;
    rises = b.rises;
    from = b.from;
    low = λ j c i lt. absurd (omega (arith, lt, a.levels i));
    sound = λ d i j w. subst (λ x. Joined joins d i x)
        (own_root nodes d i w.root (a.levels i) w.one_is ∙ sym (own_root nodes d j w.root (a.levels j) w.other_is)) same;
    whole = λ j c. inl (b.into j c);
  }

  module _ (left : List Join) (j : Join) (nodes : List Node) (s : JoinsSoFar joins (left ++ j ∷ []) count nodes) where
    pub next_low : AreLow nodes j.levels
    next_low = s.low j (Contains-push left j)

    pub next_within : AreWithin count joins → (j.one < length nodes) × (j.other < length nodes)
    next_within w = let (a, b) = w j (s.from j (Contains-push left j)) in (omega (arith, a, s.long), omega (arith, b, s.long))

    crossed : (d a b : ℕ) → d < j.levels → Bridges nodes j d a b → Joined joins d a b
    crossed d a b lt (onward p q) = along (s.sound d a j.one p) (along (related (paired (s.from j (Contains-push left j)) lt)) (s.sound d j.other b q))
    crossed d a b lt (backward p q) = along (s.sound d a j.other p) (along (back (related (paired (s.from j (Contains-push left j)) lt))) (s.sound d j.one b q))

    pub more : (nodes' : List Node) → AfterJoin nodes nodes' j → JoinsSoFar joins left count nodes'
    more nodes' r = record {
      forest = r.forest;
      long = r.long ∙ s.long;
      rises = rises_front left j s.rises;
      from = λ k c. s.from k (Contains-append_left left (j ∷ []) k c);
      low = λ k c i lt. let g = r.low i lt in let h = rises_last left j k s.rises c in omega (arith, g, h);
      sound = λ d a b w. elim (r.only d a b w) [ inl v ↦ s.sound d a b v | inr (lt, z) ↦ crossed d a b lt z ];
      whole = λ k c. elim (s.whole k c) [
        | inl x ↦ elim (Contains-push_cases left j k x) [
          | inl y ↦ inl y
          | inr e ↦ inr (subst (λ z. (d : ℕ) → d < z.levels → Same nodes' d z.one z.other) e r.joins)
        ]
        | inr g ↦ inr (λ d lt. r.keeps d k.one k.other (g d lt))
      ];
    }

  module _ (nodes : List Node) (s : JoinsSoFar joins [] count nodes) where
    pair_same : (d : ℕ) (j : Join) → Contains joins j → d < j.levels → Same nodes d j.one j.other
    pair_same d j c lt = elim (s.whole j c) [ inl x ↦ absurd (none_in_empty j x) | inr g ↦ g d lt ]

    -- what the pairs join is one number, or one class
    joined_same : (d a b : ℕ) → Joined joins d a b → (a ≡ b) ⊎ Same nodes d a b
    joined_same d _ _ (related (paired {j = j} c lt)) = inr (pair_same d j c lt)
    joined_same d a _ same = inl refl
    joined_same d a b (back h) = elim (joined_same d b a h) [ inl e ↦ inl (sym e) | inr w ↦ inr (same_back nodes d b a w) ]
    joined_same d a c (along {b = b} h g) = elim (joined_same d a b h) [
      | inl e ↦ subst (λ x. (x ≡ c) ⊎ Same nodes d x c) (sym e) (joined_same d b c g)
      | inr w ↦ elim (joined_same d b c g) [
        | inl e ↦ inr (subst (λ x. Same nodes d a x) e w)
        | inr v ↦ inr (same_along nodes d a b c w v)
      ]
    ]

    one_number : (d a b r t : ℕ) → Root nodes d a r → Root nodes d b t → (a ≡ b) ⊎ Same nodes d a b → r ≡ t
    one_number d a b r t k k' (inl e) = one_root nodes d b r t (subst (λ x. Root nodes d x r) e k) k'
    one_number d a b r t k k' (inr w) = one_root nodes d a r w.root k w.one_is ∙ sym (one_root nodes d b t w.root k' w.other_is)

    pub told : AreWithin count joins → TellsJoins joins count nodes
    told within = record {
      long = s.long;
      forest = s.forest;
      within = within;
      exact = λ d a b r t k k'. (
        (λ e. s.sound d a b (record { root = r; one_is = k; other_is = subst (λ x. Root nodes d b x) (sym e) k' })),
        (λ h. one_number d a b r t k k' (joined_same d a b h)),
      );
    }

-- what is joined is one number, or two of those that are counted
pub joined_within : (joins : List Join) (count level a b : ℕ) → AreWithin count joins → Joined joins level a b
    → (a ≡ b) ⊎ ((a < count) × (b < count))
joined_within joins count level _ _ w (related (paired {j = j} c lt)) = inr (w j c)
joined_within joins count level a _ w same = inl refl
joined_within joins count level a b w (back h) = elim (joined_within joins count level b a w h) [ inl e ↦ inl (sym e) | inr (x, y) ↦ inr (y, x) ]
joined_within joins count level a c w (along {b = b} h g) = elim (joined_within joins count level a b w h) [
  | inl e ↦ subst (λ x. (x ≡ c) ⊎ ((x < count) × (c < count))) (sym e) (joined_within joins count level b c w g)
  | inr (x, y) ↦ elim (joined_within joins count level b c w g) [
    | inl e ↦ inr (x, subst (λ z. z < count) e y)
    | inr (y', z) ↦ inr (x, z)
  ]
]

-- numbers that aren't counted are alone
pub outside : (joins : List Join) (count level a b : ℕ) → AreWithin count joins → (a < count → b < count → ⊥)
    → (a ≡ b → ⊥) → Joined joins level a b → ⊥
outside joins count level a b w out ne h = elim (joined_within joins count level a b w h) [ inl e ↦ ne e | inr (x, y) ↦ out x y ]

pub same_number : (joins : List Join) (level a b : ℕ) → a ≡ b → Joined joins level a b
same_number joins level a b e = subst (λ x. Joined joins level a x) e same

pub decides : (joins : List Join) (count level a b : ℕ) → AreWithin count joins → (a < count → b < count → ⊥)
    → MatchBool (nat_eq a b) (Joined joins level a b) (Joined joins level a b → ⊥)
decides joins count level a b w out = elim (eqb_tells a b) [
  | inl (t, e) ↦ subst (λ r. MatchBool r (Joined joins level a b) (Joined joins level a b → ⊥)) (sym t) (same_number joins level a b e)
  | inr (t, ne) ↦ subst (λ r. MatchBool r (Joined joins level a b) (Joined joins level a b → ⊥)) (sym t) (outside joins count level a b w out ne)
]

-- what a relation has is in the least equivalence of another where each of its pairs is
pub least_in : {R S : (one other : ℕ) → Type 0} → ((a b : ℕ) → R a b → Least S a b) → (a b : ℕ) → Least R a b → Least S a b
least_in f a b (related r) = f a b r
least_in f a _ same = same
least_in f a b (back h) = back (least_in f b a h)
least_in f a c (along {b = b} h g) = along (least_in f a b h) (least_in f b c g)
