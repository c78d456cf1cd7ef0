-- The roots of a level.
use Rattle.std.proofs.Common.{◌≡◌, ℕ, ◌<◌, ◌≤◌, List, length, refl, ap, ◌∙◌, arith, subst, zero, suc, ◌⊎◌, inl, inr, [], ◌∷◌, get_or}
use Rattle.pt_joins.specs.declared.joins.Node.{Node}
use Rattle.pt_joins.specs.Joins.{node_at, Root, top, link, Same}

pub eq_or : (a b : ℕ) → (a ≡ b) ⊎ (a ≡ b → ⊥)
eq_or zero zero = inl refl
eq_or zero (suc b) = inr (λ h. omega arith)
eq_or (suc a) zero = inr (λ h. omega arith)
eq_or (suc a) (suc b) = elim (eq_or a b) [
  | inl h ↦ inl (ap (λ n. suc n) h)
  | inr ne ↦ inr (λ h. ne (omega arith))
]

pub below_or : (a b : ℕ) → (a < b) ⊎ (b ≤ a)
below_or zero zero = inr (omega arith)
below_or zero (suc b) = inl (omega arith)
below_or (suc a) zero = inr (omega arith)
below_or (suc a) (suc b) = elim (below_or a b) [ inl h ↦ inl (omega arith) | inr h ↦ inr (omega arith) ]

module _ (nodes : List Node) (level : ℕ) where
  pub root_from : (i r : ℕ) → Root nodes level i r → i < length nodes
  root_from i _ (top h e) = h
  root_from i r (link h lt k) = h

  pub root_in : (i r : ℕ) → Root nodes level i r → r < length nodes
  root_in i _ (top h e) = h
  root_in i r (link h lt k) = root_in _ r k

  pub root_top : (i r : ℕ) → Root nodes level i r → (node_at nodes r).levels ≤ level
  root_top i _ (top h e) = e
  root_top i r (link h lt k) = root_top _ r k

  pub one_root : (i r s : ℕ) → Root nodes level i r → Root nodes level i s → r ≡ s
  one_root i _ _ (top h e) (top h' e') = refl
  one_root i _ s (top h e) (link h' lt k) = absurd (omega arith)
  one_root i r _ (link h lt k) (top h' e') = absurd (omega arith)
  one_root i r s (link h lt k) (link h' lt' k') = one_root _ r s k k'

  pub same_back : (i j : ℕ) → Same nodes level i j → Same nodes level j i
  same_back i j w = record { root = w.root; one_is = w.other_is; other_is = w.one_is }

  pub same_along : (i j k : ℕ) → Same nodes level i j → Same nodes level j k → Same nodes level i k
  same_along i j k w v = record {
    root = w.root;
    one_is = w.one_is;
    other_is = subst (λ x. Root nodes level k x) (one_root j v.root w.root v.one_is w.other_is) v.other_is;
  }

  -- a node without a link stands for itself
  pub own_root : (i r : ℕ) → (node_at nodes i).levels ≡ 0 → Root nodes level i r → i ≡ r
  own_root i _ z (top h e) = refl
  own_root i r z (link h lt k) = absurd (omega (arith, z))

get_same : {X : Type 0} (xs : List X) (i : ℕ) (x y : X) → i < length xs → get_or xs i x ≡ get_or xs i y
get_same [] i x y h = absurd (omega arith)
get_same (z ∷ xs) zero x y h = refl
get_same (z ∷ xs) (suc i) x y h = get_same xs i x y (omega arith)

-- what is read of a list of nodes
pub node_is : (nodes : List Node) (i : ℕ) (n : Node) → i < length nodes → n ≡ get_or nodes i n → n ≡ node_at nodes i
node_is nodes i n h e = e ∙ get_same nodes i n (node_at nodes i) h ∙ get_same nodes i (node_at nodes i) (record { parent = 0; levels = 0; below = 0 }) h
