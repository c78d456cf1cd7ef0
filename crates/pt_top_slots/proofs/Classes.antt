-- Two topmost slots have one number just where they are joined.
use Rattle.std.proofs.Common.{◌≡◌, ℕ, zero, suc, ◌+◌, ◌<◌, ◌≤◌, List, [], ◌∷◌, ◌++◌, length, Option, Some, None, ◌⊎◌, inl, inr, refl, sym, ap, ◌∙◌, subst, arith}
use Rattle.std.proofs.lemmas.Option.{same_Some}
use Rattle.pt_sizes.specs.Flow.{entry}
use Rattle.pt_sizes.proofs.Tables.{below_or, entry_out}
use Rattle.pt_joins.specs.declared.joins.Join.{Join}
use Rattle.pt_joins.specs.declared.joins.Node.{Node}
use Rattle.pt_joins.specs.Joins.{Joined, Root, top, link, TellsJoins}
use Rattle.pt_joins.proofs.Joining.{joined_within, same_number}
use Rattle.pt_top_slots.specs.declared.numbers.Numbers.{Numbers}
use Rattle.pt_top_slots.specs.declared.tops.TopSlots.{TopSlots}
use Rattle.pt_top_slots.specs.Numbers.{number_at, AreNumbers, StandsFor, root, alone, HasNumber, IsClass, Classed}
use Rattle.pt_top_slots.specs.TopSlots.{HasClass, AreTops}

root_from : (nodes : List Node) (level i r : ℕ) → Root nodes level i r → i < length nodes
root_from nodes level i _ (top h e) = h
root_from nodes level i r (link h lt k) = h

root_in : (nodes : List Node) (level i r : ℕ) → Root nodes level i r → r < length nodes
root_in nodes level i _ (top h e) = h
root_in nodes level i r (link h lt k) = root_in nodes level _ r k

-- the tables of places

entry_left : (T : List (Option ℕ)) (x : Option ℕ) (q : ℕ) → q < length T → entry (T ++ x ∷ []) q ≡ entry T q
entry_left [] x q h = absurd (omega arith)
entry_left (y ∷ T) x zero h = refl
entry_left (y ∷ T) x (suc q) h = entry_left T x q (omega arith)

entry_last : (T : List (Option ℕ)) (x : Option ℕ) (q : ℕ) → q ≡ length T → entry (T ++ x ∷ []) q ≡ x
entry_last [] x zero h = refl
entry_last [] x (suc q) h = absurd (omega arith)
entry_last (y ∷ T) x zero h = absurd (omega arith)
entry_last (y ∷ T) x (suc q) h = entry_last T x q (omega arith)

-- a class keeps its number where those that are known do
is_class_kept : (nodes : List Node) (old new : Numbers) (place : ℕ) (size class : Option ℕ)
    → ((r l i : ℕ) → number_at old r l ≡ Some i → number_at new r l ≡ Some i)
    → IsClass nodes old place size class → IsClass nodes new place size class
is_class_kept nodes old new place (Some (suc level)) (Some class) kept h = record { root = h.root; stands = h.stands; is = kept h.root level class h.is }
is_class_kept nodes old new place (Some (suc level)) None kept h = h
is_class_kept nodes old new place (Some zero) (Some class) kept h = h
is_class_kept nodes old new place (Some zero) None kept h = h
is_class_kept nodes old new place None (Some class) kept h = h
is_class_kept nodes old new place None None kept h = h

pub each_more : (nodes : List Node) (sizes : List (Option ℕ)) (classes : List (Option ℕ)) (at : ℕ) (class : Option ℕ) (old new : Numbers) → length classes ≡ at
    → ((pc : ℕ) → pc < at → IsClass nodes old pc (entry sizes pc) (entry classes pc)) → Classed nodes at (entry sizes at) class old new
    → (pc : ℕ) → pc < at + 1 → IsClass nodes new pc (entry sizes pc) (entry (classes ++ class ∷ []) pc)
each_more nodes sizes classes at class old new long each c pc lt = elim (below_or pc at lt) [
  | inl h ↦ subst (λ o. IsClass nodes new pc (entry sizes pc) o) (sym (entry_left classes class pc (omega (arith, h, long))))
      (is_class_kept nodes old new pc (entry sizes pc) (entry classes pc) c.kept (each pc h))
  | inr e ↦ subst (λ o. IsClass nodes new pc (entry sizes pc) o) (sym (entry_last classes class pc (omega (arith, e, long))))
      (subst (λ q. IsClass nodes new q (entry sizes q) class) (sym e) c.here)
]

-- what the classes of all places tell

record Parts (nodes : List Node) (n : Numbers) (place level : ℕ) (class : Option ℕ) : Type 0 where
  number : ℕ
  is : class ≡ Some number
  has : HasNumber nodes n place level number

parts : (nodes : List Node) (n : Numbers) (place level : ℕ) (size class : Option ℕ) → size ≡ Some (suc level) → IsClass nodes n place size class
    → Parts nodes n place level class
parts nodes n place level (Some (suc m)) (Some class) e h =
    let same : m ≡ level = omega (arith, same_Some _ _ e) in
    subst (λ l. Parts nodes n place l (Some class)) same (record { number = class; is = refl; has = h })
parts nodes n place level (Some (suc m)) None e h = absurd h
parts nodes n place level (Some zero) class e h = absurd (let z : zero ≡ suc level = same_Some _ _ e in omega (arith, z))
parts nodes n place level None class e h = absurd cc

slots : (nodes : List Node) (n : Numbers) (place c : ℕ) (size class : Option ℕ) → class ≡ Some c → IsClass nodes n place size class
    → (m : ℕ) × (size ≡ Some (suc m))
slots nodes n place c (Some (suc m)) class e h = (m, refl)
slots nodes n place c (Some zero) (Some d) e h = absurd h
slots nodes n place c (Some zero) None e h = absurd cc
slots nodes n place c None (Some d) e h = absurd h
slots nodes n place c None None e h = absurd cc

module _ (joins : List Join) (count : ℕ) (nodes : List Node) (t : TellsJoins joins count nodes) where
  joined_roots : (level q r s u : ℕ) → StandsFor nodes level q s → StandsFor nodes level r u → s ≡ u → Joined joins level q r
  joined_roots level q r s u (root k) (root k') e = (t.exact level q r s u k k').0 e
  joined_roots level q r s _ (root k) (alone le) e = absurd (omega (arith, root_in nodes level q s k, le, e))
  joined_roots level q r _ u (alone le) (root k) e = absurd (omega (arith, root_in nodes level r u k, le, e))
  joined_roots level q r _ _ (alone le) (alone le') e = same_number joins level q r e

  one_of : (level q r : ℕ) → (length nodes ≤ q) ⊎ (length nodes ≤ r) → Joined joins level q r → q ≡ r
  one_of level q r out h = elim (joined_within joins count level q r t.within h) [
    | inl e ↦ e
    | inr (a, b) ↦ absurd (elim out [ inl le ↦ omega (arith, le, a, t.long) | inr le ↦ omega (arith, le, b, t.long) ])
  ]

  roots_joined : (level q r s u : ℕ) → StandsFor nodes level q s → StandsFor nodes level r u → Joined joins level q r → s ≡ u
  roots_joined level q r s u (root k) (root k') h = (t.exact level q r s u k k').1 h
  roots_joined level q r s _ (root k) (alone le) h =
      let e = one_of level q r (inr le) h in absurd (omega (arith, root_from nodes level q s k, le, e))
  roots_joined level q r _ u (alone le) (root k) h =
      let e = one_of level q r (inl le) h in absurd (omega (arith, root_from nodes level r u k, le, e))
  roots_joined level q r _ _ (alone le) (alone le') h = one_of level q r (inl le) h

  module _ (n : Numbers) (are : AreNumbers n) where
    one_class : (q r m l i j : ℕ) → HasNumber nodes n q m i → HasNumber nodes n r l j → i ≡ j → (m ≡ l) × Joined joins m q r
    one_class q r m l i j h k e =
        let (roots, levels) = are.one h.root m k.root l j (h.is ∙ ap (λ x. Some x) e) k.is in
        (levels, joined_roots m q r h.root k.root h.stands (subst (λ x. StandsFor nodes x r k.root) (sym levels) k.stands) roots)

    joined_class : (q r m l i j : ℕ) → HasNumber nodes n q m i → HasNumber nodes n r l j → (m ≡ l) × Joined joins m q r → i ≡ j
    joined_class q r m l i j h k (e, joined) =
        let same = roots_joined m q r h.root k.root h.stands (subst (λ x. StandsFor nodes x r k.root) (sym e) k.stands) joined in
        same_Some _ _ (sym h.is ∙ (ap (λ x. number_at n x m) same ∙ (ap (λ x. number_at n k.root x) e ∙ k.is)))

pub are_tops : (nodes : List Node) (sizes : List (Option ℕ)) (tops : TopSlots) (n : Numbers) → AreNumbers n → tops.count ≡ n.count
    → length tops.classes.items ≡ length sizes
    → ((pc : ℕ) → pc < length sizes → IsClass nodes n pc (entry sizes pc) (entry tops.classes.items pc))
    → (joins : List Join) (count : ℕ) → TellsJoins joins count nodes → AreTops joins sizes tops
are_tops nodes sizes tops n are is long each joins count t = record {
  whole = λ pc m e. has_class pc m (parts nodes n pc m (entry sizes pc) (entry tops.classes.items pc) e (all pc));
  sound = λ pc c e. let (m, s) = slots nodes n pc c (entry sizes pc) (entry tops.classes.items pc) e (all pc) in record { below = m; is = s };
  exact = λ q r m l i j e f g h.
      let a = parts nodes n q m (entry sizes q) (entry tops.classes.items q) e (all q) in
      let b = parts nodes n r l (entry sizes r) (entry tops.classes.items r) f (all r) in
      let d = subst (λ x. HasNumber nodes n q m x) (same_Some _ _ (sym a.is ∙ g)) a.has in
      let k = subst (λ x. HasNumber nodes n r l x) (same_Some _ _ (sym b.is ∙ h)) b.has in
      ((λ x. one_class joins count nodes t n are q r m l i j d k x), (λ x. joined_class joins count nodes t n are q r m l i j d k x));
} where
  none_classed : (pc : ℕ) (size class : Option ℕ) → size ≡ None → class ≡ None → IsClass nodes n pc size class
  none_classed pc size class e f = subst (λ o. IsClass nodes n pc size o) (sym f) (subst (λ o. IsClass nodes n pc o None) (sym e) tt)

  by_place : (pc : ℕ) → (pc < length sizes) ⊎ (length sizes ≤ pc) → IsClass nodes n pc (entry sizes pc) (entry tops.classes.items pc)
  by_place pc (inl lt) = each pc lt
  by_place pc (inr le) = none_classed pc _ _ (entry_out sizes pc le) (entry_out tops.classes.items pc (omega (arith, le, long)))

  low_or : (a b : ℕ) → (a < b) ⊎ (b ≤ a)
  low_or a zero = inr (omega arith)
  low_or zero (suc b) = inl (omega arith)
  low_or (suc a) (suc b) = elim (low_or a b) [ inl h ↦ inl (omega (arith, h)) | inr h ↦ inr (omega (arith, h)) ]

  all : (pc : ℕ) → IsClass nodes n pc (entry sizes pc) (entry tops.classes.items pc)
  all pc = by_place pc (low_or pc (length sizes))

  has_class : (pc m : ℕ) → Parts nodes n pc m (entry tops.classes.items pc) → HasClass tops pc
  has_class pc m p = record { class = p.number; is = p.is; low = omega (arith, are.low p.has.root m p.number p.has.is, is) }
