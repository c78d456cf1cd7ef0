-- Arrivals that wait, in whatever order and with whatever urgency.
use Rattle.std.proofs.Common.{◌≡◌, ℕ, List, [], ◌∷◌, ◌++◌, Option, refl, sym, ap, ◌∙◌, subst, inl, inr}
use Rattle.std.specs.Prelude.{Contains}
use Rattle.std.specs.List.Sorted.{IsPermutation}
use Rattle.std.proofs.lemmas.List.Elements.{Contains-push, Contains-push_cases, Contains-append_left}
use Rattle.std.proofs.lemmas.List.Sorted.{Contains-permutation, IsPermutation-refl, IsPermutation-sym, IsPermutation-trans, IsPermutation-to_front, IsPermutation-push_more}
use Rattle.pt_instr.specs.Effects.{Kinds}
use Rattle.pt_kinds.specs.declared.forest.Forest.{Forest}
use Rattle.pt_kinds.specs.Forest.{Begins, IsInside, list_at}
use Rattle.pt_kind_flow.specs.declared.edges.Edge.{Edge}
use Rattle.pt_kind_flow.specs.declared.flow.Arrival.{Arrival}
use Rattle.pt_kind_flow.specs.Flow.{led, Graph, IsExact}
use Rattle.pt_kind_flow.specs.Search.{Seen, Open}
use Rattle.pt_kind_flow.proofs.Leading.{LeadsSoFar}

-- the same lists come to the same vertices
pub record SameComing (V W : List Arrival) : Type 0 where
  pub there : (a : Arrival) → Contains V a → (b : Arrival) × (Contains W b × ((b.to ≡ a.to) × (b.list ≡ a.list)))
  pub back : (b : Arrival) → Contains W b → (a : Arrival) × (Contains V a × ((a.to ≡ b.to) × (a.list ≡ b.list)))

pub same_order : (V W : List Arrival) → IsPermutation V W → SameComing V W
same_order V W p = record {
  there = λ a c. (a, (Contains-permutation V W a p c, (refl, refl)));
  back = λ b c. (b, (Contains-permutation W V b (IsPermutation-sym V W p) c, (refl, refl)));
}

-- one arrival is put in again
pub same_again : (W V : List Arrival) (a b : Arrival) → IsPermutation (b ∷ W) V → b.to ≡ a.to → b.list ≡ a.list → SameComing (W ++ a ∷ []) V
same_again W V a b p to list = record {
  there = λ x c. elim (Contains-push_cases W a x c) [
    | inl d ↦ (x, (Contains-permutation (W ++ b ∷ []) V x q (Contains-append_left W (b ∷ []) x d), (refl, refl)))
    | inr e ↦ (b, (Contains-permutation (W ++ b ∷ []) V b q (Contains-push W b), (to ∙ ap (λ y. y.to) e, list ∙ ap (λ y. y.list) e)))
  ];
  back = λ x c. elim (Contains-push_cases W b x (Contains-permutation V (W ++ b ∷ []) x (IsPermutation-sym (W ++ b ∷ []) V q) c)) [
    | inl d ↦ (x, (Contains-append_left W (a ∷ []) x d, (refl, refl)))
    | inr e ↦ (a, (Contains-push W a, (sym to ∙ ap (λ y. y.to) e, sym list ∙ ap (λ y. y.list) e)))
  ];
}
  where
    q : IsPermutation (W ++ b ∷ []) V
    q = IsPermutation-push_more W W V b (IsPermutation-refl W) p

pub open_as : (g : Graph) (f : Forest) (T : List (Option ℕ)) (V W : List Arrival) → Open g f T V → SameComing V W → Open g f T W
open_as g f T V W o s = record {
  forest = o.forest;
  long = o.long;
  inside = o.inside;
  due_inside = λ b c. let (a, (d, e)) = s.back b c in subst (λ i. IsInside f i) e.1 (o.due_inside a d);
  start = on 0 g.first o.start;
  above = o.above;
  due_above = λ b c. let (a, (d, e)) = s.back b c in
      subst (λ v. IsExact g v (list_at f b.list)) e.0 (subst (λ i. IsExact g a.to (list_at f i)) e.1 (o.due_above a d));
  goes_on = λ u i h e c. on e.to (led e (list_at f i)) (o.goes_on u i h e c);
}
  where
    on : (u : ℕ) (ks : Kinds) → Seen g f T V u ks → Seen g f T W u ks
    on u ks (inl k) = inl k
    on u ks (inr (inl k)) = inr (inl k)
    on u ks (inr (inr d)) = let (b, (c, e)) = s.there d.arrival d.among in
        inr (inr (record { arrival = b; among = c; to = e.0 ∙ d.to; begins = subst (λ i. Begins (list_at f i) ks) (sym e.1) d.begins }))

-- one is taken out
pub open_taken : (g : Graph) (f : Forest) (T : List (Option ℕ)) (V W : List Arrival) (a : Arrival) → Open g f T V → IsPermutation V (a ∷ W) → Open g f T (W ++ a ∷ [])
open_taken g f T V W a o p = open_as g f T V (W ++ a ∷ []) o (same_order V (W ++ a ∷ [])
    (IsPermutation-trans V (a ∷ W) (W ++ a ∷ []) p (IsPermutation-sym (W ++ a ∷ []) (a ∷ W) (IsPermutation-to_front W a))))

-- one more is put in
pub leads_into : (old new : Forest) (edges : List Edge) (done list : ℕ) (work W V : List Arrival) (a : Arrival) → LeadsSoFar old new edges done list work (W ++ a ∷ [])
    → IsPermutation (a ∷ W) V → LeadsSoFar old new edges done list work V
leads_into old new edges done list work W V a s p = record {
  grows = s.grows;
  kept = λ b c. Contains-permutation (W ++ a ∷ []) V b q (s.kept b c);
  came = λ b c. s.came b (Contains-permutation V (W ++ a ∷ []) b (IsPermutation-sym (W ++ a ∷ []) V q) c);
  all = λ i e h g. let (b, (c, l)) = s.all i e h g in (b, (Contains-permutation (W ++ a ∷ []) V b q c, l));
}
  where
    q : IsPermutation (W ++ a ∷ []) V
    q = IsPermutation-push_more W W V a (IsPermutation-refl W) p
