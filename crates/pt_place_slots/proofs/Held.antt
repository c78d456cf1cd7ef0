-- Up to which slot lists hold completions, list by list.
use Rattle.std.proofs.Common.{◌≡◌, inl, inr, ℕ, zero, suc, ◌+◌, ◌<◌, List, [], ◌∷◌, ◌++◌, length, get_or, Some, refl, sym, ap, ◌∙◌, subst, arith, replicate, length-append}
use Rattle.std.specs.Prelude.{slice_get}
use Rattle.std.proofs.lemmas.List.{length-replicate}
use Rattle.std.proofs.lemmas.Option.{same_Some, slice_get-get_or}
use Rattle.pt_instr.specs.declared.kinds.Kind.{Kind}
use Rattle.pt_instr.specs.declared.kinds.Kind.TheVariants.{Value, Cell, Iter, Exc, Pending, With}
use Rattle.pt_instr.specs.Effects.{Kinds}
use Rattle.pt_jump.specs.Slots.{IsHeld}
use Rattle.pt_kinds.specs.declared.forest.Node.{Node}
use Rattle.pt_kinds.specs.declared.forest.Forest.{Forest}
use Rattle.pt_kinds.specs.Forest.{IsForest, IsRun, list_at}
use Rattle.pt_place_slots.specs.Lists.{held_up_to}
use Rattle.pt_place_slots.proofs.Elements.{none_some, got_below, got_left, got_right, got_cases, same_got, last_got, below_or}

pub none_held : (ks : Kinds) (n : ℕ) → ks ≡ [] → n ≡ 0 → IsHeld ks n
none_held ks n e z = record {
  among = λ slot h. absurd (none_some Pending (subst (λ ls. slice_get ls slot ≡ Some Pending) e h));
  ends = inl z;
}

-- above no completion lies
lower_held : (ks : Kinds) (c n : ℕ) (k : Kind) → (k ≡ Pending → ⊥) → IsHeld ks n → IsHeld (ks ++ replicate c k) n
lower_held ks c n k other h = record {
  among = λ slot e. elim (got_cases ks (replicate c k) slot Pending e) [
    | inl x ↦ h.among slot x
    | inr (j, x) ↦ absurd (other (same_got c j k Pending x))
  ];
  ends = elim h.ends [
    | inl z ↦ inl z
    | inr x ↦ inr (record { slot = x.slot; last = x.last; holds = got_left ks (replicate c k) x.slot Pending x.holds })
  ];
}

-- completions lie on top
top_held : (ks : Kinds) (c n : ℕ) → 0 < c → n ≡ length (ks ++ replicate c Pending) → IsHeld (ks ++ replicate c Pending) n
top_held ks zero n some e = absurd (omega (arith, some))
top_held ks (suc c) n some e = record {
  among = λ slot h. let l = got_below (ks ++ replicate (suc c) Pending) slot Pending h in omega (arith, l, e);
  ends = inr (record {
    slot = length ks + c;
    last = (let a = length-append ks (replicate (suc c) Pending) in let l = length-replicate (suc c) Pending in omega (arith, e, a, l));
    holds = got_right ks (replicate (suc c) Pending) c ∙ last_got c Pending;
  });
}

run_held : (ks : Kinds) (c m n : ℕ) (k : Kind) → 0 < c → m ≡ length (ks ++ replicate c k) → IsHeld ks n
    → IsHeld (ks ++ replicate c k) (held_up_to k m n)
run_held ks c m n Pending some e h = top_held ks c m some e
run_held ks c m n Value some e h = lower_held ks c n Value (λ x. cc) h
run_held ks c m n Cell some e h = lower_held ks c n Cell (λ x. cc) h
run_held ks c m n Iter some e h = lower_held ks c n Iter (λ x. cc) h
run_held ks c m n Exc some e h = lower_held ks c n Exc (λ x. cc) h
run_held ks c m n With some e h = lower_held ks c n With (λ x. cc) h

either_zero : (k : Kind) (m n : ℕ) → m ≡ 0 → n ≡ 0 → held_up_to k m n ≡ 0
either_zero Pending m n e z = e
either_zero Value m n e z = z
either_zero Cell m n e z = z
either_zero Iter m n e z = z
either_zero Exc m n e z = z
either_zero With m n e z = z

nothing_in : (held : List ℕ) (i : ℕ) → length held ≡ 0 → get_or held i 0 ≡ 0
nothing_in [] i e = refl
nothing_in (x ∷ held) i e = absurd (omega (arith, e))

-- so many lists are done
abbrev pub HeldBelow : Forest → List ℕ → (done : ℕ) → Type 0
HeldBelow f held done = (length held ≡ done) × ((list : ℕ) → list < done → IsHeld (list_at f list) (get_or held list 0))

module _ (f : Forest) (forest : IsForest f) (held : List ℕ) where
  of_node : (at : ℕ) (n : Node) → slice_get f.nodes.items at ≡ Some n → HeldBelow f held at
      → IsHeld (list_at f at) (held_up_to n.kind n.length (get_or held n.parent 0))
  of_node zero n stands (long, below) =
      let root = forest.first in
      let same : root.node ≡ n = same_Some root.node n (sym root.stands ∙ stands) in
      none_held (list_at f 0) (held_up_to n.kind n.length (get_or held n.parent 0)) root.none
      (either_zero n.kind n.length (get_or held n.parent 0) (sym (ap (λ (x : Node). x.length) same) ∙ root.root.long) (nothing_in held n.parent long))
  of_node (suc k) n stands (long, below) =
      let r = forest.each (suc k) n (omega arith) stands in
      subst (λ ks. IsHeld ks (held_up_to n.kind n.length (get_or held n.parent 0))) (sym r.is)
      (run_held (list_at f n.parent) n.count n.length (get_or held n.parent 0) n.kind r.some (r.long ∙ ap length r.is) (below n.parent r.low))

  pub held_more : (at : ℕ) (n : Node) → at < length f.nodes.items → n ≡ get_or f.nodes.items at n → HeldBelow f held at
      → (held' : List ℕ) (v : ℕ) → held' ≡ held ++ v ∷ [] → v ≡ held_up_to n.kind n.length (get_or held n.parent 0)
      → HeldBelow f held' (at + 1)
  held_more at n lt at_is so held' v e is = (
    ap length e ∙ (length-append held (v ∷ []) ∙ (let l = so.0 in let x : length held + length (v ∷ []) ≡ at + 1 = omega (arith, l) in x)),
    λ list l. elim (below_or list at l) [
      | inl low ↦ subst (λ m. IsHeld (list_at f list) m) (sym (ap (λ xs. get_or xs list 0) e ∙ left held list (let s = so.0 in omega (arith, low, s)))) (so.1 list low)
      | inr same ↦ subst (λ k. IsHeld (list_at f k) (get_or held' k 0)) (sym same)
          (subst (λ m. IsHeld (list_at f at) m) (sym (ap (λ xs. get_or xs at 0) e ∙ (ap (get_or_of (held ++ v ∷ [])) (sym so.0) ∙ last held)))
          (subst (λ m. IsHeld (list_at f at) m) (sym is)
          (of_node at n (slice_get-get_or f.nodes.items at n lt ∙ ap (λ x. Some x) (sym at_is)) so)))
    ],
  ) where
    get_or_of : List ℕ → ℕ → ℕ
    get_or_of xs i = get_or xs i 0

    left : (xs : List ℕ) (i : ℕ) → i < length xs → get_or (xs ++ v ∷ []) i 0 ≡ get_or xs i 0
    left [] i l = absurd (omega (arith, l))
    left (x ∷ xs) zero l = refl
    left (x ∷ xs) (suc i) l = left xs i (omega (arith, l))

    last : (xs : List ℕ) → get_or (xs ++ v ∷ []) (length xs) 0 ≡ v
    last [] = refl
    last (x ∷ xs) = last xs

pub no_list_held : (f : Forest) (held : List ℕ) → held ≡ [] → HeldBelow f held 0
no_list_held f held e = (ap length e, λ list l. absurd (omega (arith, l)))

-- the run that a node is
pub run_of : (f : Forest) → IsForest f → (list : ℕ) (n : Node) → 0 < list → list < length f.nodes.items → n ≡ get_or f.nodes.items list n
    → IsRun f.nodes.items f.known list n
run_of f forest list n some lt e = forest.each list n some (slice_get-get_or f.nodes.items list n lt ∙ ap (λ x. Some x) (sym e))
