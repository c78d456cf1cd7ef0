-- The items of the list that a block gave are unpacked, and the truth of what an exit gave swallows a raise, as in a run.
use Rattle.std.proofs.Common.{◌≡◌, ◌∙◌, ◌+◌, ◌-◌, ◌<◌, ℕ, zero, suc, List, [], ◌∷◌, ◌++◌, length, map, get_or, Bool, true, false, Option, Some, None, Result, Ok, Err, refl, sym, ap, subst, eqb-true, eq-eqb, arith}
use Rattle.std.proofs.Math.Seq.{drop-cons}
use Rattle.std.specs.Prelude.{drop, nat_eq, option_map, if◌then◌else◌}
use Rattle.pt_base.specs.declared.numbers.Pc.{Pc}
use Rattle.pt_heap.specs.declared.completion.Completion.{Completion}
use Rattle.pt_heap.specs.declared.completion.Completion.TheVariants as completion
use Rattle.pt_heap.specs.declared.object.Object.{Object}
use Rattle.pt_heap.specs.declared.value.Value.{Value}
use Rattle.pt_heap.specs.declared.value.Value.TheVariants as value
use Rattle.pt_content.specs.declared.op.Op.TheVariants as op
use Rattle.pt_content.specs.declared.answer.PrimAns.{PrimAns}
use Rattle.pt_content.specs.declared.answer.PrimAns.TheVariants as prim
use Rattle.pt_prims.specs.Operations.{prim_answer, prim_heap}
use Rattle.pt_frames.specs.declared.activation.Activation.{Activation}
use Rattle.pt_frames.specs.declared.purpose.Purpose.TheVariants.{Exit, Unpack}
use Rattle.pt_frames.specs.declared.slot.Slot.{Slot}
use Rattle.pt_frames.specs.declared.slot.Slot.TheVariants as slot
use Rattle.sem_control.specs.control.Turn.{Row}
use Rattle.sem_code.specs.slots.Pops.{giving}
use Rattle.sem_code.specs.slots.Slots as S
use Rattle.sem_code.specs.slots.Slots.{State, on}
use Rattle.sem_run.specs.transitions.Successors.{to}
use Rattle.sem_rows.specs.pt_host.Primitives.{a_truth, answer_if, of_prim, prim_asked, row_from, so_many}
use Rattle.sem_rows.specs.pt_host.Trees.{then_with}
use Rattle.sem_rows.specs.heap_rows.Leads.{by_tree}
use Rattle.sem_rows.specs.heap_rows.Told.{row_count, unpacks}
use Rattle.sem_rows.specs.heap_rows.Views.{completion_view, slots_view}
use Rattle.pt_transfers.specs.pt_machine_state.declared.blocks.BlockCode.{BlockCode}
use Rattle.pt_transfers.specs.pt_machine_state.declared.blocks.Blocks.{Blocks}
use Rattle.pt_transfers.specs.pt_machine_state.declared.machine.Machine.{Machine}
use Rattle.pt_transfers.specs.pt_machine_state.declared.machine.Stride.{Stride}
use Rattle.pt_transfers.specs.pt_machine_state.declared.machine.Stride.TheVariants as stride
use Rattle.pt_transfers.specs.pt_machine_state.declared.writes.Writes.{Writes}
use Rattle.pt_transfers.specs.pt_machine_state.Applies.{Asking, LedTo, Stands, Takes, here_at, object_of}
use Rattle.pt_transfers.specs.pt_machine_state.Views.{stores_of}
use Rattle.pt_transfers.proofs.pt_machine_state.FailLemmas.{stands-grown}
use Rattle.pt_transfers.proofs.pt_machine_state.LeftLemmas.{two-down}
use Rattle.pt_progress.proofs.MovedLemmas.{next-led}
use Rattle.pt_progress.proofs.OperatedLemmas.{TakesBy, takes-led, takes_refused}
use Rattle.pt_progress.specs.Taking.{IsRefused, Refuses, left_of, moved, over, raise_in, row_or, truth_or}

-- values that are put on the slots, the first one on top

drop-all : (vs : List Value) → drop (length vs) vs ≡ []
drop-all [] = refl
drop-all (v ∷ vs) = drop-all vs

module _ (vs : List Value) (n : ℕ) (is : n ≡ length vs) where
  pub none_over : (slots : List Slot) → slots ≡ map slot.Value (drop (n - 0) vs) ++ slots
  none_over slots = ap (λ l. map slot.Value l ++ slots) (sym (ap (λ k. drop k vs) (let k : n - 0 ≡ length vs = omega (arith, is) in k) ∙ drop-all vs))

  pub one_over : (at : ℕ) (old slots new : List Slot) (v d : Value) → at < n → slots ≡ map slot.Value (drop (n - at) vs) ++ old
      → v ≡ get_or vs (n - 1 - at) d → new ≡ slot.Value v ∷ slots → new ≡ map slot.Value (drop (n - (at + 1)) vs) ++ old
  one_over at old slots new v d h e f g =
      g ∙ (ap (λ ss. slot.Value v ∷ ss) e
      ∙ (ap (λ w. slot.Value w ∷ (map slot.Value (drop (n - at) vs) ++ old)) f
      ∙ (ap (λ k. slot.Value (get_or vs (n - 1 - at) d) ∷ (map slot.Value (drop k vs) ++ old)) (let k : n - at ≡ suc (n - 1 - at) = omega (arith, h) in k)
      ∙ (ap (λ l. map slot.Value l ++ old) (sym (drop-cons vs (n - 1 - at) d (omega (arith, h, is))))
      ∙ ap (λ k. map slot.Value (drop k vs) ++ old) (let k : n - 1 - at ≡ n - (at + 1) = omega (arith, h) in k)))))

  pub all_over : (at : ℕ) (old slots : List Slot) → at ≡ n → slots ≡ map slot.Value (drop (n - at) vs) ++ old → slots ≡ map slot.Value vs ++ old
  all_over at old slots h e = e ∙ ap (λ k. map slot.Value (drop k vs) ++ old) (let k : n - at ≡ 0 = omega (arith, h) in k)

-- as many values as are wanted are a row of them

row_is : (n : ℕ) (vs : List Value) (slots : List Slot) → length vs ≡ n
    → (r : Row Value n) × ((row_from n vs ≡ Some r) × (giving n r (slots_view slots) ≡ slots_view (over vs slots)))
row_is zero [] slots e = (tt, (refl, refl))
row_is zero (v ∷ vs) slots e = absurd (omega (arith, e))
row_is (suc n) [] slots e = absurd (omega (arith, e))
row_is (suc n) (v ∷ vs) slots e =
    let given = row_is n vs slots (omega (arith, e)) in
    ((v, given.0), (ap (λ o. option_map (λ r. (v, r)) o) given.1.0, ap (λ ss. S.value v ∷ ss) given.1.1))

row_none : (n : ℕ) (vs : List Value) → (length vs ≡ n → ⊥) → row_from n vs ≡ None
row_none zero [] e = absurd (e refl)
row_none zero (v ∷ vs) e = refl
row_none (suc n) [] e = refl
row_none (suc n) (v ∷ vs) e = ap (λ o. option_map (λ r. (v, r)) o) (row_none n vs (λ same. e (let h : suc (length vs) ≡ suc n = omega (arith, same) in h)))

module _ (n : ℕ) where
  abbrev RowOr : Type 0
  RowOr = Result (List Value) PrimAns

  -- an answer that is no such row is refused
  refused_values : (ws : List Value) (b : Bool) → nat_eq (length ws) n ≡ b → (x : PrimAns) → ◌≡◌ {A = RowOr} (if b then Ok ws else Err (prim.Values ws)) (Err x)
      → (prim.Values ws ≡ x) × (row_from n ws ≡ None)
  refused_values ws true e x f = absurd (cc)
  refused_values ws false e x f =
      (let same : prim.Values ws ≡ x = cc in same, row_none n ws (λ same. absurd (let t : nat_eq (length ws) n ≡ true = eq-eqb (length ws) n same in cc)))

  refused_row : (p x : PrimAns) → row_or n p ≡ Err x → (p ≡ x) × IsRefused (so_many n) p
  refused_row (prim.Value v) x e = (let same : prim.Value v ≡ x = cc in same, refl)
  refused_row (prim.Values ws) x e = refused_values ws (nat_eq (length ws) n) refl x e
  refused_row prim.End x e = (let same : prim.End ≡ x = cc in same, refl)
  refused_row (prim.Raise class arg) x e = (let same : prim.Raise class arg ≡ x = cc in same, tt)
  refused_row (prim.Help helper vs inverted) x e = (let same : prim.Help helper vs inverted ≡ x = cc in same, tt)
  refused_row (prim.Print t) x e = (let same : prim.Print t ≡ x = cc in same, refl)
  refused_row (prim.Outside what) x e = (let same : prim.Outside what ≡ x = cc in same, tt)

  given_values : (ws vs : List Value) (b : Bool) → nat_eq (length ws) n ≡ b → ◌≡◌ {A = RowOr} (if b then Ok ws else Err (prim.Values ws)) (Ok vs)
      → (prim.Values ws ≡ prim.Values vs) × (length vs ≡ n)
  given_values ws vs true e f =
      let same : ws ≡ vs = cc in
      (ap (λ l. prim.Values l) same, ap length (sym same) ∙ eqb-true (length ws) n e)
  given_values ws vs false e f = absurd (cc)

  given_row : (p : PrimAns) (vs : List Value) → row_or n p ≡ Ok vs → (p ≡ prim.Values vs) × (length vs ≡ n)
  given_row (prim.Value v) vs e = absurd (cc)
  given_row (prim.Values ws) vs e = given_values ws vs (nat_eq (length ws) n) refl e
  given_row prim.End vs e = absurd (cc)
  given_row (prim.Raise class arg) vs e = absurd (cc)
  given_row (prim.Help helper us inverted) vs e = absurd (cc)
  given_row (prim.Print t) vs e = absurd (cc)
  given_row (prim.Outside what) vs e = absurd (cc)

-- the same of a truth

refused_truth : (p x : PrimAns) → truth_or p ≡ Err x → (p ≡ x) × IsRefused a_truth p
refused_truth (prim.Value value.None) x e = (let same : prim.Value value.None ≡ x = cc in same, refl)
refused_truth (prim.Value (value.Bool b)) x e = absurd (cc)
refused_truth (prim.Value (value.Int z)) x e = (let same : prim.Value (value.Int z) ≡ x = cc in same, refl)
refused_truth (prim.Value value.Ellipsis) x e = (let same : prim.Value value.Ellipsis ≡ x = cc in same, refl)
refused_truth (prim.Value value.NotImplemented) x e = (let same : prim.Value value.NotImplemented ≡ x = cc in same, refl)
refused_truth (prim.Value (value.Obj id)) x e = (let same : prim.Value (value.Obj id) ≡ x = cc in same, refl)
refused_truth (prim.Values vs) x e = (let same : prim.Values vs ≡ x = cc in same, refl)
refused_truth prim.End x e = (let same : prim.End ≡ x = cc in same, refl)
refused_truth (prim.Raise class arg) x e = (let same : prim.Raise class arg ≡ x = cc in same, tt)
refused_truth (prim.Help helper vs inverted) x e = (let same : prim.Help helper vs inverted ≡ x = cc in same, tt)
refused_truth (prim.Print t) x e = (let same : prim.Print t ≡ x = cc in same, refl)
refused_truth (prim.Outside what) x e = (let same : prim.Outside what ≡ x = cc in same, tt)

given_truth : (p : PrimAns) (b : Bool) → truth_or p ≡ Ok b → p ≡ prim.Value (value.Bool b)
given_truth (prim.Value value.None) b e = absurd (cc)
given_truth (prim.Value (value.Bool c)) b e = let same : c ≡ b = cc in ap (λ x. prim.Value (value.Bool x)) same
given_truth (prim.Value (value.Int z)) b e = absurd (cc)
given_truth (prim.Value value.Ellipsis) b e = absurd (cc)
given_truth (prim.Value value.NotImplemented) b e = absurd (cc)
given_truth (prim.Value (value.Obj id)) b e = absurd (cc)
given_truth (prim.Values vs) b e = absurd (cc)
given_truth prim.End b e = absurd (cc)
given_truth (prim.Raise class arg) b e = absurd (cc)
given_truth (prim.Help helper vs inverted) b e = absurd (cc)
given_truth (prim.Print t) b e = absurd (cc)
given_truth (prim.Outside what) b e = absurd (cc)

module _ (blocks : Blocks) (caller : BlockCode) (next : Pc) (a : Activation) (m : Machine) (w : Writes) where
  abbrev with_heap : List Object → Machine
  with_heap k = record m { heap = k }

  -- unpacking

  module _ (before : ℕ) (after : Option ℕ) (given : Value) where
    abbrev row_over : Asking → Row Value (row_count before after) → State Value
    row_over q vs = on q.ins.next (giving (row_count before after) vs (slots_view m.here.slots))

    unpacks-by : TakesBy blocks caller next m w a (Unpack before after) (so_many (row_count before after)) row_over (unpacks before after) (given ∷ []) given
    unfolding then_with
    unpacks-by q = refl

    module _ (p : PrimAns) (k : List Object) (is : p ≡ prim_answer (unpacks before after) (given ∷ []) m.heap) (put : k ≡ prim_heap (unpacks before after) (given ∷ []) m.heap) where
      row-led : (vs : List Value) → length vs ≡ row_count before after → (q : Asking) → Stands blocks caller next m q
          → LedTo (by_tree (object_of q m) q.ins (row_over q) (slots_view m.here.slots) (answer_if (row_from (row_count before after) vs) (stores_of q.program (with_heap k)))) q stride.Goes (with_heap k) w
          (moved next (over vs m.here.slots) (with_heap k)) w
      row-led vs e q stands =
          let row = row_is (row_count before after) vs m.here.slots e in
          subst (λ o. LedTo (by_tree (object_of q m) q.ins (row_over q) (slots_view m.here.slots) (answer_if o (stores_of q.program (with_heap k)))) q stride.Goes (with_heap k) w
          (moved next (over vs m.here.slots) (with_heap k)) w) (sym row.1.0)
          (subst (λ ss. LedTo (to (on q.ins.next ss) (stores_of q.program (with_heap k))) q stride.Goes (with_heap k) w (moved next (over vs m.here.slots) (with_heap k)) w) (sym row.1.1)
          (next-led blocks caller next (with_heap k) w q (stands-grown blocks caller next m w k q stands) (over vs m.here.slots)))

      pub unpacked : (vs : List Value) → row_or (row_count before after) p ≡ Ok vs → Takes blocks caller next a (Unpack before after) given stride.Goes m w (moved next (over vs m.here.slots) (with_heap k)) w
      unpacked vs e =
          let row = given_row (row_count before after) p vs e in
          takes-led blocks caller next m w a (Unpack before after) (so_many (row_count before after)) row_over (unpacks before after) (given ∷ []) given unpacks-by p k is put
          stride.Goes (moved next (over vs m.here.slots) (with_heap k)) w
          (λ q stands active. subst (λ x. LedTo (by_tree (object_of q m) q.ins (row_over q) (slots_view m.here.slots) (of_prim (so_many (row_count before after)) x (here_at q m) (stores_of q.program (with_heap k))))
          q stride.Goes (with_heap k) w (moved next (over vs m.here.slots) (with_heap k)) w) (sym row.0) (row-led vs row.1 q stands))

      pub not_unpacked : (x : PrimAns) → row_or (row_count before after) p ≡ Err x → (r : Stride) (new : Machine) (w1 : Writes)
          → Refuses blocks caller (Unpack before after) x r (with_heap k) w new w1 → Takes blocks caller next a (Unpack before after) given r m w new w1
      not_unpacked x e r new w1 it =
          let refused = refused_row (row_count before after) p x e in
          takes_refused blocks caller next m w a (Unpack before after) (so_many (row_count before after)) row_over (unpacks before after) (given ∷ []) given unpacks-by p k is put
          x refused.0 refused.1 (λ u h. refl) r new w1 it

  -- a raise that an exit holds

  module _ (raised given : Value) where
    abbrev held : Completion
    held = completion.Raise raised

    abbrev left_over : Asking → Bool → State Value
    left_over q b = on q.ins.next (S.pending (S.left_of b (completion_view held)) ∷ drop 2 (slots_view m.here.slots))

    swallows-by : TakesBy blocks caller next m w a (Exit held) a_truth left_over op.Truth (given ∷ []) given
    unfolding then_with
    swallows-by q =
        ap (λ ss. by_tree (object_of q m) q.ins (left_over q) ss (prim_asked a_truth op.Truth (given ∷ []) (here_at q m) (stores_of q.program m))) (two-down m.here.slots)

    left-view : (b : Bool) → S.left_of b (completion_view held) ≡ completion_view (left_of b held)
    left-view true = refl
    left-view false = refl

    module _ (p : PrimAns) (k : List Object) (is : p ≡ prim_answer op.Truth (given ∷ []) m.heap) (put : k ≡ prim_heap op.Truth (given ∷ []) m.heap) where
      pub swallowed : (b : Bool) → truth_or p ≡ Ok b
          → Takes blocks caller next a (Exit held) given stride.Goes m w (moved next (slot.Pending (left_of b held) ∷ drop 2 m.here.slots) (with_heap k)) w
      swallowed b e =
          takes-led blocks caller next m w a (Exit held) a_truth left_over op.Truth (given ∷ []) given swallows-by p k is put
          stride.Goes (moved next (slot.Pending (left_of b held) ∷ drop 2 m.here.slots) (with_heap k)) w
          (λ q stands active. subst (λ x. LedTo (by_tree (object_of q m) q.ins (left_over q) (slots_view (drop 2 m.here.slots)) (of_prim a_truth x (here_at q m) (stores_of q.program (with_heap k))))
          q stride.Goes (with_heap k) w (moved next (slot.Pending (left_of b held) ∷ drop 2 m.here.slots) (with_heap k)) w) (sym (given_truth p b e))
          (subst (λ c. LedTo (to (on q.ins.next c) (stores_of q.program (with_heap k))) q stride.Goes (with_heap k) w
          (moved next (slot.Pending (left_of b held) ∷ drop 2 m.here.slots) (with_heap k)) w)
          (sym (ap (λ c. S.pending c ∷ drop 2 (slots_view m.here.slots)) (left-view b) ∙ ap (λ ss. S.pending (completion_view (left_of b held)) ∷ ss) (two-down m.here.slots)))
          (next-led blocks caller next (with_heap k) w q (stands-grown blocks caller next m w k q stands) (slot.Pending (left_of b held) ∷ drop 2 m.here.slots))))

      pub not_swallowed : (x : PrimAns) → truth_or p ≡ Err x → (r : Stride) (new : Machine) (w1 : Writes)
          → Refuses blocks caller (Exit held) x r (with_heap k) w new w1 → Takes blocks caller next a (Exit held) given r m w new w1
      not_swallowed x e r new w1 it =
          let refused = refused_truth p x e in
          takes_refused blocks caller next m w a (Exit held) a_truth left_over op.Truth (given ∷ []) given swallows-by p k is put
          x refused.0 refused.1 (λ u h. refl) r new w1 it
