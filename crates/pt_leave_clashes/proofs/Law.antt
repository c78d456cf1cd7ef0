-- A Leave clashes just where one does at its own place: wherever else it goes on, the slots of its target are the same.
use Rattle.std.proofs.Common.{◌≡◌, ◌⊎◌, inl, inr, ℕ, ◌-◌, ◌≤◌, ◌<◌, zero, suc, Bool, true, false, List, length, Option, refl, sym, ap, ◌∙◌, subst, arith}
use Rattle.std.specs.Prelude.{slice_get}
use Rattle.std.proofs.lemmas.List.{length-take, length-take-le}
use Rattle.std.proofs.lemmas.Bool.{true_from_ne_false, leb-true, false≢true, cases_lt}
use Rattle.pt_instr.specs.declared.kinds.Kind.{Kind}
use Rattle.pt_instr.specs.Effects.{Kinds}
use Rattle.pt_ranges.specs.declared.handlers.Handler.{Handler}
use Rattle.sem_fits.specs.fits.Block.{Block}
use Rattle.sem_fits.specs.fits.Steps.{step, cut, is_prefix}
use Rattle.sem_fits.specs.fits.Places as P
use Rattle.sem_fits.specs.fits.Places.{Gets, Reached}
use Rattle.sem_fits.specs.fits.Leaves as L
use Rattle.sem_fits.specs.fits.Leaves.{Departs, Leaving}
use Rattle.sem_fits.proofs.fits.KindLemmas.{same_kinds, prefix_taken}
use Rattle.sem_fits.proofs.fits.Alike.{get_taken, step_alike}
use Rattle.sem_fits.proofs.fits.CommonSlots.{front}
use Rattle.pt_verify_depths.specs.PlaceTable.{SizesDisagree}
use Rattle.pt_verify_depths.specs.Refusals as R
use Rattle.pt_verify_depths.specs.Refusals.{LeaveLacks}
use Rattle.pt_joins.specs.Joins.{related, same, back, along}
use Rattle.pt_common_slots.specs.Common.{Keeps, by_row, by_leave, IsKept, one_step, RowsLead}
use Rattle.pt_common_slots.proofs.Law.{departs_kept}
use Rattle.pt_refusals.specs.Told as T
use Rattle.pt_refusals.specs.Told.{Clashes, LeaveClashes}
use Rattle.pt_leave_clashes.specs.Others.{LeavesOthers}
use Rattle.pt_leave_clashes.specs.Laws.{ClashAtPlaces}
use Rattle.pt_leave_clashes.proofs.Beginnings.{begun}

-- a place gets kinds of which slot d has this kind
record There (b : Block) (p pc d : ℕ) (o : Option Kind) : Type 0 where
  pub kinds : Kinds
  pub gets : Gets b p pc kinds
  pub is : slice_get kinds d ≡ o

record AreSame (b : Block) (p d q r : ℕ) : Type 0 where
  pub onward : (o : Option Kind) → There b p q d o → There b p r d o
  pub back : (o : Option Kind) → There b p r d o → There b p q d o

-- what holds of each number below one, unless something else does
all_below : {X : Type 0} (H : ℕ → Type 0) (n : ℕ) → ((d : ℕ) → d < n → X ⊎ H d) → X ⊎ ((d : ℕ) → d < n → H d)
all_below H zero f = inr (λ d l. absurd (let h : ⊥ = omega (arith, l) in h))
all_below H (suc n) f = elim (f n (omega arith)) [
  | inl x ↦ inl x
  | inr h ↦ elim (all_below H n (λ d l. f d (omega (arith, l)))) [
    | inl x ↦ inl x
    | inr g ↦ inr (λ d l. at d l h g)
  ]
]
  where
    at : (d : ℕ) → d < suc n → H n → ((d : ℕ) → d < n → H d) → H d
    at d l h g = elim (cases_lt d n) [ inl m ↦ g d m | inr m ↦ subst H (let e : n ≡ d = omega (arith, l, m) in e) h ]

module _ (b : Block) (p : ℕ) (agree : SizesDisagree b p → ⊥) (lead : RowsLead b) (fine : Clashes b p → ⊥) (enough : LeaveLacks b p → ⊥) where
  one_list : {q : ℕ} {ks ls : Kinds} → Gets b p q ks → Gets b p q ls → ks ≡ ls
  one_list {ks = ks} {ls = ls} g h = same_kinds ks ls (true_from_ne_false _ (λ f. fine (T.two g h f)))

  -- the ends of a step that keeps slot d
  joined : {q r d : ℕ} (o : Option Kind) → There b p q d o → There b p r d o → AreSame b p d q r
  joined {q = q} {r = r} {d = d} o s t = record { onward = λ x u. moved s t x u; back = λ x u. moved t s x u }
    where
      moved : {q r : ℕ} → There b p q d o → There b p r d o → (x : Option Kind) → There b p q d x → There b p r d x
      moved s t x u = record { kinds = t.kinds; gets = t.gets; is = t.is ∙ (sym s.is ∙ (ap (λ ks. slice_get ks d) (one_list s.gets u.gets) ∙ u.is)) }

  keeps_same : {q r k d : ℕ} → Keeps b p q r k → d < k → LeavesOthers b p ⊎ AreSame b p d q r
  keeps_same {q = q} {r = r} {k = k} {d = d} (by_row {i = i} {j = j} {ks = ks} {ls = ls} u c e) l = inr (joined (slice_get ls d)
      (record { kinds = ks; gets = u.gets; is = step_alike b q i ks u.stands (true_from_ne_false _ (λ f. fine (T.lacks u f))) (step r ls k) c d l })
      (record { kinds = ls; gets = P.onward u.gets u.low c j e; is = refl }))
  keeps_same {q = q} {r = r} {d = d} (by_leave {i = i} {ks = ks} {ls = ls} u e g) l = by_test (is_prefix ls ks) refl
    where
      by_test : (t : Bool) → is_prefix ls ks ≡ t → LeavesOthers b p ⊎ AreSame b p d q r
      by_test false f = inl (record { pc = q; ins = i; kinds = ks; reached = u; target = r; leaves = e; there = ls; gets = g; differs = f })
      by_test true f = inr (joined (slice_get ls d)
          (record { kinds = ks; gets = u.gets; is = sym (get_taken (length ls) d ks (omega (arith, l))) ∙ ap (λ ks. slice_get ks d) (prefix_taken ls ks f) })
          (record { kinds = ls; gets = g; is = refl }))

  kept_same : (d q r : ℕ) → IsKept b p d q r → LeavesOthers b p ⊎ AreSame b p d q r
  kept_same d _ _ (related (one_step keeps lt)) = keeps_same keeps lt
  kept_same d q _ same = inr (record { onward = λ o t. t; back = λ o t. t })
  kept_same d q r (back h) = elim (kept_same d r q h) [ inl x ↦ inl x | inr s ↦ inr (record { onward = s.back; back = s.onward }) ]
  kept_same d q s (along {b = r} h g) = elim (kept_same d q r h) [
    | inl x ↦ inl x
    | inr u ↦ elim (kept_same d r s g) [
      | inl x ↦ inl x
      | inr v ↦ inr (record { onward = λ o t. v.onward o (u.onward o t); back = λ o t. u.back o (v.back o t) })
    ]
  ]

  -- the place where a Leave goes on has the slots that it leaves
  departs_at : {t q : ℕ} {rows : List Handler} {low : Kinds} → Departs b p t q rows low → (d : ℕ) → d < length low → There b p q d (slice_get low d)
  departs_at (L.leaves r e) d l = record { kinds = _; gets = r.gets; is = refl }
  departs_at (L.let_go {ks = ks} r e h) d l = record {
    kinds = ks;
    gets = r.gets;
    is = sym (get_taken (length ks - 1) d ks
        (let n = length-take-le (length ks - 1) ks (let m : length ks - 1 ≤ length ks = omega arith in m) in omega (arith, l, n)));
  }

  slot_same : {t q : ℕ} {rows : List Handler} {low ls : Kinds} → Departs b p t q rows low → Gets b p t ls → (d : ℕ) → d < length ls → d < length low
      → LeavesOthers b p ⊎ (slice_get low d ≡ slice_get ls d)
  slot_same {t = t} {q = q} {low = low} {ls = ls} departs got d l m = elim (kept_same d q t (departs_kept b p agree lead departs got d l m)) [
    | inl x ↦ inl x
    | inr s ↦ inr (let there = s.onward (slice_get low d) (departs_at departs d m) in sym there.is ∙ ap (λ ks. slice_get ks d) (one_list there.gets got))
  ]

  -- a Leave that leaves as many slots leaves these, or one clashes
  begins : {t q : ℕ} {rows : List Handler} {low ls : Kinds} (ks : Kinds) → Departs b p t q rows low → Leaving b p t ks → Gets b p t ls
      → ((d : ℕ) → d < length ks → (slice_get ks d ≡ slice_get low d) × (d < length low)) → is_prefix ls ks ≡ false → LeavesOthers b p
  begins {low = low} {ls = ls} ks departs leaving got lower differs =
      let long = leb-true (length ls) (length ks) (true_from_ne_false _ (λ f. enough (R.leaves leaving got f))) in
      elim (all_below (λ d. slice_get ks d ≡ slice_get ls d) (length ls) (λ d l.
      let (e, m) = lower d (omega (arith, l, long)) in
      elim (slot_same departs got d l m) [ inl x ↦ inl x | inr f ↦ inr (e ∙ f) ])) [
        | inl x ↦ x
        | inr f ↦ absurd (false≢true (sym differs ∙ begun ls ks (front ks ls f)))
      ]

  clash : {t : ℕ} {ks ls : Kinds} → Leaving b p t ks → Gets b p t ls → is_prefix ls ks ≡ false → LeavesOthers b p
  clash {ks = ks} (L.free departs) got differs = begins ks departs (L.free departs) got (λ d l. (refl, l)) differs
  clash (L.held {ks = low} departs row taken) got differs = begins (cut row low) departs (L.held departs row taken) got
      (λ d l. at d l) differs
    where
      at : (d : ℕ) → d < length (cut row low) → (slice_get (cut row low) d ≡ slice_get low d) × (d < length low)
      at d l = let n = length-take row.depth low in
          (get_taken row.depth d low (omega (arith, l, n)), omega (arith, l, n))

pub clash_at_places : (b : Block) (p : ℕ) → ClashAtPlaces b p
clash_at_places b p agree lead fine enough = (
  (λ c. leave_clash c),
  (λ o. T.leaves (L.free (L.leaves o.reached o.leaves)) o.gets o.differs),
)
  where
    leave_clash : LeaveClashes b p → LeavesOthers b p
    leave_clash (T.leaves leaving got differs) = clash b p agree lead fine enough leaving got differs
