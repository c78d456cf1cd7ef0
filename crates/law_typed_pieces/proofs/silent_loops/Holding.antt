-- A slot that may hold a jump is one of a part in the loop that the jump leaves.
use Rattle.std.proofs.Common.{◌≡◌, ◌≤◌, ℕ, ◌-◌, zero, suc, Bool, true, false, ◌&&◌, not, if◌then◌else◌, List, [], ◌∷◌, ◌++◌, length, reverse, take, slice_get, Some, refl, sym, ap, ◌∙◌, subst, arith}
use Rattle.std.proofs.lemmas.List.{length-reverse, length-take-le}
use Rattle.pt_instr.specs.declared.Instr.TheVariants as instr
use Rattle.pt_instr.specs.declared.kinds.Kind.{Kind}
use Rattle.pt_instr.specs.declared.kinds.Kind.TheVariants as kinds
use Rattle.pt_instr.specs.Effects.{effect_of}
use Rattle.pt_ranges.specs.declared.handlers.Handler.{Handler}
use Rattle.pt_ranges.specs.Rows.{covers}
use Rattle.pt_code.specs.View.{Ins}
use Rattle.sem_fits.specs.fits.Block.{Block, effect}
use Rattle.sem_fits.specs.fits.Steps.{held_by}
use Rattle.sem_fits.specs.fits.Leaves as L
use Rattle.sem_fits.specs.fits.Leaves.{taker, Holds}
use Rattle.law_pieces.specs.piece_kinds.Walk.{Loop, Known, StackMap, kinds_of, made, lowest, onward}
use Rattle.law_pieces.specs.piece_kinds.Typed.{AllHoldIn}
use Rattle.law_pieces.specs.piece_kinds.Table.{Table, slot_of, IsTableOf}
use Rattle.law_pieces.specs.piece_kinds.Exits.{LeadsBelow}
use Rattle.law_pieces.proofs.piece_kinds.ListLemmas.{reverse_cons, lowest_is, length_kinds}
use Rattle.law_pieces.proofs.piece_kinds.PieceLaw.{is_some_of}
use Rattle.law_pieces.proofs.piece_kinds.Finds.{IsExit, RowFits, row_fits, Finds}
use Rattle.law_pieces.proofs.piece_kinds.OriginLaw.{has_kinds, common_is_of_one_origin}
use Rattle.law_pieces.proofs.piece_kinds.LeaveLaw.{Departing, Takes_it, found_row, departs}
use Rattle.law_typed_pieces.proofs.silent_loops.Held.{plain_kinds, pending_in}

all_true : (a b : Bool) → (a && b) ≡ true → a ≡ true
all_true true b e = refl
all_true false b e = e

last_of : (xs : StackMap) (k : Known) (n : ℕ) → n ≡ length xs → slice_get (xs ++ k ∷ []) n ≡ Some k
last_of [] k zero e = refl
last_of [] k (suc n) e = absurd (let h : ⊥ = omega (arith, e) in h)
last_of (x ∷ xs) k zero e = absurd (let h : ⊥ = omega (arith, e) in h)
last_of (x ∷ xs) k (suc n) e = last_of xs k n (omega (arith, e))

-- the uppermost slot
pub uppermost : (k : Known) (ks : StackMap) (n : ℕ) → n ≡ length ks → slot_of (Some (k ∷ ks)) n ≡ Some k
uppermost k ks n e = ap (λ zs. slice_get zs n) (reverse_cons k ks) ∙ last_of (reverse ks) k n (let h = length-reverse ks in omega (arith, e, h))

-- two slots are taken
two_kinds : (k l : Kind) (ts : StackMap) → kinds_of ts ≡ k ∷ l ∷ [] → (p : Known) × (r : Known) × (ts ≡ p ∷ r ∷ []) × (p.kind ≡ l)
two_kinds k l ts e = by ts e (length_kinds ts)
  where
    by : (ts : StackMap) → kinds_of ts ≡ k ∷ l ∷ [] → length (kinds_of ts) ≡ length ts → (p : Known) × (r : Known) × (ts ≡ p ∷ r ∷ []) × (p.kind ≡ l)
    by [] e n = absurd (let m : 0 ≡ 2 = sym n ∙ ap length e in let h : ⊥ = omega (arith, m) in h)
    by (p ∷ []) e n = absurd (let m : 1 ≡ 2 = sym n ∙ ap length e in let h : ⊥ = omega (arith, m) in h)
    by (p ∷ r ∷ []) e n = (p, r, refl, is_some_of (ap (λ ks. slice_get ks 1) e))
    by (p ∷ r ∷ s ∷ ts) e n = absurd (let m : suc (suc (suc (length ts))) ≡ 2 = sym n ∙ ap length e in let h : ⊥ = omega (arith, m) in h)

module _ (b : Block) (at : Table) (table : IsTableOf b at) (found : (q : ℕ) (ks : StackMap) → at q ≡ Some ks → Finds b at (LeadsBelow at) [] [] q ks) where
  pub record MayBe (t q d : ℕ) : Type 0 where
    pub slot : Known
    pub is : slot_of (at q) d ≡ Some slot
    pub loop : Loop
    pub holds : slot.loop ≡ Some loop
    pub exit : IsExit t (Some loop)

  -- a row takes the jump
  caught_by : (t q : ℕ) (rows : List Handler) (n : ℕ) (row : Handler) → taker rows t ≡ Some row
      → Departing b at table.first table.start table.kinds table.agrees found t q rows n → MayBe t row.target.0 row.depth
  caught_by t q rows n row e v = record {
    slot = made row.target.0 f.loop (held_by row);
    is = ap (λ o. slot_of o row.depth) f.there ∙ uppermost (made row.target.0 f.loop (held_by row)) (lowest row.depth v.base) row.depth (sym count);
    loop = v.loop;
    holds = ap (λ a. let m = made row.target.0 f.loop (if a then kinds.Pending else kinds.Exc) in m.loop) (all_true row.always (not (covers row (record { 0 = t }))) w.takes) ∙ s.0;
    exit = v.exit;
  }
    where
      w : Takes_it t rows row
      w = found_row t rows row e

      f : RowFits at v.base (Some v.loop) row
      f = row_fits at v.base (Some v.loop) rows v.fit row w.among

      s : (f.loop ≡ Some v.loop) × ((v.loop).depth ≤ row.depth)
      s = f.takes t v.exit w.takes

      count : length (lowest row.depth v.base) ≡ row.depth
      count = ap length (lowest_is row.depth v.base) ∙ (length-reverse (take row.depth (reverse v.base))
          ∙ length-take-le row.depth (reverse v.base) (let i = f.within in let r = length-reverse v.base in omega (arith, i, r)))

  -- an exit of a `with` holds it on
  held_on : (t q : ℕ) (i : Ins) (ks : StackMap) → (u : Finds b at (LeadsBelow at) [] [] q ks) → at q ≡ Some ks → u.here ≡ i → i.instr ≡ instr.Exit
      → MayBe t q (length ks - 1) → MayBe t i.next (length ks - 2)
  unfolding effect_of
  held_on t q i ks u h e f v = record {
    slot = made (u.here).next u.loop kinds.Pending;
    is = ap (λ o. slot_of o (length ks - 2)) (ap at (sym (ap (λ (j : Ins). j.next) e)) ∙ u.after (made (u.here).next u.loop kinds.Pending ∷ u.rest) goes)
        ∙ uppermost (made (u.here).next u.loop kinds.Pending) u.rest (length ks - 2) (let n = ap length whole in omega (arith, n));
    loop = v.loop;
    holds = sym (pending_in u.loop taken.0 taken.3 (subst (AllHoldIn u.loop) taken.2 u.holds).0) ∙ (ap (λ (k : Known). k.loop) (sym slot_is) ∙ v.holds);
    exit = v.exit;
  }
    where
      instr_is : (u.here).instr ≡ instr.Exit
      instr_is = ap (λ (j : Ins). j.instr) e ∙ f

      taken : (p : Known) × (r : Known) × (u.taken ≡ p ∷ r ∷ []) × (p.kind ≡ kinds.Pending)
      taken = two_kinds kinds.With kinds.Pending u.taken (plain_kinds (effect b.links (u.here).instr) u.taken (kinds.With ∷ kinds.Pending ∷ []) u.takes
          (ap (λ j. let e = effect b.links j in e.takes) instr_is) (ap (λ j. let e = effect b.links j in e.swaps) instr_is))

      whole : ks ≡ taken.0 ∷ taken.1 ∷ u.rest
      whole = u.is ∙ ap (λ ts. ts ++ u.rest) taken.2

      goes : (let e = effect b.links (u.here).instr in onward e (u.here).next u.loop ks e.gives) ≡ Some (made (u.here).next u.loop kinds.Pending ∷ u.rest)
      goes = ap (λ j. let e = effect b.links j in onward e (u.here).next u.loop ks e.gives) instr_is
          ∙ ap (λ zs. let e = effect b.links instr.Exit in onward e (u.here).next u.loop zs e.gives) whole

      slot_is : v.slot ≡ taken.0
      slot_is = is_some_of (sym v.is ∙ (ap (λ o. slot_of o (length ks - 1)) (h ∙ ap (λ zs. Some zs) whole)
          ∙ uppermost taken.0 (taken.1 ∷ u.rest) (length ks - 1) (let n = ap length whole in omega (arith, n))))

  pub may_be : {t q d : ℕ} → Holds b b.size t q d → MayBe t q d
  may_be (L.caught {t = t} {q = q} {rows = rows} {ks = ks} h row e) =
      caught_by t q rows (length ks) row e (departs b at table.first table.start table.kinds table.agrees found h)
  may_be (L.exited {t = t} {q = q} {i = i} {ks = ks} h e v) =
      let p = has_kinds b at table.first table.start table.kinds table.agrees h.gets in
      let u = found q p.slots p.there in
      let n : length ks ≡ length p.slots = ap length (sym p.kinds) ∙ length_kinds p.slots in
      subst (λ m. MayBe t i.next (m - 2)) (sym n)
      (held_on t q i p.slots u p.there (is_some_of (sym u.stands ∙ h.stands)) e (subst (λ m. MayBe t q (m - 1)) n (may_be v)))
  may_be (L.shared {t = t} {q = q} {r = r} {d = d} c h) =
      let v = may_be h in record {
        slot = v.slot;
        is = sym (common_is_of_one_origin b at table d q r c) ∙ v.is;
        loop = v.loop;
        holds = v.holds;
        exit = v.exit;
      }
