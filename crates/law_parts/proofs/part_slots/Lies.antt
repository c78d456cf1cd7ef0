-- A place whose slots are those of some parts lies in these parts, and in no others.
use Rattle.std.proofs.Common.{◌≡◌, inl, inr, ⊎_elim, ℕ, ◌<◌, ◌≤◌, zero, suc, true, false, List, [], ◌∷◌, ◌++◌, length, reverse, slice_get, option_map, Option, Some, None, refl, sym, ap, ◌∙◌, subst, arith, length-append}
use Rattle.std.proofs.lemmas.Bool.{false≢true, cases_lt, eq-eqb, eqb-true}
use Rattle.std.proofs.lemmas.List.{length-reverse}
use Rattle.std.proofs.lemmas.Option.{slice_get-map, slice_get_within}
use Rattle.pt_instr.specs.declared.kinds.Kind.{Kind}
use Rattle.pt_instr.specs.declared.kinds.Kind.TheVariants as kinds
use Rattle.sem_control.specs.control.Jump.{Part, finally_part, exit_part, is_final}
use Rattle.sem_control.proofs.control.JumpLemmas.{same_part}
use Rattle.sem_fits.specs.fits.Block.{Block}
use Rattle.sem_fits.specs.comp_jumps.Parts.{kind_of_part, Lies, Begins, Fills, Closed}
use Rattle.sem_fits.proofs.comp_jumps.Verdicts.{same_itself}
use Rattle.law_pieces.specs.piece_kinds.Walk.{Known, StackMap, kinds_of}
use Rattle.law_pieces.specs.piece_kinds.Table.{Table, slot_of, IsTableOf}
use Rattle.law_pieces.proofs.piece_kinds.ListLemmas.{reverse_cons, map_reverse, kind, length_kinds}
use Rattle.law_pieces.proofs.piece_kinds.PieceLaw.{not_both, is_some_of}
use Rattle.law_pieces.specs.origin_parts.Laws.{is_origin, is_made_at}
use Rattle.law_pieces.proofs.origin_parts.Parts.{origins_are_parts}
use Rattle.law_parts.specs.part_slots.Slots.{PartSlot, part_slot}
use Rattle.law_parts.specs.part_slots.Parts.{slot_in, AreOf, AreOthers}
use Rattle.law_parts.specs.part_slots.Laws.{IsMadeThere, PlaceInParts}
use Rattle.law_parts.proofs.part_slots.Apart.{All_made_apart}
use Rattle.law_parts.proofs.part_slots.Keys.{of_part, one_origin}

module _ {A : Type 0} where
  get_last : (xs : List A) (y : A) (n : ℕ) → n ≡ length xs → slice_get (xs ++ y ∷ []) n ≡ Some y
  get_last [] y zero e = refl
  get_last [] y (suc n) e = absurd (let f : ⊥ = omega (arith, e) in f)
  get_last (x ∷ xs) y zero e = absurd (let f : ⊥ = omega (arith, e) in f)
  get_last (x ∷ xs) y (suc n) e = get_last xs y n (omega (arith, e))

  get_front : (xs : List A) (y : A) (n : ℕ) → n < length xs → slice_get (xs ++ y ∷ []) n ≡ slice_get xs n
  get_front [] y n l = absurd (let f : ⊥ = omega (arith, l) in f)
  get_front (x ∷ xs) y zero l = refl
  get_front (x ∷ xs) y (suc n) l = get_front xs y n (omega (arith, l))

top_slot : (k : Known) (ks : StackMap) → slot_of (Some (k ∷ ks)) (length ks) ≡ Some k
top_slot k ks = ap (λ z. slice_get z (length ks)) (reverse_cons k ks) ∙ get_last (reverse ks) k (length ks) (sym (length-reverse ks))

lower_slot : (k : Known) (ks : StackMap) (d : ℕ) → d < length ks → slot_of (Some (k ∷ ks)) d ≡ slot_of (Some ks) d
lower_slot k ks d l =
    ap (λ z. slice_get z d) (reverse_cons k ks) ∙ get_front (reverse ks) k d (let n = length-reverse ks in omega (arith, l, n))

-- others may lie above
low_slot : (above base : StackMap) (d : ℕ) → d < length base → slot_of (Some (above ++ base)) d ≡ slot_of (Some base) d
low_slot [] base d l = refl
low_slot (k ∷ above) base d l = lower_slot k (above ++ base) d (let n = length-append above base in omega (arith, l, n)) ∙ low_slot above base d l

-- the kind of a slot
kind_at : (ks : StackMap) (d : ℕ) (k : Known) → slot_of (Some ks) d ≡ Some k → slice_get (kinds_of ks) d ≡ Some k.kind
kind_at ks d k e = ap (λ z. slice_get z d) (sym (map_reverse kind ks)) ∙ (slice_get-map kind (reverse ks) d ∙ ap (option_map kind) e)

known_at : (ks : StackMap) (d : ℕ) (z : Kind) → slice_get (kinds_of ks) d ≡ Some z → (k : Known) × (slot_of (Some ks) d ≡ Some k) × (k.kind ≡ z)
known_at ks d z e = by (slot_of (Some ks) d) refl
  where
    is : option_map kind (slot_of (Some ks) d) ≡ Some z
    is = sym (slice_get-map kind (reverse ks) d) ∙ (ap (λ z. slice_get z d) (map_reverse kind ks) ∙ e)

    by : (o : Option Known) → slot_of (Some ks) d ≡ o → (k : Known) × (slot_of (Some ks) d ≡ Some k) × (k.kind ≡ z)
    by None f = not_both (sym (sym (ap (option_map kind) f) ∙ is))
    by (Some k) f = (k, f, is_some_of (sym (ap (option_map kind) f) ∙ is))

-- what lies above the slots of the parts is none of these
other_there : (f : Part → Option PartSlot) (above base : StackMap) (d : ℕ) (k : Known) → slot_of (Some (above ++ base)) d ≡ Some k → length base ≤ d → AreOthers f above
    → (k.kind ≡ kinds.Pending → ⊥) × ((q : Part) (s : PartSlot) → f q ≡ Some s → k.origin ≡ Some s.origin → ⊥)
other_there f [] base d k e l a = absurd (let h = slice_get_within (reverse base) d k e in let n = length-reverse base in let g : ⊥ = omega (arith, h, n, l) in g)
other_there f (j ∷ above) base d k e l a =
    ⊎_elim (λ h. other_there f above base d k (sym (lower_slot j (above ++ base) d h) ∙ e) l a.2)
    (λ h. same_one (is_some_of (sym (top_slot j (above ++ base)) ∙ (ap (slot_of (Some (j ∷ (above ++ base)))) (at_top h) ∙ e)))) (cases_lt d (length (above ++ base)))
  where
    at_top : length (above ++ base) ≤ d → length (above ++ base) ≡ d
    at_top h = let m = slice_get_within (reverse (j ∷ (above ++ base))) d k e in let n = length-reverse (j ∷ (above ++ base)) in omega (arith, h, m, n)

    same_one : j ≡ k → (k.kind ≡ kinds.Pending → ⊥) × ((q : Part) (s : PartSlot) → f q ≡ Some s → k.origin ≡ Some s.origin → ⊥)
    same_one g = subst (λ (z : Known). (z.kind ≡ kinds.Pending → ⊥) × ((q : Part) (s : PartSlot) → f q ≡ Some s → z.origin ≡ Some s.origin → ⊥)) g (a.0, a.1)

pending_is_final : (q : Part) → kind_of_part q ≡ kinds.Pending → is_final q ≡ true
pending_is_final (finally_part n) e = refl
pending_is_final (exit_part n) e = refl
pending_is_final q e = absurd cc

itself : (o : ℕ) → is_origin o (Some o) ≡ true
itself o = eq-eqb o o refl

module _ (slots : Part → Option PartSlot) where
  as_many : (ps : List Part) (ks : StackMap) → AreOf slots ps ks → length ps ≡ length ks
  as_many [] [] a = refl
  as_many [] (k ∷ ks) a = absurd a
  as_many (p ∷ ps) [] a = absurd a
  as_many (p ∷ ps) (k ∷ ks) a = ap suc (as_many ps ks a.2)

  -- the slot of a part among those of a place
  record SlotOf (q : Part) (d : ℕ) (ks : StackMap) : Type 0 where
    known : Known
    is : slot_of (Some ks) d ≡ Some known
    kind_is : known.kind ≡ kind_of_part q
    origin : ℕ
    made : known.origin ≡ Some origin
    found : slots q ≡ Some (part_slot q d origin)

  lies_below : (ps : List Part) (d : ℕ) (q : Part) → Lies d q ps → d < length ps
  lies_below [] d q l = absurd l
  lies_below (p ∷ ps) d q (inl (e, s)) = omega (arith, e)
  lies_below (p ∷ ps) d q (inr l) = let h = lies_below ps d q l in omega (arith, h)

  of_lies : (ps : List Part) (ks : StackMap) → AreOf slots ps ks → (d : ℕ) (q : Part) → Lies d q ps → SlotOf q d ks
  of_lies [] ks a d q l = absurd l
  of_lies (p ∷ ps) [] a d q l = absurd a
  of_lies (p ∷ ps) (k ∷ ks) a d q (inl (e, s)) =
      subst (λ d. SlotOf q d (k ∷ ks)) (sym (e ∙ as_many ps ks a.2)) (subst (λ q. SlotOf q (length ks) (k ∷ ks)) (sym (same_part q p s))
      (record { known = k; is = top_slot k ks; kind_is = a.0; origin = (a.1).0; made = (a.1).1; found = (a.1).2 }))
  of_lies (p ∷ ps) (k ∷ ks) a d q (inr l) =
      let r = of_lies ps ks a.2 d q l in
      let h = lies_below ps d q l in
      let n = as_many ps ks a.2 in
      record { known = r.known; is = lower_slot k ks d (omega (arith, h, n)) ∙ r.is; kind_is = r.kind_is; origin = r.origin; made = r.made; found = r.found }

  of_slot : (ps : List Part) (ks : StackMap) → AreOf slots ps ks → (d : ℕ) → d < length ks → (q : Part) × Lies d q ps
  of_slot [] [] a d l = absurd (let f : ⊥ = omega (arith, l) in f)
  of_slot [] (k ∷ ks) a d l = absurd a
  of_slot (p ∷ ps) [] a d l = absurd a
  of_slot (p ∷ ps) (k ∷ ks) a d l =
      ⊎_elim (λ h. let r = of_slot ps ks a.2 d h in (r.0, inr r.1)) (λ h. let n = as_many ps ks a.2 in (p, inl (omega (arith, h, l, n), same_itself p))) (cases_lt d (length ks))

  each_kind : (ps : List Part) (ks : StackMap) → AreOf slots ps ks → (d : ℕ) (q : Part) → Lies d q ps → slice_get (kinds_of ks) d ≡ Some (kind_of_part q)
  each_kind ps ks a d q l =
      let r = of_lies ps ks a d q l in
      ap (λ z. slice_get z d) (sym (map_reverse kind ks)) ∙ (slice_get-map kind (reverse ks) d ∙ (ap (option_map kind) r.is ∙ ap Some r.kind_is))

  pub fills : (ps : List Part) (ks : StackMap) → AreOf slots ps ks → Fills (kinds_of ks) ps
  fills ps ks a = record { begins = record { each = each_kind ps ks a; pending = pending }; all = all }
    where
      all : (d : ℕ) → d < length (kinds_of ks) → (q : Part) × Lies d q ps
      all d h = of_slot ps ks a d (let n = length_kinds ks in omega (arith, h, n))

      pending : (d : ℕ) → slice_get (kinds_of ks) d ≡ Some kinds.Pending → (q : Part) × Lies d q ps × (is_final q ≡ true)
      pending d e =
          let r = all d (slice_get_within (kinds_of ks) d kinds.Pending e) in
          (r.0, r.1, pending_is_final r.0 (is_some_of (sym (each_kind ps ks a d r.0 r.1) ∙ e)))

-- the closed parts of a block that has a table
module _ (b : Block) (at : Table) (table : IsTableOf b at) where
  pub record PartBy (o : Option PartSlot) : Type 0 where
    pub part : Closed b
    pub made : (s : PartSlot) → o ≡ Some s → IsMadeThere b at s part
    pub none : o ≡ None → (pc : ℕ) → part.range pc ≡ false

  pub part_by : (o : Option PartSlot) → PartBy o
  part_by None = record {
    part = record { range = λ pc. false; slot = 0; shut = λ q r k g l. refl; whole = λ q r e f. absurd (false≢true e) };
    made = λ s e. not_both (sym e);
    none = λ e pc. refl;
  }
  part_by (Some s) = let p = origins_are_parts b at table s.origin s.slot in record {
    part = p.part;
    made = λ t e. subst (λ t. IsMadeThere b at t p.part) (is_some_of e) (record { slot_is = p.slot_is; range_is = p.range_is });
    none = λ e. not_both e;
  }

  module _ (ss : List PartSlot) (apart : All_made_apart ss) (pc : ℕ) (ps : List Part) (above base : StackMap) (there : at pc ≡ Some (above ++ base))
      (are : AreOf (slot_in ss) ps base) (others : AreOthers (slot_in ss) above) where
    abbrev part_of : Part → Closed b
    part_of q = let p = part_by (slot_in ss q) in p.part

    below : (d : ℕ) (q : Part) → Lies d q ps → d < length base
    below d q l = let h = lies_below (slot_in ss) ps d q l in let n = as_many (slot_in ss) ps base are in omega (arith, h, n)

    lies : (d : ℕ) (q : Part) → Lies d q ps → ((part_of q).range pc ≡ true) × (d ≡ (part_of q).slot)
    lies d q l =
        let r = of_lies (slot_in ss) ps base are d q l in
        let p = part_by (slot_in ss q) in
        let m = p.made (part_slot q d r.origin) r.found in (
          m.range_is pc ∙ (ap (λ z. is_made_at r.origin (slot_of z d)) there ∙ (ap (is_made_at r.origin) (low_slot above base d (below d q l) ∙ r.is)
              ∙ (ap (is_origin r.origin) r.made ∙ itself r.origin))),
          sym m.slot_is,
        )

    record Found (o d : ℕ) : Type 0 where
      known : Known
      is : slot_of (Some (above ++ base)) d ≡ Some known
      made : known.origin ≡ Some o

    found_at : (o d : ℕ) → is_made_at o (slot_of (Some (above ++ base)) d) ≡ true → Found o d
    found_at o d e = by (slot_of (Some (above ++ base)) d) refl e
      where
        of_origin : (k : Known) (z : Option ℕ) → k.origin ≡ z → slot_of (Some (above ++ base)) d ≡ Some k → is_origin o z ≡ true → Found o d
        of_origin k None f i e = absurd (false≢true e)
        of_origin k (Some p) f i e = record { known = k; is = i; made = f ∙ ap Some (sym (eqb-true o p e)) }

        by : (z : Option Known) → slot_of (Some (above ++ base)) d ≡ z → is_made_at o z ≡ true → Found o d
        by None i e = absurd (false≢true e)
        by (Some k) i e = of_origin k k.origin refl i e

    found_below : (q : Part) (s : PartSlot) → slot_in ss q ≡ Some s → (u : Found s.origin s.slot) → s.slot < length base → Lies s.slot q ps
    found_below q s f u h =
        let r = of_slot (slot_in ss) ps base are s.slot h in
        let v = of_lies (slot_in ss) ps base are s.slot r.0 r.1 in
        let k : v.known ≡ u.known = is_some_of (sym v.is ∙ (sym (low_slot above base s.slot h) ∙ u.is)) in
        let o : v.origin ≡ s.origin = is_some_of (sym v.made ∙ (ap (λ (z : Known). z.origin) k ∙ u.made)) in
        let one : part_slot r.0 s.slot v.origin ≡ s = one_origin ss apart r.0 q (part_slot r.0 s.slot v.origin) s v.found f o in
        subst (λ q. Lies s.slot q ps) (ap (λ (z : PartSlot). z.part) one ∙ of_part ss q s f) r.1

    found : (q : Part) → (part_of q).range pc ≡ true → Lies (part_of q).slot q ps
    found q e = by (slot_in ss q) refl
      where
        by : (o : Option PartSlot) → slot_in ss q ≡ o → Lies (part_of q).slot q ps
        by None f = let p = part_by (slot_in ss q) in absurd (false≢true (sym (p.none f pc) ∙ e))
        by (Some s) f =
            let p = part_by (slot_in ss q) in
            let m = p.made s f in
            let u = found_at s.origin s.slot (ap (λ z. is_made_at s.origin (slot_of z s.slot)) (sym there) ∙ (sym (m.range_is pc) ∙ e)) in
            subst (λ d. Lies d q ps) (sym m.slot_is)
            (⊎_elim (λ h. found_below q s f u h) (λ h. absurd ((other_there (slot_in ss) above base s.slot u.known u.is h others).1 q s f u.made)) (cases_lt s.slot (length base)))

    begins : Begins (kinds_of (above ++ base)) ps
    begins = record { each = each; pending = pending }
      where
        each : (d : ℕ) (q : Part) → Lies d q ps → slice_get (kinds_of (above ++ base)) d ≡ Some (kind_of_part q)
        each d q l = let r = of_lies (slot_in ss) ps base are d q l in kind_at (above ++ base) d r.known (low_slot above base d (below d q l) ∙ r.is) ∙ ap Some r.kind_is

        at_low : (d : ℕ) → slice_get (kinds_of (above ++ base)) d ≡ Some kinds.Pending → d < length base → (q : Part) × Lies d q ps × (is_final q ≡ true)
        at_low d e h = let r = of_slot (slot_in ss) ps base are d h in (r.0, r.1, pending_is_final r.0 (is_some_of (sym (each d r.0 r.1) ∙ e)))

        pending : (d : ℕ) → slice_get (kinds_of (above ++ base)) d ≡ Some kinds.Pending → (q : Part) × Lies d q ps × (is_final q ≡ true)
        pending d e =
            ⊎_elim (at_low d e)
            (λ h. let u = known_at (above ++ base) d kinds.Pending e in absurd ((other_there (slot_in ss) above base d u.0 u.1 h others).0 u.2)) (cases_lt d (length base))

    pub in_parts : PlaceInParts b part_of pc (above ++ base) ps
    in_parts = record { gets = table.reached pc (above ++ base) there; begins = begins; around_place = record { lies = lies; found = found } }
