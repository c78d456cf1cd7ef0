-- A slot in common is one that was made at one place, where a table of the block follows slots.
use Rattle.std.proofs.Common.{◌≡◌, ◌⊎◌, ⊎_elim, ℕ, ◌-◌, ◌≤◌, ◌<◌, zero, suc, List, [], ◌∷◌, take, drop, reverse, slice_get, Contains, Option, Some, None, refl, sym, ap, ◌∙◌, subst, arith}
use Rattle.std.proofs.lemmas.Bool.{cases_lt}
use Rattle.pt_instr.specs.Effects.{Kinds}
use Rattle.pt_code.specs.View.{Ins}
use Rattle.sem_fits.specs.fits.Block.{Block, kinds_at_start}
use Rattle.sem_fits.specs.fits.Steps.{step, steps}
use Rattle.sem_fits.specs.fits.Places as places
use Rattle.sem_fits.specs.fits.Places.{Gets}
use Rattle.sem_fits.specs.fits.Leaves as L
use Rattle.sem_fits.specs.fits.Leaves.{Goes, Common}
use Rattle.law_pieces.specs.piece_kinds.Walk.{Known, StackMap, kinds_of}
use Rattle.law_pieces.specs.piece_kinds.Table.{Table, IsOf, AllOf, Follows, AgreesWith, slot_of, WasMadeAt, IsTableOf}
use Rattle.law_pieces.specs.piece_kinds.Laws.{HasKinds, TableHasKinds, CommonIsOfOneOrigin, OneOriginIsCommon}

module _ {A : Type 0} where
  pub get_taken : (n d : ℕ) (xs : List A) → d < n → slice_get (take n xs) d ≡ slice_get xs d
  get_taken zero d xs l = absurd (let h : ⊥ = omega (arith, l) in h)
  get_taken (suc n) d [] l = refl
  get_taken (suc n) zero (x ∷ xs) l = refl
  get_taken (suc n) (suc d) (x ∷ xs) l = get_taken n d xs (omega (arith, l))

  get_dropped : (n d : ℕ) (xs : List A) → n ≤ d → slice_get xs d ≡ slice_get (drop n xs) (d - n)
  get_dropped zero d xs l = ap (slice_get xs) (let h : d ≡ d - 0 = omega arith in h)
  get_dropped (suc n) d [] l = refl
  get_dropped (suc n) zero (x ∷ xs) l = absurd (let h : ⊥ = omega (arith, l) in h)
  get_dropped (suc n) (suc d) (x ∷ xs) l = get_dropped n d xs (omega (arith, l)) ∙ ap (slice_get (drop n xs)) (let h : d - n ≡ suc d - suc n = omega arith in h)

is_of : (p o : ℕ) (x : Option ℕ) → IsOf p x → x ≡ Some o → o ≡ p
is_of p o None h e = absurd (let f : ⊥ = cc in f)
is_of p o (Some q) h e = let f : q ≡ o = cc in sym f ∙ h

made_there : (p o : ℕ) (ks : List Known) (d : ℕ) → AllOf p ks → WasMadeAt o (slice_get ks d) → o ≡ p
made_there p o [] d h m = absurd m
made_there p o (k ∷ ks) zero h m = is_of p o k.origin h.0 m
made_there p o (k ∷ ks) (suc d) h m = made_there p o ks d h.1 m

place_of : {b : Block} {p q : ℕ} {ks : Kinds} → Gets b p q ks → (i : Ins) × (b.at q ≡ Some i)
place_of (places.start i e) = (i, e)
place_of (places.onward g l c i e) = (i, e)

module _ (b : Block) (at : Table) (first : StackMap) (start : at 0 ≡ Some first) (begins : kinds_of first ≡ kinds_at_start b.kind) (agrees : AgreesWith b at) where
  -- a step from a place that gets kinds, as the table has it
  pub record Led (q r kept : ℕ) (ls : Kinds) : Type 0 where
    pub before : StackMap
    pub from : at q ≡ Some before
    pub follows : Follows at before (step r ls kept)

  led_from : {q r kept : ℕ} {ks ls : Kinds} → HasKinds b at q ks → Contains (steps b q ks) (step r ls kept) → Led q r kept ls
  led_from {q} {r} {kept} {ks} {ls} h c = record {
    before = h.slots;
    from = h.there;
    follows = agrees q h.slots h.there (step r ls kept) (subst (λ z. Contains (steps b q z) (step r ls kept)) (sym h.kinds) c);
  }

  pub has_kinds : {q : ℕ} {ks : Kinds} → Gets b b.size q ks → HasKinds b at q ks
  has_kinds (places.start j e) = record { slots = first; there = start; kinds = begins }
  has_kinds (places.onward g l c j e) =
      let u = led_from (has_kinds g) c in let f = u.follows in record { slots = f.slots; there = f.there; kinds = f.kinds }

  pub led : {q r kept : ℕ} {ks ls : Kinds} → Gets b b.size q ks → Contains (steps b q ks) (step r ls kept) → Led q r kept ls
  led g c = led_from (has_kinds g) c

  pub slot_kept : {q r kept : ℕ} {ls : Kinds} (d : ℕ) → Led q r kept ls → d < kept → slot_of (at q) d ≡ slot_of (at r) d
  slot_kept {q} {r} {kept} d u l =
      let f = u.follows in
      ap (λ o. slot_of o d) u.from ∙ (sym (get_taken kept d (reverse u.before) l) ∙ (ap (λ xs. slice_get xs d) (sym f.kept)
      ∙ (get_taken kept d (reverse f.slots) l ∙ ap (λ o. slot_of o d) (sym f.there))))

  pub slot_made : {q r kept : ℕ} {ls : Kinds} (d o : ℕ) → Led q r kept ls → kept ≤ d → WasMadeAt o (slot_of (at r) d) → o ≡ r
  slot_made {q} {r} {kept} d o u l m =
      let f = u.follows in
      made_there r o (drop kept (reverse f.slots)) (d - kept) f.made
      (subst (WasMadeAt o) (ap (λ z. slot_of z d) f.there ∙ get_dropped kept d (reverse f.slots) l) m)

module _ (b : Block) (at : Table) (table : IsTableOf b at) where
  leads : {q r kept : ℕ} {ks ls : Kinds} → Gets b b.size q ks → Contains (steps b q ks) (step r ls kept)
      → Led b at table.first table.start table.kinds table.agrees q r kept ls
  leads g c = led b at table.first table.start table.kinds table.agrees g c

  goes_kept : {q r k : ℕ} (d : ℕ) → Goes b b.size q r k → d < k → slot_of (at q) d ≡ slot_of (at r) d
  goes_kept d (L.by_row u c e) l = slot_kept b at table.first table.start table.kinds table.agrees d (leads u.gets c) l
  goes_kept d (L.by_leave {q = q} {t = t} {rows = rows} {ks = ks} {ls = ls} h g) l = table.leaves t q d rows ks ls h g l

  common_kept : {d q r : ℕ} → Common b b.size d q r → slot_of (at q) d ≡ slot_of (at r) d
  common_kept {d = d} (L.kept g l) = goes_kept d g l
  common_kept L.same = refl
  common_kept (L.back c) = sym (common_kept c)
  common_kept (L.along c e) = common_kept c ∙ common_kept e

  to_origin : {q : ℕ} {ks : Kinds} (d o : ℕ) → Gets b b.size q ks → WasMadeAt o (slot_of (at q) d) → Common b b.size d q o
  to_origin d o (places.start j e) m = absurd (table.begins d o (subst (WasMadeAt o) (ap (λ z. slot_of z d) table.start) m))
  to_origin d o (places.onward {q = q} {r = r} {kept = kept} {ks = ks} {ls = ls} g l c j e) m =
      let i = place_of g in
      let v = leads g c in
      ⊎_elim (λ u. L.along (L.back (L.kept (L.by_row (record { gets = g; low = l; stands = i.1 }) c e) u))
      (to_origin d o g (subst (WasMadeAt o) (sym (slot_kept b at table.first table.start table.kinds table.agrees d v u)) m)))
      (λ u. subst (Common b b.size d r) (sym (slot_made b at table.first table.start table.kinds table.agrees d o v u m)) L.same) (cases_lt d kept)

  there : (q d o : ℕ) (z : Option StackMap) → at q ≡ z → WasMadeAt o (slot_of z d) → Common b b.size d q o
  there q d o None e m = absurd m
  there q d o (Some ks) e m = to_origin d o (table.reached q ks e) (subst (λ z. WasMadeAt o (slot_of z d)) (sym e) m)

pub table_has_kinds : (b : Block) → TableHasKinds b
table_has_kinds b at table q ks g = has_kinds b at table.first table.start table.kinds table.agrees g

pub common_is_of_one_origin : (b : Block) → CommonIsOfOneOrigin b
common_is_of_one_origin b at table d q r c = common_kept b at table c

pub one_origin_is_common : (b : Block) → OneOriginIsCommon b
one_origin_is_common b at table d q r o m n = L.along (there b at table q d o (at q) refl m) (L.back (there b at table r d o (at r) refl n))
