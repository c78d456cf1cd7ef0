-- Slots in common have one kind and may hold the same, so the slots of a jump have the kinds of its target.
use Rattle.std.proofs.Common.{◌≡◌, ℕ, ◌-◌, ◌≤◌, ◌<◌, suc, List, [], ◌∷◌, length, take, Option, refl, sym, ap, ◌∙◌, arith}
use Rattle.std.specs.Prelude.{slice_get}
use Rattle.std.proofs.lemmas.List.{length-take-le}
use Rattle.std.proofs.lemmas.Bool.{true_from_ne_false}
use Rattle.pt_instr.specs.declared.kinds.Kind.{Kind}
use Rattle.pt_instr.specs.Effects.{Kinds}
use Rattle.pt_ranges.specs.declared.handlers.Handler.{Handler}
use Rattle.sem_fits.specs.fits.Block.{Block}
use Rattle.sem_fits.specs.fits.Steps.{step}
use Rattle.sem_fits.specs.fits.Places as P
use Rattle.sem_fits.specs.fits.Places.{Gets}
use Rattle.sem_fits.specs.fits.Leaves as L
use Rattle.sem_fits.specs.fits.Leaves.{Departs, Goes, Common}
use Rattle.sem_fits.specs.fits.Agreement as A
use Rattle.sem_fits.specs.fits.Fits.{Fits}
use Rattle.sem_fits.proofs.fits.KindLemmas.{same_kinds, prefix_taken}
use Rattle.sem_fits.proofs.fits.Ways.{found, target_fits}
use Rattle.sem_fits.proofs.fits.Alike.{get_taken, step_alike}

module _ {A : Type 0} where
  pub front : (xs ys : List A) → ((d : ℕ) → d < length ys → slice_get xs d ≡ slice_get ys d) → take (length ys) xs ≡ ys
  front xs [] f = refl
  front [] (y ∷ ys) f = absurd (let e = f 0 (omega arith) in let h : ⊥ = cc in h)
  front (x ∷ xs) (y ∷ ys) f = ap (λ z. z ∷ take (length ys) xs) (let e = f 0 (omega arith) in let h : x ≡ y = cc in h) ∙ ap (λ zs. y ∷ zs) (front xs ys (λ d l. f (suc d) (omega (arith, l))))

-- a place gets kinds of which slot d has this kind
pub record There (b : Block) (pc d : ℕ) (o : Option Kind) : Type 0 where
  pub kinds : Kinds
  pub gets : Gets b b.size pc kinds
  pub is : slice_get kinds d ≡ o

pub record Same (b : Block) (d q r : ℕ) : Type 0 where
  pub onward : (o : Option Kind) → There b q d o → There b r d o
  pub back : (o : Option Kind) → There b r d o → There b q d o

module _ (b : Block) (fits : Fits b) where
  pub one_list : {q : ℕ} {ks ls : Kinds} → Gets b b.size q ks → Gets b b.size q ls → ks ≡ ls
  one_list {ks = ks} {ls = ls} g h = same_kinds ks ls (true_from_ne_false _ (λ f. fits.agrees.kinds (A.two g h f)))

  departs_at : {t q : ℕ} {rows : List Handler} {low : Kinds} → Departs b b.size t q rows low → (d : ℕ) → d < length low → There b q d (slice_get low d)
  departs_at (L.leaves r e) d l = record { kinds = _; gets = r.gets; is = refl }
  departs_at (L.let_go {ks = ks} r e h) d l = record {
    kinds = ks;
    gets = r.gets;
    is = sym (get_taken (length ks - 1) d ks
        (let n = length-take-le (length ks - 1) ks (let m : length ks - 1 ≤ length ks = omega arith in m) in omega (arith, l, n)));
  }

  -- the ends of a step that keeps slot d
  joined : {q r d : ℕ} (o : Option Kind) → There b q d o → There b r d o → Same b d q r
  joined {q = q} {r = r} {d = d} o s t = record { onward = λ x u. moved s t x u; back = λ x u. moved t s x u }
    where
      moved : {q r : ℕ} → There b q d o → There b r d o → (x : Option Kind) → There b q d x → There b r d x
      moved s t x u = record { kinds = t.kinds; gets = t.gets; is = t.is ∙ (sym s.is ∙ (ap (λ ks. slice_get ks d) (one_list s.gets u.gets) ∙ u.is)) }

  goes_same : {q r k d : ℕ} → Goes b b.size q r k → d < k → Same b d q r
  goes_same {q = q} {r = r} {k = k} {d = d} (L.by_row {i = i} {j = j} {ks = ks} {ls = ls} u c e) l = joined (slice_get ls d)
      (record { kinds = ks; gets = u.gets; is = step_alike b q i ks u.stands (found b fits q i ks u) (step r ls k) c d l })
      (record { kinds = ls; gets = P.onward u.gets u.low c j e; is = refl })
  goes_same {d = d} (L.by_leave {ks = low} {ls = ls} c g) l = let (m, p) = target_fits b fits (L.free c) g in
      joined (slice_get ls d) (found_there (departs_at c d (omega (arith, l))) (sym (get_taken (length ls) d low (omega (arith, l))) ∙ ap (λ ks. slice_get ks d) (prefix_taken ls low p)))
      (record { kinds = ls; gets = g; is = refl })
    where
      found_there : {q : ℕ} {o x : Option Kind} → There b q d o → o ≡ x → There b q d x
      found_there t e = record { kinds = t.kinds; gets = t.gets; is = t.is ∙ e }

  pub common_same : {d q r : ℕ} → Common b b.size d q r → Same b d q r
  common_same (L.kept g l) = goes_same g l
  common_same L.same = record { onward = λ o t. t; back = λ o t. t }
  common_same (L.back c) = let s = common_same c in record { onward = s.back; back = s.onward }
  common_same (L.along c e) = let s = common_same c in let t = common_same e in
      record { onward = λ o u. t.onward o (s.onward o u); back = λ o u. s.back o (t.back o u) }

  pub common_kind : {d q r : ℕ} {ks ls : Kinds} → Common b b.size d q r → Gets b b.size q ks → Gets b b.size r ls → slice_get ks d ≡ slice_get ls d
  common_kind {d = d} {ks = ks} {ls = ls} c g h = let t = (common_same c).onward (slice_get ks d) (record { kinds = ks; gets = g; is = refl }) in
      sym t.is ∙ ap (λ ms. slice_get ms d) (one_list t.gets h)
