-- The slots of a place, cut to those of the closed parts around a target, are those of the target's nest.
use Rattle.std.proofs.Common.{◌≡◌, ℕ, suc, ◌-◌, List, [], ◌∷◌, ◌++◌, length, drop, refl, sym, ap, subst, ◌∙◌, arith, append_assoc}
use Rattle.std.proofs.lemmas.List.{length-append}
use Rattle.sem_control.specs.control.Frames as F
use Rattle.sem_control.specs.control.Frames.{Nest}
use Rattle.sem_control.specs.control.Jump.{Part, for_part, with_part, tests_part, handler_part, finally_part, Held, iterator, exception, completion, exit, kept, shape}
use Rattle.sem_code.specs.slots.Slots as S
use Rattle.sem_code.specs.slots.Slots.{Slots}
use Rattle.sem_code.specs.slots.CodeObject.{CodeObject}
use Rattle.sem_code.specs.slots.Landing.{cut}
use Rattle.sem_code.specs.comp.Surroundings.{Surroundings, held_as, May_hold}
use Rattle.sem_code.specs.comp.Law.{Above, level, raised_by}
use Rattle.sem_fits.specs.comp_jumps.Filled.{Filled, of_none, of_rest, of_looping, of_iterating, of_guarded, of_testing, of_handling, of_naming, of_ensuring, of_ending, of_withing}
use Rattle.sem_fits.specs.comp_jumps.Law.{NoFinally, SlotsAreCut}

module _ {A : Type 0} where
  behind : (front back : List A) → drop (length front) (front ++ back) ≡ back
  behind [] back = refl
  behind (a ∷ front) back = behind front back

  cut_to : (front back : List A) (n : ℕ) → n ≡ length back → drop (length (front ++ back) - n) (front ++ back) ≡ back
  cut_to front back n e =
      let l : length (front ++ back) - n ≡ length front = omega (arith, e, length-append front back) in
      ap (λ k. drop k (front ++ back)) l ∙ behind front back

module _ {V : Type 0} (code : CodeObject V) where
  -- a part with what such a part holds, and those around it; a completion is held in surroundings
  abbrev Keeps : Part → Held V → (List Surroundings → Type 0) → List Surroundings → Type 0
  Keeps (for_part n) (iterator i) f xs = f xs
  Keeps (with_part n) (exit w) f xs = f xs
  Keeps (tests_part n) (exception e) f xs = f xs
  Keeps (handler_part n) (exception e) f xs = f xs
  Keeps (finally_part n) (completion c) f (x ∷ xs) = May_hold code c x × f xs
  Keeps q h f xs = ⊥

  abbrev All_keep : List (Part × Held V) → List Surroundings → Type 0
  All_keep [] [] = Unit {0}
  All_keep [] (x ∷ xs) = ⊥
  All_keep (k ∷ ks) xs = Keeps k.0 k.1 (All_keep ks) xs

  abbrev slot_above : Part → Held V → (List Surroundings → Slots V) → List Surroundings → Slots V
  slot_above (for_part n) (iterator i) f xs = S.iterator i ∷ f xs
  slot_above (with_part n) (exit w) f xs = S.exit w ∷ f xs
  slot_above (tests_part n) (exception e) f xs = S.exception e ∷ f xs
  slot_above (handler_part n) (exception e) f xs = S.exception e ∷ f xs
  slot_above (finally_part n) (completion c) f (x ∷ xs) = S.pending (held_as c x) ∷ f xs
  slot_above q h f xs = []

  abbrev slots_of : List (Part × Held V) → List Surroundings → Slots V
  slots_of [] xs = []
  slots_of (k ∷ ks) xs = slot_above k.0 k.1 (slots_of ks) xs

  filled_keeps : {sh : List (F.Frame (Unit {0}))} {s : Nest V} {xs : List Surroundings} {σ : Slots V} → Filled code sh xs s σ
      → (σ ≡ slots_of (kept s) xs) × All_keep (kept s) xs
  filled_keeps of_none = (refl, tt)
  filled_keeps (of_rest n ss sh xs s σ f) = filled_keeps f
  filled_keeps (of_looping l n c body els sh xs s σ f) = filled_keeps f
  filled_keeps (of_iterating l n i t body els sh xs s σ f) = let r = filled_keeps f in (ap (λ τ. S.iterator i ∷ τ) r.0, r.1)
  filled_keeps (of_guarded n hs els sh xs s σ f) = filled_keeps f
  filled_keeps (of_testing n e sh xs s σ f) = let r = filled_keeps f in (ap (λ τ. S.exception e ∷ τ) r.0, r.1)
  filled_keeps (of_handling n e sh xs s σ f) = let r = filled_keeps f in (ap (λ τ. S.exception e ∷ τ) r.0, r.1)
  filled_keeps (of_naming y sh xs s σ f) = filled_keeps f
  filled_keeps (of_ensuring t n fin sh xs s σ f) = filled_keeps f
  filled_keeps (of_ending t held x sh xs s σ m f) = let r = filled_keeps f in (ap (λ τ. S.pending (held_as held x) ∷ τ) r.0, (m, r.1))
  filled_keeps (of_withing l n w sh xs s σ f) = let r = filled_keeps f in (ap (λ τ. S.exit w ∷ τ) r.0, r.1)

  fill : (s : Nest V) (xs : List Surroundings) → All_keep (kept s) xs → Filled code (shape s) xs s (slots_of (kept s) xs)
  fill [] [] m = of_none
  fill [] (x ∷ xs) m = absurd m
  fill (F.rest n ss ∷ s) xs m = of_rest n ss (shape s) xs s _ (fill s xs m)
  fill (F.looping l n c body els ∷ s) xs m = of_looping l n c body els (shape s) xs s _ (fill s xs m)
  fill (F.iterating l n i t body els ∷ s) xs m = of_iterating l n i t body els (shape s) xs s _ (fill s xs m)
  fill (F.guarded n hs els ∷ s) xs m = of_guarded n hs els (shape s) xs s _ (fill s xs m)
  fill (F.testing n e ∷ s) xs m = of_testing n e (shape s) xs s _ (fill s xs m)
  fill (F.handling n e ∷ s) xs m = of_handling n e (shape s) xs s _ (fill s xs m)
  fill (F.naming y ∷ s) xs m = of_naming y (shape s) xs s _ (fill s xs m)
  fill (F.ensuring t n fin ∷ s) xs m = of_ensuring t n fin (shape s) xs s _ (fill s xs m)
  fill (F.ending t held ∷ s) [] m = absurd m
  fill (F.ending t held ∷ s) (x ∷ xs) m = of_ending t held x (shape s) xs s _ m.0 (fill s xs m.1)
  fill (F.withing l n w ∷ s) xs m = of_withing l n w (shape s) xs s _ (fill s xs m)
  fill (F.exiting n w held ∷ s) xs m = absurd m

  -- one slot for each part
  count : (ks : List (Part × Held V)) (xs : List Surroundings) → All_keep ks xs → length ks ≡ length (slots_of ks xs)
  count [] xs m = refl
  count ((for_part n, iterator i) ∷ ks) xs m = ap suc (count ks xs m)
  count ((with_part n, exit w) ∷ ks) xs m = ap suc (count ks xs m)
  count ((tests_part n, exception e) ∷ ks) xs m = ap suc (count ks xs m)
  count ((handler_part n, exception e) ∷ ks) xs m = ap suc (count ks xs m)
  count ((finally_part n, completion c) ∷ ks) (x ∷ xs) m = ap suc (count ks xs m.1)
  count (k ∷ ks) xs m = absurd m

  -- behind parts that hold no completion the others keep what they kept
  outer : (left ks : List (Part × Held V)) (xs : List Surroundings) → NoFinally left → All_keep (left ++ ks) xs
      → All_keep ks xs × ((front : Slots V) × (slots_of (left ++ ks) xs ≡ front ++ slots_of ks xs))
  outer [] ks xs u m = (m, ([], refl))
  outer ((for_part n, iterator i) ∷ left) ks xs u m = let r = outer left ks xs u m in (r.0, (S.iterator i ∷ r.1.0, ap (λ τ. S.iterator i ∷ τ) r.1.1))
  outer ((with_part n, exit w) ∷ left) ks xs u m = let r = outer left ks xs u m in (r.0, (S.exit w ∷ r.1.0, ap (λ τ. S.exit w ∷ τ) r.1.1))
  outer ((tests_part n, exception e) ∷ left) ks xs u m = let r = outer left ks xs u m in (r.0, (S.exception e ∷ r.1.0, ap (λ τ. S.exception e ∷ τ) r.1.1))
  outer ((handler_part n, exception e) ∷ left) ks xs u m = let r = outer left ks xs u m in (r.0, (S.exception e ∷ r.1.0, ap (λ τ. S.exception e ∷ τ) r.1.1))
  outer ((finally_part n, completion c) ∷ left) ks xs u m = absurd cc
  outer (k ∷ left) ks xs u m = absurd m

  above_front : {σ τ : Slots V} → Above σ τ → (front : Slots V) × (τ ≡ front ++ σ)
  above_front level = ([], refl)
  above_front (raised_by u τ a) = let r = above_front a in (u ∷ r.0, ap (λ τ. u ∷ τ) r.1)

  pub slots_are_cut : SlotsAreCut code
  slots_are_cut sh xs place target σ τ f a left e u =
      let k = filled_keeps f in
      let o = outer left (kept target) xs u (subst (λ ks. All_keep ks xs) e k.1) in
      let n = count (kept target) xs o.0 in
      let over = above_front a in
      let lies : τ ≡ (over.0 ++ o.1.0) ++ slots_of (kept target) xs =
      over.1 ∙ (ap (λ ρ. over.0 ++ ρ) (k.0 ∙ (ap (λ ks. slots_of ks xs) e ∙ o.1.1)) ∙ sym (append_assoc over.0 o.1.0 (slots_of (kept target) xs))) in
      let cuts : cut (length (kept target)) τ ≡ slots_of (kept target) xs =
      ap (cut (length (kept target))) lies ∙ cut_to (over.0 ++ o.1.0) (slots_of (kept target) xs) (length (kept target)) n in
      subst (λ ρ. Filled code (shape target) xs target ρ) (sym cuts) (fill target xs o.0)
