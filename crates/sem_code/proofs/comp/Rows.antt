-- Where a completion lands: what the rows of a surroundings take, and how many slots stay.
use Rattle.std.proofs.Common.{◌≡◌, ℕ, ◌-◌, Bool, true, false, not, List, [], ◌∷◌, ◌++◌, length, drop, Option, Some, None, refl, sym, ap, ◌∙◌, arith, length-append}
use Rattle.std.specs.Prelude.{if◌then◌else◌, ◌&&◌}
use Rattle.pt_ranges.specs.declared.handlers.Handler.{Handler}
use Rattle.sem_control.specs.control.Frames as F
use Rattle.sem_control.specs.control.Completions as completions
use Rattle.sem_control.specs.control.Completions.{swallowed}
use Rattle.sem_code.specs.slots.Slots as slots
use Rattle.sem_code.specs.slots.Slots.{jump_to, Slot, exception, pending, Slots, on, left_of}
use Rattle.sem_code.specs.slots.CodeObject.{CodeObject}
use Rattle.sem_code.specs.slots.Landing.{cut, takes, held_by, land}
use Rattle.sem_code.specs.comp.Law.{Above, level, raised_by}
use Rattle.sem_code.specs.comp.Surroundings.{Loop, Surroundings, deeper, under, covers_place, Reached, Within_loop, TakesAll, TakesRaises, end_place, next_place, Ends, Goes_on, as_code, held_as, May, May_hold}

module _ {V : Type 0} where
  drop_front : (ms σ : Slots V) → drop (length ms) (ms ++ σ) ≡ σ
  drop_front [] σ = refl
  drop_front (m ∷ ms) σ = drop_front ms σ

  front : (σ τ : Slots V) → Above σ τ → (ms : Slots V) × (ms ++ σ ≡ τ)
  front σ _ level = ([], refl)
  front σ _ (raised_by s τ o) = let h = front σ τ o in (s ∷ h.0, ap (λ u. s ∷ u) h.1)

  cut_front : (d : ℕ) (ms σ : Slots V) → length σ ≡ d → cut d (ms ++ σ) ≡ σ
  cut_front d ms σ e =
      let i : length (ms ++ σ) - d ≡ length ms = omega (arith, length-append ms σ) in
      ap (λ k. drop k (ms ++ σ)) i ∙ drop_front ms σ

  -- as many slots stay as lie below
  pub cut_above : (d : ℕ) (σ τ : Slots V) → Above σ τ → length σ ≡ d → cut d τ ≡ σ
  cut_above d σ τ o e = let h = front σ τ o in ap (λ u. cut d u) (sym h.1) ∙ cut_front d h.0 σ e

  pub shorter : (u : Slot V) (σ τ : Slots V) → Above (u ∷ σ) τ → Above σ τ
  shorter u σ _ level = raised_by u σ level
  shorter u σ _ (raised_by t τ o) = raised_by t τ (shorter u σ τ o)

  -- rows and slots don't change what a completion is
  pub as_under : (a : F.Abrupt V) (r : Handler) (x : Surroundings) → as_code a (under r x) ≡ as_code a x
  as_under (F.raise v) r x = refl
  as_under (F.return v) r x = refl
  as_under F.break r x = refl
  as_under F.continue r x = refl

  pub as_deeper : (a : F.Abrupt V) (x : Surroundings) → as_code a (deeper x) ≡ as_code a x
  as_deeper (F.raise v) x = refl
  as_deeper (F.return v) x = refl
  as_deeper F.break x = refl
  as_deeper F.continue x = refl

  -- what an exit leaves
  pub raise_in : (c : F.Completion V) (x : Surroundings) → slots.raise_of (held_as c x) ≡ completions.raise_of c
  raise_in F.normal x = refl
  raise_in (F.by (F.raise v)) x = refl
  raise_in (F.by (F.return v)) x = refl
  raise_in (F.by F.break) x = refl
  raise_in (F.by F.continue) x = refl

  pub left_true : (c : F.Completion V) (x : Surroundings) → left_of true (held_as c x) ≡ held_as (swallowed c) x
  left_true F.normal x = refl
  left_true (F.by (F.raise v)) x = refl
  left_true (F.by (F.return v)) x = refl
  left_true (F.by F.break) x = refl
  left_true (F.by F.continue) x = refl

  pub left_false : (c : F.Completion V) (x : Surroundings) → left_of false (held_as c x) ≡ held_as c x
  left_false F.normal x = refl
  left_false (F.by (F.raise v)) x = refl
  left_false (F.by (F.return v)) x = refl
  left_false (F.by F.break) x = refl
  left_false (F.by F.continue) x = refl

and_false : (b c : Bool) → c ≡ false → (c && b) ≡ false
and_false b c e = ap (λ u. u && b) e

module _ {V : Type 0} (code : CodeObject V) where
  -- rows and slots don't change what may come
  pub may_under : (a : F.Abrupt V) (r : Handler) (x : Surroundings) → May code a (under r x) → May code a x
  may_under (F.raise v) r x m = m
  may_under (F.return v) r x m = m
  may_under F.break r x m = m
  may_under F.continue r x m = m

  pub may_deeper : (a : F.Abrupt V) (x : Surroundings) → May code a (deeper x) → May code a x
  may_deeper (F.raise v) x m = m
  may_deeper (F.return v) x m = m
  may_deeper F.break x m = m
  may_deeper F.continue x m = m

  pub may_swallowed : (c : F.Completion V) (x : Surroundings) → May_hold code c x → May_hold code (swallowed c) x
  may_swallowed F.normal x m = m
  may_swallowed (F.by (F.raise v)) x m = tt
  may_swallowed (F.by (F.return v)) x m = m
  may_swallowed (F.by F.break) x m = m
  may_swallowed (F.by F.continue) x m = m

  out_of : (r : Handler) (o : Option Loop) → Within_loop r o → Ends code o → covers_place r (end_place o) ≡ false
  out_of r None h m = elim m [ ]
  out_of r (Some l) h m = h.1

  on_to_next : (r : Handler) (o : Option Loop) → Within_loop r o → Goes_on code o → covers_place r (next_place o) ≡ false
  on_to_next r None h m = elim m [ ]
  on_to_next r (Some l) h m = h.0

  -- what leaves for a place that is reached is taken by no row
  stays : (rows : List Handler) (p : ℕ) (τ : Slots V) → Reached p rows → land code rows (jump_to p) τ ≡ on p (cut (code.depth_at p) τ)
  stays [] p τ h = refl
  stays (r ∷ rows) p τ (e, h) =
      ap (λ b. if b then on r.target.0 (held_by r.always (jump_to p) ∷ cut r.depth τ) else land code rows (jump_to p) τ) e ∙ stays rows p τ h

  pub reaches : (rows : List Handler) (p : ℕ) (σ τ : Slots V) → Reached p rows → Above σ τ → length σ ≡ code.depth_at p → land code rows (jump_to p) τ ≡ on p σ
  reaches rows p σ τ h o e = stays rows p τ h ∙ ap (λ u. on p u) (cut_above (code.depth_at p) σ τ o e)

  row_takes : (a : F.Abrupt V) (r : Handler) (x : Surroundings) → TakesAll r x → May code a x → takes r (as_code a x) ≡ true
  row_takes (F.raise v) r x h m = refl
  row_takes (F.return v) r x h m = h.always
  row_takes F.break r x h m = ap (λ b. r.always && not b) (out_of r x.loop h.around m) ∙ ap (λ b. b && true) h.always
  row_takes F.continue r x h m = ap (λ b. r.always && not b) (on_to_next r x.loop h.around m) ∙ ap (λ b. b && true) h.always

  -- an always row takes what may come, and an except row a raise
  pub all_land : (a : F.Abrupt V) (r : Handler) (x : Surroundings) (rows : List Handler) (σ τ : Slots V) → TakesAll r x → May code a x → Above σ τ → length σ ≡ x.depth
      → land code (r ∷ rows) (as_code a x) τ ≡ on r.target.0 (pending (slots.by (as_code a x)) ∷ σ)
  all_land a r x rows σ τ h m o e =
      ap (λ b. if b then on r.target.0 (held_by r.always (as_code a x) ∷ cut r.depth τ) else land code rows (as_code a x) τ) (row_takes a r x h m)
      ∙ ap (λ b. on r.target.0 (held_by b (as_code a x) ∷ cut r.depth τ)) h.always
      ∙ ap (λ u. on r.target.0 (pending (slots.by (as_code a x)) ∷ u)) (cut_above r.depth σ τ o (e ∙ sym h.depth))

  pub raise_lands : (v : V) (r : Handler) (x : Surroundings) (rows : List Handler) (σ τ : Slots V) → TakesRaises r x → Above σ τ → length σ ≡ x.depth
      → land code (r ∷ rows) (slots.raise v) τ ≡ on r.target.0 (exception v ∷ σ)
  raise_lands v r x rows σ τ h o e =
      ap (λ b. on r.target.0 (held_by b (slots.raise v) ∷ cut r.depth τ)) h.except
      ∙ ap (λ u. on r.target.0 (exception v ∷ u)) (cut_above r.depth σ τ o (e ∙ sym h.depth))

  -- what an except row doesn't take
  passes : (g : slots.Abrupt V) (r : Handler) (rows : List Handler) (τ : Slots V) → takes r g ≡ false → land code (r ∷ rows) g τ ≡ land code rows g τ
  passes g r rows τ e = ap (λ b. if b then on r.target.0 (held_by r.always g ∷ cut r.depth τ) else land code rows g τ) e

  pub return_passes : (v : V) (r : Handler) (x : Surroundings) (rows : List Handler) (τ : Slots V) → TakesRaises r x
      → land code (r ∷ rows) (slots.return v) τ ≡ land code rows (slots.return v) τ
  return_passes v r x rows τ h = passes (slots.return v) r rows τ h.except

  pub jump_passes : (p : ℕ) (r : Handler) (x : Surroundings) (rows : List Handler) (τ : Slots V) → TakesRaises r x
      → land code (r ∷ rows) (jump_to p) τ ≡ land code rows (jump_to p) τ
  jump_passes p r x rows τ h = passes (jump_to p) r rows τ (and_false _ r.always h.except)
