-- What is known of the places that were looked at, while a forest grows.
use Rattle.std.proofs.Common.{◌≡◌, ℕ, ◌+◌, ◌<◌, ◌≤◌, Bool, true, false, List, length, Option, Some, None, refl, sym, ap, ◌∙◌, subst, arith, inl, inr}
use Rattle.std.specs.Prelude.{not, IfSome}
use Rattle.std.proofs.lemmas.Bool.{false≢true}
use Rattle.pt_places.specs.declared.places.Place.{Place}
use Rattle.pt_places.specs.PlaceTable.{entry}
use Rattle.pt_sizes.proofs.Tables.{entry_in}
use Rattle.sem_fits.specs.fits.Block.{Links, effect}
use Rattle.sem_fits.specs.fits.Steps.{finds}
use Rattle.pt_kinds.specs.declared.forest.Forest.{Forest}
use Rattle.pt_kinds.specs.Forest.{IsForest, IsInside}
use Rattle.pt_kind_flow.specs.Search.{Grows}
use Rattle.pt_block_kinds.proofs.Lists.{below_or}
use Rattle.pt_kind_failures.specs.Lacking.{lacks_in, lacks_at, AnyLacks, AreInside}

still_inside : (old new : Forest) (i : ℕ) → Grows old new → IsInside old i → IsInside new i
still_inside old new i g h = let m = g.more in omega (arith, m, h)

grows_then : (one two three : Forest) → Grows one two → Grows two three → Grows one three
grows_then one two three g h = record {
  forest = h.forest;
  kept = λ i k. h.kept i (still_inside one two i g k) ∙ g.kept i k;
  more = let m = g.more in let n = h.more in omega (arith, m, n);
}

-- none of the places before one lacks a kind
pub record Looked (old new : Forest) (links : Links) (lists : List (Option ℕ)) (places : List (Option Place)) (at : ℕ) : Type 0 where
  pub grows : Grows old new
  pub none : (pc : ℕ) → pc < at → lacks_at old links lists places pc ≡ true → ⊥

module _ (old : Forest) (links : Links) (lists : List (Option ℕ)) (places : List (Option Place)) where
  pub none_looked : IsForest old → Looked old old links lists places 0
  none_looked is = record { grows = record { forest = is; kept = λ i h. refl; more = omega arith }; none = λ pc h. absurd (omega (arith, h)) }

  -- a list stays as it is
  stays : (new : Forest) → Grows old new → AreInside old lists → (at : ℕ) → lacks_in new links (entry lists at) (entry places at) ≡ lacks_at old links lists places at
  stays new g inside at = by (entry lists at) refl (entry places at)
    where
      by : (o : Option ℕ) → entry lists at ≡ o → (m : Option Place) → lacks_in new links o m ≡ lacks_in old links o m
      by (Some l) e (Some p) = ap (λ ks. not (finds (effect links p.instr) ks)) (g.kept l (inside at l e))
      by (Some l) e None = refl
      by None e m = refl

  pub inside_still : (now : Forest) (at : ℕ) → Looked old now links lists places at → AreInside old lists → IfSome (entry lists at) (IsInside now)
  inside_still now at looked inside = by (entry lists at) refl
    where
      by : (o : Option ℕ) → entry lists at ≡ o → IfSome o (IsInside now)
      by (Some l) e = still_inside old now l looked.grows (inside at l e)
      by None e = tt

  pub look : (now new : Forest) (at : ℕ) → Looked old now links lists places at → AreInside old lists → Grows now new → (t : Bool)
      → t ≡ lacks_in now links (entry lists at) (entry places at) → t ≡ false → Looked old new links lists places (at + 1)
  look now new at looked inside g t e f = record {
    grows = grows_then old now new looked.grows g;
    none = λ pc h x. elim (below_or pc at) [
      | inl k ↦ looked.none pc k x
      | inr k ↦ (let same : pc ≡ at = omega (arith, h, k) in
          false≢true (sym f ∙ (e ∙ (stays now looked.grows inside at ∙ subst (λ n. lacks_at old links lists places n ≡ true) same x))))
    ];
  }

  pub looked_found : (now : Forest) (at limit : ℕ) → Looked old now links lists places at → AreInside old lists → at ≤ limit → (t : Bool)
      → t ≡ lacks_in now links (entry lists at) (entry places at) → t ≡ true → AnyLacks old links lists places limit
  looked_found now at limit looked inside low t e f = record { pc = at; low = low; here = sym (stays now looked.grows inside at) ∙ (sym e ∙ f) }

  -- a place with a list is in the table
  lacks_below : (pc : ℕ) → lacks_at old links lists places pc ≡ true → pc < length lists
  lacks_below pc x = by (entry lists pc) refl (entry places pc) x
    where
      by : (o : Option ℕ) → entry lists pc ≡ o → (m : Option Place) → lacks_in old links o m ≡ true → pc < length lists
      by (Some l) e m y = entry_in lists pc l e
      by None e m y = absurd (false≢true y)

  pub looked_at_all : (now : Forest) (at limit : ℕ) → Looked old now links lists places at → length lists ≤ at → AnyLacks old links lists places limit → ⊥
  looked_at_all now at limit looked h x = looked.none x.pc (let k = lacks_below x.pc x.here in omega (arith, h, k)) x.here

  pub looked_up_to : (now : Forest) (at limit : ℕ) → Looked old now links lists places at → limit < at → AnyLacks old links lists places limit → ⊥
  looked_up_to now at limit looked h x = looked.none x.pc (let k = x.low in omega (arith, h, k)) x.here
