-- Instructions are cut off one after the other.
use Rattle.std.proofs.Common.{◌≡◌, ◌⊎◌, inl, inr, ℕ, zero, suc, ◌<◌, ◌≤◌, List, length, Option, arith}
use Rattle.pt_sizes.specs.declared.places.Place.{Place}
use Rattle.pt_sizes.specs.Flow.{entry}
use Rattle.pt_partial_sizes.specs.Cut.{cut_place}

-- those before a place are cut off as far as they stand behind the limit
pub record CutUpTo (limit at : ℕ) (old new : List (Option Place)) : Type 0 where
  pub low : limit ≤ at
  pub long : length new ≡ length old
  pub done : (pc : ℕ) → pc < at → entry new pc ≡ cut_place limit pc (entry old pc)
  pub ahead : (pc : ℕ) → at ≤ pc → entry new pc ≡ entry old pc

pub low_or_high : (q l : ℕ) → (q < l) ⊎ (l ≤ q)
low_or_high zero zero = inr (omega arith)
low_or_high zero (suc l) = inl (omega arith)
low_or_high (suc q) zero = inr (omega arith)
low_or_high (suc q) (suc l) = elim (low_or_high q l) [ inl h ↦ inl (omega (arith, h)) | inr h ↦ inr (omega (arith, h)) ]
