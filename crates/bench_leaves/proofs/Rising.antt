-- Marks whose places were compared with the next ones rise.
use Rattle.std.proofs.Common.{◌≡◌, ◌+◌, ◌-◌, ◌<◌, ◌≤◌, ◌⊎◌, ℕ, get_or, zero, suc, List, map, length, slice_index, refl, sym, subst, inl, inr, arith}
use Rattle.std.proofs.lemmas.List.{get_or-map}
use Rattle.pt_ranges.specs.declared.lines.ActMark.{ActMark}

splits : (k i : ℕ) → k + 1 < i + 1 → (k + 1 < i) ⊎ (k + 1 ≡ i)
splits k zero h = absurd (omega (arith, h))
splits zero (suc zero) h = inr refl
splits zero (suc (suc i)) h = inl (omega arith)
splits (suc k) (suc i) h = elim (splits k i (omega (arith, h))) [
  | inl l ↦ inl (omega (arith, l))
  | inr e ↦ inr (omega (arith, e))
]

abbrev pub place : ActMark → ℕ
place m = m.pc.0

abbrev pub Up : List ActMark → ℕ → Type 0
Up rows k = slice_index (map place rows) k < slice_index (map place rows) (k + 1)

last_up : (rows : List ActMark) (k : ℕ) (d : ActMark) → k + 1 < length rows → (get_or rows k d).pc.0 < (get_or rows (k + 1) d).pc.0 → Up rows k
last_up rows k d within up = omega (arith, up, get_or-map place rows k d 0 (omega (arith, within)), get_or-map place rows (k + 1) d 0 within)

pub one_more : (rows : List ActMark) (i : ℕ) (d : ActMark) → 1 ≤ i → ((k : ℕ) → k + 1 < i → k + 1 < length rows → Up rows k) → (get_or rows (i - 1) d).pc.0 < (get_or rows i d).pc.0
    → (k : ℕ) → k + 1 < i + 1 → k + 1 < length rows → Up rows k
one_more rows i d low before up k below within = elim (splits k i below) [
  | inl l ↦ before k l within
  | inr e ↦ last_up rows k d within (subst (λ n. (get_or rows k d).pc.0 < (get_or rows n d).pc.0) (sym e) (subst (λ n. (get_or rows n d).pc.0 < (get_or rows i d).pc.0) (omega (arith, e, low)) up))
]
