-- A place is too deep exactly where its size is too great.
use Rattle.std.proofs.Common.{◌≡◌, ℕ, ◌+◌, ◌<◌, ◌≤◌, List, length, Option, Some, sym, ap, subst, zero, suc, arith, ◌⊎◌, inl, inr}
use Rattle.pt_sizes.specs.Flow.{entry}
use Rattle.pt_sizes.proofs.Tables.{entry_in}
use Rattle.sem_fits.specs.fits.Block.{Block}
use Rattle.sem_fits.specs.fits.Fits.{MOST, TooDeep}
use Rattle.pt_verify_depths.specs.PlaceTable.{AreSizes}
use Rattle.pt_verify_depths.proofs.SizeLemmas.{kinds_have_sizes, sizes_have_kinds}

abbrev pub NoneDeepBelow : List (Option ℕ) → ℕ → Type 0
NoneDeepBelow table k = (pc n : ℕ) → pc < k → entry table pc ≡ Some n → MOST < n → ⊥

below_or : (q l : ℕ) → q < l + 1 → (q < l) ⊎ (q ≡ l)
below_or zero zero h = inr (omega arith)
below_or zero (suc l) h = inl (omega arith)
below_or (suc q) zero h = absurd (omega arith)
below_or (suc q) (suc l) h = elim (below_or q l (omega arith)) [ inl a ↦ inl (omega arith) | inr a ↦ inr (ap (λ n. suc n) a) ]

pub none_more : (table : List (Option ℕ)) (k : ℕ) → NoneDeepBelow table k → ((n : ℕ) → entry table k ≡ Some n → MOST < n → ⊥) → NoneDeepBelow table (k + 1)
none_more table k none here pc n lt e h = elim (below_or pc k lt) [ inl a ↦ none pc n a e h | inr a ↦ here n (subst (λ x. entry table x ≡ Some n) a e) h ]

module _ (b : Block) (table : List (Option ℕ)) (are : AreSizes b table) where
  pub is_deep : (pc n : ℕ) → entry table pc ≡ Some n → MOST < n → TooDeep b
  is_deep pc n e h = let k = sizes_have_kinds b b.size pc n (are.sound pc n e) in
      record { pc = pc; kinds = k.kinds; gets = k.gets; more = subst (λ m. MOST < m) (sym k.long) h }

  pub none_deep : (k : ℕ) → length table ≤ k → NoneDeepBelow table k → TooDeep b → ⊥
  none_deep k le none d =
      let e = are.whole b.size d.pc (length d.kinds) (kinds_have_sizes b b.size d.pc d.kinds d.gets) in
      let lt : d.pc < length table = entry_in table d.pc (length d.kinds) e in
      none d.pc (length d.kinds) (omega (arith, lt, le)) e d.more
