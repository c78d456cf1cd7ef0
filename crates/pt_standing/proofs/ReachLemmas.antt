-- An instruction is reached just where its place has a size.
use Rattle.std.proofs.Common.{◌≡◌, ◌⊎◌, inl, inr, ℕ, ◌+◌, ◌<◌, ◌≤◌, true, false, not, List, length, Option, Some, None, refl, sym, ap, ◌∙◌, subst, arith, true≢false}
use Rattle.std.specs.Bool.{Decides}
use Rattle.std.proofs.lemmas.Bool.{not-true}
use Rattle.pt_code.specs.View.{Ins}
use Rattle.pt_code.specs.declared.BlockKind.{BlockKind}
use Rattle.pt_places.specs.declared.places.Place as P
use Rattle.pt_places.specs.PlaceTable.{place_at, HasPlaces}
use Rattle.pt_sizes.specs.Flow.{entry}
use Rattle.pt_sizes.proofs.Tables.{below_or, entry_in}
use Rattle.sem_fits.specs.fits.Block.{Block, Links}
use Rattle.sem_fits.specs.fits.Standing.{may_stand}
use Rattle.pt_verify_depths.specs.PlaceTable.{AreSizesUpTo}
use Rattle.pt_verify_depths.proofs.SizeLemmas.{kinds_have_sizes, sizes_have_kinds}
use Rattle.pt_standing.specs.Misplaced.{Misplaced, is_misplaced}

-- the parts of a place with an instruction that may not stand there
record Parts (kind : BlockKind) (links : Links) (at : Option Ins) (size : Option ℕ) : Type 0 where
  ins : Ins
  n : ℕ
  stands : at ≡ Some ins
  sized : size ≡ Some n
  fails : may_stand kind links ins.instr ≡ false

parts : (kind : BlockKind) (links : Links) (at : Option Ins) (size : Option ℕ) → is_misplaced kind links (place_at at) size ≡ true → Parts kind links at size
parts kind links (Some i) (Some n) e = record { ins = i; n = n; stands = refl; sized = refl; fails = not-true (may_stand kind links i.instr) e }
parts kind links (Some i) None e = absurd (true≢false (sym e))
parts kind links None size e = absurd (true≢false (sym e))

-- of the places below a count none has one
abbrev pub NoneBelow : BlockKind → Links → (places : List (Option P.Place)) → List (Option ℕ) → ℕ → Type 0
NoneBelow kind links places sizes k = (pc : ℕ) → pc < k → is_misplaced kind links (entry places pc) (entry sizes pc) ≡ false

pub none_more : (kind : BlockKind) (links : Links) (places : List (Option P.Place)) (sizes : List (Option ℕ)) (k : ℕ) → NoneBelow kind links places sizes k
    → is_misplaced kind links (entry places k) (entry sizes k) ≡ false → NoneBelow kind links places sizes (k + 1)
none_more kind links places sizes k none here pc lt = elim (below_or pc k lt) [
  | inl l ↦ none pc l
  | inr e ↦ subst (λ q. is_misplaced kind links (entry places q) (entry sizes q) ≡ false) (sym e) here
]

module _ (b : Block) (places : List (Option P.Place)) (shown : HasPlaces b.at places) (p : ℕ) (sizes : List (Option ℕ)) (are : AreSizesUpTo b p sizes) where
  pub one_is : (pc : ℕ) → pc ≤ p → is_misplaced b.kind b.links (entry places pc) (entry sizes pc) ≡ true → Misplaced b p
  one_is pc le e =
      let x = parts b.kind b.links (b.at pc) (entry sizes pc) (sym (ap (λ o. is_misplaced b.kind b.links o (entry sizes pc)) (shown pc)) ∙ e) in
      let k = sizes_have_kinds b p pc x.n (are.sound pc x.n x.sized) in
      record { pc = pc; ins = x.ins; kinds = k.kinds; reached = record { gets = k.gets; low = le; stands = x.stands }; fails = x.fails }

  pub none_is : (k : ℕ) → (length sizes ≤ k) ⊎ (p < k) → NoneBelow b.kind b.links places sizes k → Misplaced b p → ⊥
  none_is k end none m =
      let r = m.reached in let s = are.whole m.pc (length m.kinds) (kinds_have_sizes b p m.pc m.kinds r.gets) in
      true≢false (sym (ap (λ o. is_misplaced b.kind b.links (entry places m.pc) o) s
      ∙ (ap (λ o. is_misplaced b.kind b.links o (Some (length m.kinds))) (shown m.pc ∙ ap place_at r.stands) ∙ ap not m.fails))
      ∙ none m.pc (low end s))
    where
      low : (length sizes ≤ k) ⊎ (p < k) → entry sizes m.pc ≡ Some (length m.kinds) → m.pc < k
      low (inl le) s = let i = entry_in sizes m.pc (length m.kinds) s in omega (arith, i, le)
      low (inr lt) s = let r = m.reached in let le = r.low in omega (arith, lt, le)

  pub found_one : (pc : ℕ) → pc ≤ p → is_misplaced b.kind b.links (entry places pc) (entry sizes pc) ≡ true → Decides true (Misplaced b p)
  found_one pc le e = ((λ t. one_is pc le e), (λ m. refl))

  pub found_none : (k : ℕ) → (length sizes ≤ k) ⊎ (p < k) → NoneBelow b.kind b.links places sizes k → Decides false (Misplaced b p)
  found_none k end none = ((λ t. absurd (true≢false (sym t))), (λ m. absurd (none_is k end none m)))
