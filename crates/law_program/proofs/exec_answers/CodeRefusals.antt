-- A code is refused for one reason, and one line is that of its first block that isn't supported.
use Rattle.std.proofs.Common.{◌≡◌, ◌⊎◌, ◌<◌, ℕ, inl, inr, Some, refl, sym, ap, ◌∙◌, subst}
use Rattle.std.specs.Prelude.{slice_get}
use Rattle.std.proofs.lemmas.Bool.{cases_order}
use Rattle.std.proofs.lemmas.Option.{get_or_from_slice_get, slice_get_within}
use Rattle.pt_base.specs.declared.numbers.BlockId.{BlockId}
use Rattle.pt_base.specs.declared.numbers.Line.{Line}
use Rattle.pt_code.specs.declared.CodeBlock.{CodeBlock}
use Rattle.pt_code.specs.declared.Code.{Code}
use Rattle.pt_code.specs.File.{HasFile}
use Rattle.sem_fits.specs.fits.Block.{block_of}
use Rattle.sem_fits.specs.fits.Fits.{BlockFits, Misfit, depth, kind, silent_loop, stack, table, target}
use Rattle.sem_fits.proofs.fits.OneAnswer.{fits_isnt_refused, one_refusal_at_most}
use Rattle.sem_fits.proofs.fits.ViewLaid.{view_is_laid}
use Rattle.pt_verify_depths.specs.Views.{HasView}
use Rattle.pt_verify_depths.proofs.ViewLemmas.{blocks_are_seen}
use Rattle.pt_verify.specs.declared.error.VerifyErr.{VerifyErr}
use Rattle.pt_verify.specs.declared.error.VerifyErr.TheVariants as err
use Rattle.pt_verify.specs.Verdict.{BlockRefused, FirstRefused, IsRefused}
use Rattle.pt_supported_code.specs.Built.{IsUnbuiltCode}

abbrev refusal : BlockId → Misfit → VerifyErr
refusal b (stack pc) = err.Stack b (record { 0 = pc })
refusal b (kind pc) = err.Kind b (record { 0 = pc })
refusal b (target pc) = err.Target b (record { 0 = pc })
refusal b (table row) = err.Table b row
refusal b (silent_loop pc) = err.SilentLoop b (record { 0 = pc })
refusal b depth = err.Depth b

module _ (c : Code) where
  same_block : (n k : ℕ) (b d : CodeBlock) → n ≡ k → slice_get c.blocks n ≡ Some b → slice_get c.blocks k ≡ Some d → b ≡ d
  same_block n k b d same x y = let e : Some b ≡ Some d = sym x ∙ ap (slice_get c.blocks) same ∙ y in cc

  module _ (has : HasFile c) where
    seen : (n : ℕ) (b : CodeBlock) → slice_get c.blocks n ≡ Some b → HasView b
    seen n b is = blocks_are_seen c has b (n, slice_get_within c.blocks n b is, get_or_from_slice_get c.blocks n b b is)

    fits_or_refused : (n : ℕ) (b : CodeBlock) → slice_get c.blocks n ≡ Some b → BlockFits c b → (m : Misfit) → BlockRefused c b m → ⊥
    fits_or_refused n b is fit m r =
        let v = seen n b is in
        fits_isnt_refused (block_of c b v.view) (view_is_laid c b v.view v.is) (fit v.view v.is) m (r v.view v.is)

    one_misfit : (n : ℕ) (b : CodeBlock) → slice_get c.blocks n ≡ Some b → (m l : Misfit) → BlockRefused c b m → BlockRefused c b l → m ≡ l
    one_misfit n b is m l r s =
        let v = seen n b is in
        one_refusal_at_most (block_of c b v.view) (view_is_laid c b v.view v.is) m l (r v.view v.is) (s v.view v.is)

    -- the first block that doesn't fit is one, and is refused for one reason
    one_first : (n k : ℕ) (m l : Misfit) → FirstRefused c n m → FirstRefused c k l → (n ≡ k) × (m ≡ l)
    one_first n k m l r s = by_order (cases_order n k)
      where
        by_order : (n ≡ k) ⊎ ((n < k) ⊎ (k < n)) → (n ≡ k) × (m ≡ l)
        by_order (inl e) =
            let same : s.block ≡ r.block = sym (same_block n k r.block s.block e r.is s.is) in
            (e, one_misfit n r.block r.is m l r.refused (subst (λ b. BlockRefused c b l) same s.refused))
        by_order (inr (inl x)) = absurd (fits_or_refused n r.block r.is (s.before n r.block x r.is) m r.refused)
        by_order (inr (inr x)) = absurd (fits_or_refused k s.block s.is (r.before k s.block x s.is) l s.refused)

  -- a refusal tells its block, and why this is refused
  record IsOf (e : VerifyErr) : Type 0 where
    block : BlockId
    misfit : Misfit
    first : FirstRefused c block.0 misfit
    is : e ≡ refusal block misfit

  is_of : (e : VerifyErr) → IsRefused c e → (e ≡ err.Memory → ⊥) → IsOf e
  is_of (err.Stack b pc) r more = record { block = b; misfit = stack pc.0; first = r; is = refl }
  is_of (err.Kind b pc) r more = record { block = b; misfit = kind pc.0; first = r; is = refl }
  is_of (err.Target b pc) r more = record { block = b; misfit = target pc.0; first = r; is = refl }
  is_of (err.Table b row) r more = record { block = b; misfit = table row; first = r; is = refl }
  is_of (err.SilentLoop b pc) r more = record { block = b; misfit = silent_loop pc.0; first = r; is = refl }
  is_of (err.Depth b) r more = record { block = b; misfit = depth; first = r; is = refl }
  is_of err.Memory r more = absurd (more refl)

  -- want of memory aside, which says nothing of the code
  pub one_refusal : HasFile c → (d e : VerifyErr) → IsRefused c d → IsRefused c e → (d ≡ err.Memory → ⊥) → (e ≡ err.Memory → ⊥) → d ≡ e
  one_refusal has d e r s more again =
      let x = is_of d r more in
      let y = is_of e s again in
      let same = one_first has x.block.0 y.block.0 x.misfit y.misfit x.first y.first in
      x.is ∙ (ap (λ n. refusal (record { 0 = n }) x.misfit) same.0 ∙ (ap (refusal y.block) same.1 ∙ sym y.is))

  pub one_line : (k l : Line) → IsUnbuiltCode c k → IsUnbuiltCode c l → k ≡ l
  one_line k l x y = by_order (cases_order x.number y.number)
    where
      by_order : (x.number ≡ y.number) ⊎ ((x.number < y.number) ⊎ (y.number < x.number)) → k ≡ l
      by_order (inl e) = x.line_is ∙ (ap (λ b. b.first_line) (same_block x.number y.number x.block y.block e x.is y.is) ∙ sym y.line_is)
      by_order (inr (inl n)) = absurd (x.unbuilt (y.first x.number x.block n x.is))
      by_order (inr (inr n)) = absurd (y.unbuilt (x.first y.number y.block n y.is))
