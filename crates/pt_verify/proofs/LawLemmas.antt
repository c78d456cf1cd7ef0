-- Code that fits isn't refused.
use Rattle.std.proofs.Common.{ℕ, refl}
use Rattle.std.proofs.lemmas.Option.{get_or_from_slice_get, slice_get_within}
use Rattle.pt_code.specs.declared.Code.{Code}
use Rattle.pt_code.specs.File.{HasFile}
use Rattle.sem_fits.specs.fits.Block.{block_of}
use Rattle.sem_fits.specs.fits.Fits.{AllFit, Misfit, depth, kind, silent_loop, stack, table, target}
use Rattle.sem_fits.proofs.fits.OneAnswer.{fits_isnt_refused}
use Rattle.sem_fits.proofs.fits.ViewLaid.{view_is_laid}
use Rattle.pt_verify_depths.proofs.ViewLemmas.{blocks_are_seen}
use Rattle.pt_verify.specs.declared.error.VerifyErr.TheVariants as err
use Rattle.pt_verify.specs.Verdict.{FirstRefused}
use Rattle.pt_verify.specs.Laws.{FittingIsUnrefused}

none_refused : (c : Code) → HasFile c → AllFit c → (n : ℕ) (m : Misfit) → FirstRefused c n m → ⊥
none_refused c has fit n m r =
    let seen = blocks_are_seen c has r.block (n, slice_get_within c.blocks n r.block r.is, get_or_from_slice_get c.blocks n r.block r.block r.is) in
    fits_isnt_refused (block_of c r.block seen.view) (view_is_laid c r.block seen.view seen.is) (fit n r.block r.is seen.view seen.is) m (r.refused seen.view seen.is)

pub fitting_is_unrefused : (c : Code) → FittingIsUnrefused c
fitting_is_unrefused c has fit (err.Stack b pc) r = absurd (none_refused c has fit b.0 (stack pc.0) r)
fitting_is_unrefused c has fit (err.Kind b pc) r = absurd (none_refused c has fit b.0 (kind pc.0) r)
fitting_is_unrefused c has fit (err.Target b pc) r = absurd (none_refused c has fit b.0 (target pc.0) r)
fitting_is_unrefused c has fit (err.Table b row) r = absurd (none_refused c has fit b.0 (table row) r)
fitting_is_unrefused c has fit (err.SilentLoop b pc) r = absurd (none_refused c has fit b.0 (silent_loop pc.0) r)
fitting_is_unrefused c has fit (err.Depth b) r = absurd (none_refused c has fit b.0 depth r)
fitting_is_unrefused c has fit err.Memory r = refl
