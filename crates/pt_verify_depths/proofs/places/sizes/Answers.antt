use Rattle.std.proofs.Common.{◌∙◌}
use Rattle.std.proofs.lemmas.Result.{IfOk-weaker}
use Rattle.sem_fits.specs.fits.Block.{block_of}
use Rattle.pt_verify_depths.proofs.PlaceLemmas.{tells_of_block}
use Rattle.pt_verify_depths.proofs.places.sizes.Goals as goal

pub returns : goal.returns
returns c = IfOk-weaker c.sizes_of.result _ _
    (λ s t view is. tells_of_block (block_of c.args.code.now c.args.block.now view) c.in_ok-places.places.items c.in_ok-rows.rows.items c.start_size.result (c.in_ok-places.ensures view is)
    (c.in_ok-rows.ensures.items ∙ c.as_slice.ensures) c.start_size.ensures s t)
    c.sizes_of.ensures
