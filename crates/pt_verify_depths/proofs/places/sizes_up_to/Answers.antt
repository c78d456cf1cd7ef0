use Rattle.std.proofs.Common.{arith}
use Rattle.std.proofs.lemmas.Result.{IfOk-weaker}
use Rattle.sem_fits.specs.fits.Block.{block_of}
use Rattle.pt_verify_depths.proofs.PlaceLemmas.{tells_of_block_up_to}
use Rattle.pt_verify_depths.proofs.places.sizes_up_to.Goals as goal

pub returns : goal.returns
returns c = IfOk-weaker c.sizes_below.result _ _
    (λ s t view is. tells_of_block_up_to (block_of c.args.code.now c.args.block.now view) c.in_ok-places.places.items
    c.as_slice-rows.result.now c.start_size.result (c.in_ok-places.ensures view is) c.as_slice-rows.ensures c.start_size.ensures
    c.args.place.0 c.in-Some.limit (omega arith) s t)
    c.sizes_below.ensures
