use Rattle.std.proofs.Common.{◌∙◌}
use Rattle.pt_supported_code.proofs.BlockLemmas.{takes_by_places}
use Rattle.pt_supported_code.proofs.defaults.all_take.Goals as goal

pub returns : goal.returns
returns c view seen =
    takes_by_places c.args.lists.now c.args.block.now c.in_ok-places.places view seen (c.in_ok-places.ensures view seen) c.in-Ok.size (c.in-Ok.ensures.1 ∙ c.len.ensures)
    c.all_take_up_to.result c.all_take_up_to.ensures
