use Rattle.std.proofs.Common.{◌∙◌}
use Rattle.pt_names.proofs.PlaceLemmas.{place-by_text}
use Rattle.pt_names.proofs.names.place_in.Goals as goal

pub returns : goal.returns
returns c = c.get_index_of.ensures.index ∙ place-by_text c.args.name.now c.args.map.now.entries
