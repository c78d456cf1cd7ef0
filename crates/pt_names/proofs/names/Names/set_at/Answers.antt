use Rattle.std.proofs.Common.{◌∙◌, ap}
use Rattle.indexmap.specs.IndexMap.{set_value_at}
use Rattle.pt_names.specs.Names.{by_text}
use Rattle.pt_names.proofs.PlaceLemmas.{set-by_text}
use Rattle.pt_names.proofs.names.Names.set_at.Goals as goal

pub returns : goal.returns
returns c =
    ap by_text c.write_at.ensures.entries
    ∙ set-by_text c.self.inside.map.entries c.args.place c.args.value
    ∙ ap (λ l. set_value_at l c.args.place c.args.value) c.self.view_is
