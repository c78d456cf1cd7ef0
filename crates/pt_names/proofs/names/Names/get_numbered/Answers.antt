use Rattle.std.proofs.Common.{◌∙◌, ap}
use Rattle.pt_names.specs.Names.{by_text, name_value}
use Rattle.pt_names.proofs.PlaceLemmas.{stands_for}
use Rattle.pt_names.proofs.names.Names.get_numbered.Goals as goal

pub returns-then-stands_at : goal.returns-then-stands_at
returns-then-stands_at c =
    c.value_in.ensures
    ∙ ((stands_for c.args.name.now (by_text c.self.inside.map.entries) c.hint_at-place.result (c.stands_at.ensures c.if-stands_at.true)).0
    ∙ ap (name_value c.args.name.now) c.self.view_is)
