use Rattle.std.proofs.Common.{◌∙◌, ap}
use Rattle.std.specs.Str.{bytes_eq}
use Rattle.indexmap.specs.IndexMap.{insert_entry}
use Rattle.pt_names.specs.Names.{by_text}
use Rattle.pt_names.proofs.PlaceLemmas.{set-by_text, stands_for}
use Rattle.pt_names.proofs.names.Names.set_numbered.Goals as goal

pub returns-then-stands_at-clause-ok : goal.returns-then-stands_at-clause-ok
returns-then-stands_at-clause-ok c =
    let place = c.hint_at-place.result in
    let es = c.self.inside.map.entries in
    ap by_text c.write_at.ensures.entries
    ∙ (set-by_text es place c.args.value
    ∙ ((stands_for c.args.name.now (by_text es) place (c.stands_at.ensures c.if-stands_at.true)).1 c.args.value
    ∙ ap (λ l. insert_entry bytes_eq l c.args.name.now c.args.value) c.self.view_is))
