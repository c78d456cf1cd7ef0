use Rattle.std.proofs.Common.{◌≡◌, ◌∙◌, ◌++◌, ◌∷◌, [], None, ap}
use Rattle.std.specs.Prelude.{string_bytes, string_eq}
use Rattle.indexmap.specs.IndexMap.{get_by_text}
use Rattle.indexmap.proofs.CallerLemmas.{insert_entry-new}
use Rattle.pt_names.specs.Names.{by_text}
use Rattle.pt_names.proofs.NameLemmas.{by_text-append}
use Rattle.pt_names.proofs.names.append.Goals as goal

pub returns-clause-ok : goal.returns-clause-ok
returns-clause-ok c =
    let m = c.args.map.now in
    let key = c.in_ok-name.name in
    let same : string_bytes key ≡ c.args.name.now = c.in_ok-name.ensures.ok in
    let absent : get_by_text m (string_bytes key) ≡ None = ap (get_by_text m) same ∙ c.requires in
    ap by_text (c.in_ok-insert.ensures.entries ∙ insert_entry-new string_eq m key c.args.value absent)
    ∙ by_text-append m.entries ((key, c.args.value) ∷ [])
    ∙ ap (λ n. by_text m.entries ++ (n, c.args.value) ∷ []) same
