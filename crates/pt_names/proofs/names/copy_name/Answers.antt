use Rattle.std.proofs.Common.{◌∙◌, ◌++◌, ◌∷◌, [], ap}
use Rattle.std.specs.Map.{lookup}
use Rattle.std.specs.Prelude.{string_bytes}
use Rattle.std.specs.Str.{bytes_eq}
use Rattle.pt_names.specs.Names.{by_text}
use Rattle.indexmap.specs.IndexMap.{get_by_text}
use Rattle.pt_names.proofs.NameLemmas.{lookup-by_text, absent-before, by_text-next}
use Rattle.pt_names.proofs.names.copy_name.Goals as goal

pub append-requires : goal.append-requires
append-requires c =
    let name = string_bytes c.in-Some.name.now in
    ap (get_by_text c.args.copy.now) c.as_str.ensures.value
    ∙ lookup-by_text name c.args.copy.now.entries
    ∙ ap (lookup (bytes_eq name)) c.requires.before
    ∙ absent-before c.args.map.now.entries c.args.at (c.in-Some.name.now, c.in-Some.value.now) c.requires.unique c.in-Some.ensures.entry

pub returns-in_ok-append-clause-entries : goal.returns-in_ok-append-clause-entries
returns-in_ok-append-clause-entries c =
    c.in_ok-append.ensures.ok
    ∙ ap (λ n. by_text c.args.copy.now.entries ++ (n, c.in-Some.value.now) ∷ []) c.as_str.ensures.value
    ∙ ap (λ l. l ++ (string_bytes c.in-Some.name.now, c.in-Some.value.now) ∷ []) c.requires.before
    ∙ by_text-next c.args.map.now.entries c.args.at (c.in-Some.name.now, c.in-Some.value.now) c.in-Some.ensures.entry
