use Rattle.std.proofs.Common.{◌≡◌, ◌∙◌, Option, IsSome, None, ap, refl, sym, subst}
use Rattle.std.specs.Map.{lookup}
use Rattle.std.specs.Str.{bytes_eq}
use Rattle.indexmap.specs.IndexMap.{insert_entry}
use Rattle.pt_heap.specs.declared.value.Value.{Value}
use Rattle.pt_names.specs.Names.{by_text}
use Rattle.pt_names.proofs.NameLemmas.{lookup-by_text, by_text-written, insert_entry-last}
use Rattle.pt_names.proofs.names.Names.set.Goals as goal

pub returns-in-Some-clause-ok : goal.returns-in-Some-clause-ok
returns-in-Some-clause-ok c =
    let some = subst (λ (o : Option (Option Value)). IsSome o) c.in-Some.ensures.value refl in
    ap by_text c.write.ensures.entries
    ∙ by_text-written c.args.name.now c.args.value c.self.inside.map.entries some
    ∙ ap (λ l. insert_entry bytes_eq l c.args.name.now c.args.value) c.self.view_is

pub returns-in_ok-append-in-None-clause-ok : goal.returns-in_ok-append-in-None-clause-ok
returns-in_ok-append-in-None-clause-ok c =
    let names = by_text c.self.inside.map.entries in
    let none : lookup (bytes_eq c.args.name.now) names ≡ None = sym (lookup-by_text c.args.name.now c.self.inside.map.entries) ∙ sym c.in-None.ensures.value in
    c.in_ok-append-in-None.ensures.ok
    ∙ sym (insert_entry-last c.args.name.now c.args.value names none)
    ∙ ap (λ l. insert_entry bytes_eq l c.args.name.now c.args.value) c.self.view_is
