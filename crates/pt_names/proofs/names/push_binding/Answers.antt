use Rattle.std.proofs.Common.{◌∙◌, ◌++◌, ◌∷◌, [], ap}
use Rattle.std.specs.Prelude.{string_bytes}
use Rattle.pt_names.specs.Names.{bindings_of}
use Rattle.pt_names.proofs.PlaceLemmas.{bindings-next}
use Rattle.pt_names.proofs.names.push_binding.Goals as goal

pub returns-in_ok-push_bound : goal.returns-in_ok-push_bound
returns-in_ok-push_bound c =
    let name = string_bytes c.in-Some.name.now in
    c.in_ok-push_bound.ensures
    ∙ ap (λ n. c.args.bindings.now ++ bindings_of ((n, c.in-Some.value.now) ∷ [])) c.as_str.ensures.value
    ∙ ap (λ l. l ++ bindings_of ((name, c.in-Some.value.now) ∷ [])) c.requires.before
    ∙ bindings-next c.args.map.now.entries c.args.at (c.in-Some.name.now, c.in-Some.value.now) c.in-Some.ensures.entry
