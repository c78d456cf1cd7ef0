use Rattle.std.proofs.Common.{List, [], ap, sym, ◌∙◌}
use Rattle.pt_scopes.specs.declared.region.Mention.{Mention}
use Rattle.pt_scopes.specs.Places.{Places}
use Rattle.pt_scopes.specs.Mentions.{places_script}
use Rattle.pt_scopes.specs.Refusals.{first_fault}
use Rattle.pt_scopes.specs.Scope.{facts, is_captured}
use Rattle.pt_scopes.specs.Tables.{facts_in}
use Rattle.pt_tree.specs.StatementFold.{script_of}
use Rattle.pt_scopes.proofs.ResolveLemmas.{refused, resolved}
use Rattle.pt_scopes.proofs.scopes.resolve.Goals as goal

pub returns-in-Some-clause-err : goal.returns-in-Some-clause-err
returns-in-Some-clause-err c =
    let parts = c.into_parts-regions in
    let names = c.in_ok-names.names in
    refused (places_script (script_of c.args.script.now)) parts.result.0 parts.result.1 parts.result.2 names c.in-Some.fault
    (parts.ensures.0 ∙ ap (λ (g : Places). g.regions) c.in_ok-gathered.ensures)
    (parts.ensures.1 ∙ ap (λ (g : Places). g.blocks) c.in_ok-gathered.ensures)
    (parts.ensures.2 ∙ ap (λ (g : Places). g.mentions) c.in_ok-gathered.ensures)
    (λ x r. c.in_ok-names.ensures x r ∙ ap (λ (ms : List Mention). facts ms x r) c.as_slice.ensures)
    (ap (λ (ms : List Mention). first_fault parts.result.0 (facts_in names) [] ms) (sym c.as_slice-2.ensures) ∙ sym c.in_ok-fault.ensures ∙ c.in-Some.is)

pub returns-in_ok-captured-in-None-clause-ok : goal.returns-in_ok-captured-in-None-clause-ok
returns-in_ok-captured-in-None-clause-ok c =
    let parts = c.into_parts-regions in
    let names = c.in_ok-names.names in
    resolved (places_script (script_of c.args.script.now)) parts.result.0 parts.result.1 parts.result.2 names c.in_ok-captured-in-None.captured
    (parts.ensures.0 ∙ ap (λ (g : Places). g.regions) c.in_ok-gathered.ensures)
    (parts.ensures.1 ∙ ap (λ (g : Places). g.blocks) c.in_ok-gathered.ensures)
    (parts.ensures.2 ∙ ap (λ (g : Places). g.mentions) c.in_ok-gathered.ensures)
    (λ x r. c.in_ok-names.ensures x r ∙ ap (λ (ms : List Mention). facts ms x r) c.as_slice.ensures)
    (λ r x. c.in_ok-captured-in-None.ensures r x ∙ ap (λ (ms : List Mention). is_captured parts.result.0 (facts_in names) ms r x) c.as_slice-in-None.ensures)
    (ap (λ (ms : List Mention). first_fault parts.result.0 (facts_in names) [] ms) (sym c.as_slice-2.ensures) ∙ sym c.in_ok-fault.ensures ∙ c.in-None.is)
