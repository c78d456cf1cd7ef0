use Rattle.std.proofs.Common.{◌≡◌, ◌++◌, ◌∙◌, [], List, ℕ, ap, map, sym}
use Rattle.std.specs.Option.{option_copied}
use Rattle.std.specs.Prelude.{slice_get, Some}
use Rattle.pt_symbols.specs.sem_names.BlockNames.{cell_names, class_if, distinct_behind, is_cell, is_local, local_names, makes_class, names_in, param_names, variables_of}
use Rattle.pt_symbols.specs.sem_names.Script.{Naming, functions_of, spelled_in}
use Rattle.pt_block_names.specs.Named.{names_in_region, params_of}
use Rattle.pt_block_names.proofs.ListLemmas.{distinct_both}
use Rattle.pt_block_names.proofs.script_names.ScriptNames.lists.Goals as goal

pub returns : goal.returns
returns c =
    let g = c.args.self.now in
    let b = c.args.block.0 in
    let ps = params_of (option_copied c.args.parameters) in
    let h = c.in-Some.region in
    let vs = variables_of g.places b h in
    let there : Some h ≡ slice_get g.places.blocks b = c.in-Some.ensures ∙ ap (λ (n : Naming). slice_get n.places.blocks b) c.self.view_is in
    let locals : c.into_names.result ≡ local_names g ps b h =
    c.into_names.ensures
    ∙ c.in_ok-add_variables.ensures.locals
    ∙ ap (λ (ns : List (List ℕ)). distinct_behind ns (names_in is_local vs))
    (c.in_ok-add_parameters.ensures ∙ ap (λ (ns : List (List ℕ)). distinct_behind ns (map (spelled_in g b) (param_names ps))) c.new-locals.ensures)
    ∙ sym (distinct_both [] (map (spelled_in g b) (param_names ps)) (names_in is_local vs)) in
    let cells : c.in_ok-cells.field-0 ≡ cell_names g.places (functions_of g) b h =
    c.in_ok-cells.ensures
    ∙ ap (λ (ns : List (List ℕ)). ns ++ class_if (makes_class g.places (functions_of g) h))
    (c.in_ok-add_variables.ensures.cells ∙ ap (λ (ns : List (List ℕ)). distinct_behind ns (names_in is_cell vs)) c.new-cells.ensures) in
    (λ i. record { locals = locals i; cells = cells i; frees = c.in_ok-frees.ensures i }) ∙ ap (names_in_region g b ps) there
