use Rattle.std.proofs.Common.{◌≡◌, Some, ap, ◌∙◌, Ok}
use Rattle.sem_run.specs.run.Tools as run
use Rattle.sem_run.specs.run.Tools.{tool_at, a_name}
use Rattle.pt_monitor.specs.Answers.{Tools, name_told, tool_place}
use Rattle.pt_monitor.specs.Kept.{locations}
use Rattle.std.proofs.lemmas.Int.{to_z-of_z}
use Rattle.std.specs.Int.{w128}
use Rattle.pt_monitor.proofs.Told.{unless_memory}
use Rattle.pt_monitor.proofs.Exits.{told_at, named}
use Rattle.pt_monitor.proofs.tools.Tools.name_of.Goals as goal

pub returns-in_err-name : goal.returns-in_err-name
returns-in_err-name c =
    unless_memory _ c.from_residual.result _ c.from_residual.ensures.1

pub returns : goal.returns
returns c =
    let u : Tools = record { tools = c.self.inside.tools; off = locations c.self.inside.off.keys } in
    let place : Some c.in-Some.at ≡ tool_place c.args.id = c.in-Some.ensures ∙ ap tool_place (to_z-of_z w128 c.args.id c.ranges.id) in
    ap Ok (c.in_ok-name.ensures ∙ ap (λ r. r.name) c.tool_at.ensures)
    ∙ told_at u c.args.self.now c.self.view_is (run.name_of c.args.id) name_told (a_name (tool_at c.in-Some.at u).name, u) (named c.args.id c.in-Some.at place u)
