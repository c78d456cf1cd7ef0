use Rattle.std.proofs.Common.{◌≡◌, Some, ap, ◌∙◌, Ok}
use Rattle.sem_run.specs.run.Tools as run
use Rattle.sem_run.specs.run.Tools.{tool_at, a_set}
use Rattle.pt_monitor.specs.Answers.{Tools, set_told, tool_place}
use Rattle.pt_monitor.specs.Kept.{locations}
use Rattle.std.proofs.lemmas.Int.{to_z-of_z}
use Rattle.std.specs.Int.{w128}
use Rattle.pt_monitor.proofs.Exits.{told_at, set_read}
use Rattle.pt_monitor.proofs.tools.Tools.get.Goals as goal

pub returns : goal.returns
returns c =
    let u : Tools = record { tools = c.self.inside.tools; off = locations c.self.inside.off.keys } in
    let place : Some c.in-Some.at ≡ tool_place c.args.id = c.in-Some.ensures ∙ ap tool_place (to_z-of_z w128 c.args.id c.ranges.id) in
    ap Ok (c.set.ensures ∙ ap (λ r. r.set) c.tool_at.ensures)
    ∙ told_at u c.args.self.now c.self.view_is (run.set_of c.args.id) set_told (a_set (tool_at c.in-Some.at u).set, u) (set_read c.args.id c.in-Some.at place u)
