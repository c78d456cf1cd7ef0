use Rattle.std.proofs.Common.{◌≡◌, Some, ap, ◌∙◌, None}
use Rattle.sem_run.specs.run.Tools as run
use Rattle.sem_run.specs.run.Tools.{tool_at, with_tool, done}
use Rattle.pt_monitor.specs.Answers.{Tools, nothing, tool_place}
use Rattle.pt_monitor.specs.Kept.{locations}
use Rattle.std.proofs.lemmas.Int.{to_z-of_z}
use Rattle.std.specs.Int.{w128}
use Rattle.pt_monitor.proofs.Exits.{told_at, put_at_place, freed}
use Rattle.pt_monitor.proofs.tools.Tools.free_id.Goals as goal

pub returns-clause-answer : goal.returns-clause-answer
returns-clause-answer c =
    let u : Tools = record { tools = c.self.inside.tools; off = locations c.self.inside.off.keys } in
    let place : Some c.in-Some.at ≡ tool_place c.args.id = c.in-Some.ensures ∙ ap tool_place (to_z-of_z w128 c.args.id c.ranges.id) in
    told_at u c.args.self.now c.self.view_is (run.free_id c.args.id) nothing (done, with_tool c.in-Some.at (record (tool_at c.in-Some.at u) { name = None }) u)
    (freed c.args.id c.in-Some.at place u)

pub returns-clause-new : goal.returns-clause-new
returns-clause-new c =
    let u : Tools = record { tools = c.self.inside.tools; off = locations c.self.inside.off.keys } in
    let place : Some c.in-Some.at ≡ tool_place c.args.id = c.in-Some.ensures ∙ ap tool_place (to_z-of_z w128 c.args.id c.ranges.id) in
    put_at_place u c.args.self.now c.self.view_is (run.free_id c.args.id) done c.in-Some.at (record (tool_at c.in-Some.at u) { name = None }) c.set_name.new.tools
    (freed c.args.id c.in-Some.at place u) c.set_name.ensures
