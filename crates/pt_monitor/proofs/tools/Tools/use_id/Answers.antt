use Rattle.std.proofs.Common.{◌≡◌, Some, ap, ◌∙◌, true, false}
use Rattle.sem_run.specs.run.Tools as run
use Rattle.sem_run.specs.run.Tools.{tool_at, with_tool, done, wrong}
use Rattle.pt_monitor.specs.Answers.{Tools, nothing, tool_place}
use Rattle.pt_monitor.specs.Kept.{locations}
use Rattle.std.proofs.lemmas.Int.{to_z-of_z}
use Rattle.std.specs.Int.{w128}
use Rattle.pt_monitor.proofs.Told.{taken, used}
use Rattle.pt_monitor.proofs.Exits.{in_use, told_at, stays_at, put_at_place}
use Rattle.pt_monitor.proofs.tools.Tools.use_id.Goals as goal

pub returns-then-is_in_use-clause-answer : goal.returns-then-is_in_use-clause-answer
returns-then-is_in_use-clause-answer c =
    let u : Tools = record { tools = c.self.inside.tools; off = locations c.self.inside.off.keys } in
    let place : Some c.in-Some.at ≡ tool_place c.args.id = c.in-Some.ensures ∙ ap tool_place (to_z-of_z w128 c.args.id c.ranges.id) in
    told_at u c.args.self.now c.self.view_is (run.use_id c.args.id c.args.name) nothing (wrong run.in_use, u)
    (taken c.args.id c.in-Some.at place u c.args.name (in_use c.tool_at.result.now (tool_at c.in-Some.at u) c.is_in_use.result true c.tool_at.ensures c.is_in_use.ensures c.if-is_in_use.true))

pub returns-then-is_in_use-clause-new : goal.returns-then-is_in_use-clause-new
returns-then-is_in_use-clause-new c =
    let u : Tools = record { tools = c.self.inside.tools; off = locations c.self.inside.off.keys } in
    let place : Some c.in-Some.at ≡ tool_place c.args.id = c.in-Some.ensures ∙ ap tool_place (to_z-of_z w128 c.args.id c.ranges.id) in
    stays_at u c.args.self.now c.self.view_is (run.use_id c.args.id c.args.name) (wrong run.in_use)
    (taken c.args.id c.in-Some.at place u c.args.name (in_use c.tool_at.result.now (tool_at c.in-Some.at u) c.is_in_use.result true c.tool_at.ensures c.is_in_use.ensures c.if-is_in_use.true))

pub returns-clause-answer : goal.returns-clause-answer
returns-clause-answer c =
    let u : Tools = record { tools = c.self.inside.tools; off = locations c.self.inside.off.keys } in
    let place : Some c.in-Some.at ≡ tool_place c.args.id = c.in-Some.ensures ∙ ap tool_place (to_z-of_z w128 c.args.id c.ranges.id) in
    told_at u c.args.self.now c.self.view_is (run.use_id c.args.id c.args.name) nothing (done, with_tool c.in-Some.at (record (tool_at c.in-Some.at u) { name = Some c.args.name }) u)
    (used c.args.id c.in-Some.at place u c.args.name (in_use c.tool_at.result.now (tool_at c.in-Some.at u) c.is_in_use.result false c.tool_at.ensures c.is_in_use.ensures c.if-is_in_use.false))

pub returns-clause-new : goal.returns-clause-new
returns-clause-new c =
    let u : Tools = record { tools = c.self.inside.tools; off = locations c.self.inside.off.keys } in
    let place : Some c.in-Some.at ≡ tool_place c.args.id = c.in-Some.ensures ∙ ap tool_place (to_z-of_z w128 c.args.id c.ranges.id) in
    put_at_place u c.args.self.now c.self.view_is (run.use_id c.args.id c.args.name) done c.in-Some.at (record (tool_at c.in-Some.at u) { name = Some c.args.name }) c.set_name.new.tools
    (used c.args.id c.in-Some.at place u c.args.name (in_use c.tool_at.result.now (tool_at c.in-Some.at u) c.is_in_use.result false c.tool_at.ensures c.is_in_use.ensures c.if-is_in_use.false)) c.set_name.ensures
