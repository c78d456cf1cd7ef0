use Rattle.std.proofs.Common.{◌≡◌, Some, ap, ◌∙◌, true, false}
use Rattle.sem_run.specs.run.Tools as run
use Rattle.sem_run.specs.run.Tools.{tool_at, with_tool, done, wrong, not_in_use, bad_set}
use Rattle.pt_monitor.specs.Events.{listed}
use Rattle.pt_monitor.specs.Answers.{Tools, nothing, tool_place}
use Rattle.pt_monitor.specs.Kept.{locations}
use Rattle.std.proofs.lemmas.Int.{to_z-of_z}
use Rattle.std.specs.Int.{w128}
use Rattle.pt_monitor.proofs.Told.{set_unused, set_bad, set_given}
use Rattle.pt_monitor.proofs.Exits.{in_use, told_at, stays_at, put_at_place}
use Rattle.pt_monitor.proofs.tools.Tools.set.Goals as goal

pub returns-then-not-is_in_use-clause-answer : goal.returns-then-not-is_in_use-clause-answer
returns-then-not-is_in_use-clause-answer c =
    let u : Tools = record { tools = c.self.inside.tools; off = locations c.self.inside.off.keys } in
    let place : Some c.in-Some.at ≡ tool_place c.args.id = c.in-Some.ensures ∙ ap tool_place (to_z-of_z w128 c.args.id c.ranges.id) in
    told_at u c.args.self.now c.self.view_is (run.give_set c.args.id c.args.bits) nothing (wrong not_in_use, u)
    (set_unused c.args.id c.in-Some.at place u c.args.bits (in_use c.tool_at.result.now (tool_at c.in-Some.at u) c.is_in_use.result false c.tool_at.ensures c.is_in_use.ensures c.if-not-is_in_use.true))

pub returns-then-not-is_in_use-clause-new : goal.returns-then-not-is_in_use-clause-new
returns-then-not-is_in_use-clause-new c =
    let u : Tools = record { tools = c.self.inside.tools; off = locations c.self.inside.off.keys } in
    let place : Some c.in-Some.at ≡ tool_place c.args.id = c.in-Some.ensures ∙ ap tool_place (to_z-of_z w128 c.args.id c.ranges.id) in
    stays_at u c.args.self.now c.self.view_is (run.give_set c.args.id c.args.bits) (wrong not_in_use)
    (set_unused c.args.id c.in-Some.at place u c.args.bits (in_use c.tool_at.result.now (tool_at c.in-Some.at u) c.is_in_use.result false c.tool_at.ensures c.is_in_use.ensures c.if-not-is_in_use.true))

pub returns-in_default-listed-clause-answer : goal.returns-in_default-listed-clause-answer
returns-in_default-listed-clause-answer c =
    let u : Tools = record { tools = c.self.inside.tools; off = locations c.self.inside.off.keys } in
    let place : Some c.in-Some.at ≡ tool_place c.args.id = c.in-Some.ensures ∙ ap tool_place (to_z-of_z w128 c.args.id c.ranges.id) in
    told_at u c.args.self.now c.self.view_is (run.give_set c.args.id c.args.bits) nothing (wrong bad_set, u)
    (set_bad c.args.id c.in-Some.at place u c.args.bits (in_use c.tool_at.result.now (tool_at c.in-Some.at u) c.is_in_use.result true c.tool_at.ensures c.is_in_use.ensures c.if-not-is_in_use.false)
    (c.in_default-listed.ensures ∙ ap listed (to_z-of_z w128 c.args.bits c.ranges.bits)))

pub returns-in_default-listed-clause-new : goal.returns-in_default-listed-clause-new
returns-in_default-listed-clause-new c =
    let u : Tools = record { tools = c.self.inside.tools; off = locations c.self.inside.off.keys } in
    let place : Some c.in-Some.at ≡ tool_place c.args.id = c.in-Some.ensures ∙ ap tool_place (to_z-of_z w128 c.args.id c.ranges.id) in
    stays_at u c.args.self.now c.self.view_is (run.give_set c.args.id c.args.bits) (wrong bad_set)
    (set_bad c.args.id c.in-Some.at place u c.args.bits (in_use c.tool_at.result.now (tool_at c.in-Some.at u) c.is_in_use.result true c.tool_at.ensures c.is_in_use.ensures c.if-not-is_in_use.false)
    (c.in_default-listed.ensures ∙ ap listed (to_z-of_z w128 c.args.bits c.ranges.bits)))

pub returns-clause-answer : goal.returns-clause-answer
returns-clause-answer c =
    let u : Tools = record { tools = c.self.inside.tools; off = locations c.self.inside.off.keys } in
    let place : Some c.in-Some.at ≡ tool_place c.args.id = c.in-Some.ensures ∙ ap tool_place (to_z-of_z w128 c.args.id c.ranges.id) in
    told_at u c.args.self.now c.self.view_is (run.give_set c.args.id c.args.bits) nothing (done, with_tool c.in-Some.at (record (tool_at c.in-Some.at u) { set = c.in-Some-listed.set.0 }) u)
    (set_given c.args.id c.in-Some.at place u c.args.bits (in_use c.tool_at.result.now (tool_at c.in-Some.at u) c.is_in_use.result true c.tool_at.ensures c.is_in_use.ensures c.if-not-is_in_use.false) c.in-Some-listed.set.0
    (c.in-Some-listed.ensures ∙ ap listed (to_z-of_z w128 c.args.bits c.ranges.bits)))

pub returns-clause-new : goal.returns-clause-new
returns-clause-new c =
    let u : Tools = record { tools = c.self.inside.tools; off = locations c.self.inside.off.keys } in
    let place : Some c.in-Some.at ≡ tool_place c.args.id = c.in-Some.ensures ∙ ap tool_place (to_z-of_z w128 c.args.id c.ranges.id) in
    put_at_place u c.args.self.now c.self.view_is (run.give_set c.args.id c.args.bits) done c.in-Some.at (record (tool_at c.in-Some.at u) { set = c.in-Some-listed.set.0 }) c.give_set.new.tools
    (set_given c.args.id c.in-Some.at place u c.args.bits (in_use c.tool_at.result.now (tool_at c.in-Some.at u) c.is_in_use.result true c.tool_at.ensures c.is_in_use.ensures c.if-not-is_in_use.false) c.in-Some-listed.set.0
    (c.in-Some-listed.ensures ∙ ap listed (to_z-of_z w128 c.args.bits c.ranges.bits))) c.give_set.ensures
