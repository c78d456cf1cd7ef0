use Rattle.std.proofs.Common.{◌≡◌, Some, ap, ◌∙◌, true, ◌∷◌, sym}
use Rattle.sem_run.specs.run.Tools as run
use Rattle.sem_run.specs.run.Tools.{tool_at, with_tool, done, wrong, bad_set}
use Rattle.pt_monitor.specs.Events.{listed}
use Rattle.pt_heap.specs.declared.value.Value.{Value}
use Rattle.pt_monitor.specs.Answers.{Tools, nothing, tool_place}
use Rattle.pt_monitor.specs.Kept.{block, locations}
use Rattle.std.proofs.lemmas.Int.{to_z-of_z}
use Rattle.std.specs.Int.{w128}
use Rattle.pt_monitor.proofs.Told.{rows_alike, local_bad, local_given, unless_memory}
use Rattle.pt_monitor.proofs.Exits.{in_use, told_at, left_at}
use Rattle.pt_monitor.proofs.tools.Tools.set_local.Goals as goal

pub returns-then-not-is_local-clause-answer : goal.returns-then-not-is_local-clause-answer
returns-then-not-is_local-clause-answer c =
    let u : Tools = record { tools = c.self.inside.tools; off = locations c.self.inside.off.keys } in
    let place : Some c.in-Some.at ≡ tool_place c.args.id = c.in-Some.ensures ∙ ap tool_place (to_z-of_z w128 c.args.id c.ranges.id) in
    told_at u c.args.self.now c.self.view_is (run.give_local_set c.args.id (block c.args.block.0) c.args.bits) nothing (wrong bad_set, u)
    (local_bad c.args.id c.in-Some.at place u c.args.bits (block c.args.block.0) (in_use c.tool_at-asked.result.now (tool_at c.in-Some.at u) c.is_in_use.result true c.tool_at-asked.ensures c.is_in_use.ensures c.if-not-is_in_use.false) c.in-Some-listed.set.0 (c.in-Some-listed.ensures ∙ ap listed (to_z-of_z w128 c.args.bits c.ranges.bits))
    (sym c.is_local.ensures ∙ c.if-not-is_local.true))

pub returns-in_err-give_local-clause-answer : goal.returns-in_err-give_local-clause-answer
returns-in_err-give_local-clause-answer c =
    unless_memory _ c.from_residual.result _ c.from_residual.ensures.1

pub returns-clause-answer : goal.returns-clause-answer
returns-clause-answer c =
    let u : Tools = record { tools = c.self.inside.tools; off = locations c.self.inside.off.keys } in
    let place : Some c.in-Some.at ≡ tool_place c.args.id = c.in-Some.ensures ∙ ap tool_place (to_z-of_z w128 c.args.id c.ranges.id) in
    let tool : run.Tool Value = record (tool_at c.in-Some.at u) { local = record { block = block c.args.block.0; set = c.in-Some-listed.set.0 } ∷ (tool_at c.in-Some.at u).local } in
    told_at u c.args.self.now c.self.view_is (run.give_local_set c.args.id (block c.args.block.0) c.args.bits) nothing (done, with_tool c.in-Some.at tool u)
    (local_given c.args.id c.in-Some.at place u c.args.bits (block c.args.block.0) (in_use c.tool_at-asked.result.now (tool_at c.in-Some.at u) c.is_in_use.result true c.tool_at-asked.ensures c.is_in_use.ensures c.if-not-is_in_use.false) c.in-Some-listed.set.0 (c.in-Some-listed.ensures ∙ ap listed (to_z-of_z w128 c.args.bits c.ranges.bits))
    (sym c.is_local.ensures ∙ c.if-not-is_local.false))

pub returns-clause-ok : goal.returns-clause-ok
returns-clause-ok c =
    let u : Tools = record { tools = c.self.inside.tools; off = locations c.self.inside.off.keys } in
    let place : Some c.in-Some.at ≡ tool_place c.args.id = c.in-Some.ensures ∙ ap tool_place (to_z-of_z w128 c.args.id c.ranges.id) in
    let tool : run.Tool Value = record (tool_at c.in-Some.at u) { local = record { block = block c.args.block.0; set = c.in-Some-listed.set.0 } ∷ (tool_at c.in-Some.at u).local } in
    left_at u c.args.self.now c.self.view_is (run.give_local_set c.args.id (block c.args.block.0) c.args.bits) (done, with_tool c.in-Some.at tool u) (record { tools = c.give_local.new.tools; off = u.off })
    (local_given c.args.id c.in-Some.at place u c.args.bits (block c.args.block.0) (in_use c.tool_at-asked.result.now (tool_at c.in-Some.at u) c.is_in_use.result true c.tool_at-asked.ensures c.is_in_use.ensures c.if-not-is_in_use.false) c.in-Some-listed.set.0 (c.in-Some-listed.ensures ∙ ap listed (to_z-of_z w128 c.args.bits c.ranges.bits))
    (sym c.is_local.ensures ∙ c.if-not-is_local.false))
    (rows_alike c.in-Some.at tool u c.give_local.new.tools c.in_ok-give_local.ensures.ok)
