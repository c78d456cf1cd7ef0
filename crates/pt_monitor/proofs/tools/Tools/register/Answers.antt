use Rattle.std.proofs.Common.{◌≡◌, Some, ap, subst, ◌∙◌, ℤ, Ok, None}
use Rattle.sem_run.specs.run.Tools as run
use Rattle.sem_run.specs.run.Tools.{bits, callback, only_bit, register_callback, tool_at, unsigned, with_callback, wrong, bad_set}
use Rattle.sem_run.specs.run.Rows.{put_at}
use Rattle.pt_settrace.specs.Tracing.{or_none, unless_none}
use Rattle.pt_monitor.specs.Alike.{AreAlike}
use Rattle.pt_monitor.specs.Events.{bit_of}
use Rattle.pt_monitor.specs.Answers.{Tools, callback_told, tool_place}
use Rattle.pt_monitor.specs.Kept.{locations}
use Rattle.std.proofs.lemmas.Int.{to_z-of_z}
use Rattle.std.specs.Int.{w128}
use Rattle.pt_monitor.proofs.Told.{answered, rows_alike, registered, unless_memory}
use Rattle.pt_monitor.proofs.Exits.{told_at, left_at}
use Rattle.pt_monitor.proofs.tools.Tools.register.Goals as goal

pub returns-in_default-of_bits-clause-answer : goal.returns-in_default-of_bits-clause-answer
returns-in_default-of_bits-clause-answer c =
    let u : Tools = c.args.self.now in
    let place : Some c.in-Some.at ≡ tool_place c.args.id = c.in-Some.ensures ∙ ap tool_place (to_z-of_z w128 c.args.id c.ranges.id) in
    answered callback_told (run.register c.args.id c.args.event (unless_none c.args.f)) u (wrong bad_set, u)
    (registered c.args.id c.in-Some.at place u c.args.event (unless_none c.args.f) None (c.in_default-of_bits.ensures ∙ ap (λ (z : ℤ). only_bit (unsigned z) bits) (to_z-of_z w128 c.args.event c.ranges.event)))

pub returns-in_err-register-clause-answer : goal.returns-in_err-register-clause-answer
returns-in_err-register-clause-answer c =
    unless_memory _ c.from_residual.result _ c.from_residual.ensures.1

pub returns-clause-answer : goal.returns-clause-answer
returns-clause-answer c =
    let u : Tools = record { tools = c.self.inside.tools; off = locations c.self.inside.off.keys } in
    let place : Some c.in-Some.at ≡ tool_place c.args.id = c.in-Some.ensures ∙ ap tool_place (to_z-of_z w128 c.args.id c.ranges.id) in
    ap Ok (c.or_none.ensures ∙ ap or_none (c.callback-before.ensures ∙ ap (λ r. callback r.callbacks (bit_of c.in-Some-of_bits.event)) c.tool_at.ensures))
    ∙ told_at u c.args.self.now c.self.view_is (run.register c.args.id c.args.event (unless_none c.args.f)) callback_told (register_callback c.in-Some.at (bit_of c.in-Some-of_bits.event) (unless_none c.args.f) u)
    (registered c.args.id c.in-Some.at place u c.args.event (unless_none c.args.f) (Some (bit_of c.in-Some-of_bits.event))
    (c.in-Some-of_bits.ensures ∙ ap (λ (z : ℤ). only_bit (unsigned z) bits) (to_z-of_z w128 c.args.event c.ranges.event)))

pub returns-clause-ok : goal.returns-clause-ok
returns-clause-ok c =
    let u : Tools = record { tools = c.self.inside.tools; off = locations c.self.inside.off.keys } in
    let place : Some c.in-Some.at ≡ tool_place c.args.id = c.in-Some.ensures ∙ ap tool_place (to_z-of_z w128 c.args.id c.ranges.id) in
    left_at u c.args.self.now c.self.view_is (run.register c.args.id c.args.event (unless_none c.args.f)) (register_callback c.in-Some.at (bit_of c.in-Some-of_bits.event) (unless_none c.args.f) u) (record { tools = c.register.new.tools; off = u.off })
    (registered c.args.id c.in-Some.at place u c.args.event (unless_none c.args.f) (Some (bit_of c.in-Some-of_bits.event))
    (c.in-Some-of_bits.ensures ∙ ap (λ (z : ℤ). only_bit (unsigned z) bits) (to_z-of_z w128 c.args.event c.ranges.event)))
    (rows_alike c.in-Some.at (record (tool_at c.in-Some.at u) { callbacks = with_callback (bit_of c.in-Some-of_bits.event) (unless_none c.args.f) (tool_at c.in-Some.at u).callbacks }) u c.register.new.tools
    (subst (λ o. AreAlike c.register.new.tools (put_at c.in-Some.at (record (tool_at c.in-Some.at u) { callbacks = with_callback (bit_of c.in-Some-of_bits.event) o (tool_at c.in-Some.at u).callbacks }) u.tools))
    c.unless_none.ensures c.in_ok-register.ensures.ok))
