use Rattle.std.proofs.Common.{◌≡◌, ◌+◌, sym, subst, arith}
use Rattle.pt_happenings.specs.Views.{event_view}
use Rattle.pt_asking.specs.Due.{due_by}
use Rattle.pt_asking.specs.Asking.{IsNextFrom}
use Rattle.pt_asking.proofs.InOrder.{tool_called, tool_passed}
use Rattle.pt_asking.proofs.asking.next_function.Goals as goal

pub returns-in-Some : goal.returns-in-Some
returns-in-Some c = λ minds.
    let e = event_view c.args.event.now in
    let d = due_by c.args.hooks.now c.args.tools.now e in
    c.loop-tool.invariant minds _
    (tool_called minds d e c.loop-tool.tool c.in-Some.function (omega arith)
    (sym c.in-Some.ensures))

pub loop-tool-preserved : goal.loop-tool-preserved
loop-tool-preserved c = λ minds r is.
    let e = event_view c.args.event.now in
    let d = due_by c.args.hooks.now c.args.tools.now e in
    c.loop-tool.invariant minds r
    (tool_passed minds d e c.loop-tool.tool r (omega arith) (sym c.in_default.ensures) is)

pub returns : goal.returns
returns c = λ minds.
    let e = event_view c.args.event.now in
    let d = due_by c.args.hooks.now c.args.tools.now e in
    let last : 8 ≡ c.loop-tool.tool + 2 = omega arith in
    c.loop-tool.invariant minds _
    (subst (λ n. IsNextFrom minds d e n c.next_tracer.result) last (c.next_tracer.ensures minds))
