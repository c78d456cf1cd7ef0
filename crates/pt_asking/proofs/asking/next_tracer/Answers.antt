use Rattle.std.proofs.Common.{sym}
use Rattle.pt_happenings.specs.Views.{event_view}
use Rattle.pt_asking.specs.Due.{due_by}
use Rattle.pt_asking.proofs.InOrder.{tracer_called, tracer_passed}
use Rattle.pt_asking.proofs.asking.next_tracer.Goals as goal

pub returns-in-Some : goal.returns-in-Some
returns-in-Some c = λ minds.
    let e = event_view c.args.event.now in
    tracer_called minds (due_by c.args.hooks.now c.args.tools.now e) e c.in-Some.function
    (sym c.in-Some.ensures)

pub returns-in-None : goal.returns-in-None
returns-in-None c = λ minds.
    let e = event_view c.args.event.now in
    tracer_passed minds (due_by c.args.hooks.now c.args.tools.now e) e (sym c.in-None.ensures)
