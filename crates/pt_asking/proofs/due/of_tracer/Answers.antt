use Rattle.std.proofs.Common.{◌∙◌, Some, ap}
use Rattle.sem_run.specs.run.Hooks.{trace_due}
use Rattle.pt_settrace.specs.Tracing.{Tracing, kind_of, frame_in}
use Rattle.pt_asking.proofs.due.of_tracer.Goals as goal

pub returns-in-Some : goal.returns-in-Some
returns-in-Some c =
    let h : Tracing = c.args.hooks.now in
    let told = c.traced_event.result in
    c.due.ensures
    ∙ ap (λ k. trace_due (Some (kind_of k)) h.global (frame_in told.frame.0 h))
    c.traced_event.ensures.kind
    ∙ ap (λ f. trace_due (Some (kind_of c.in-Some.kind)) h.global (frame_in f.0 h))
    c.traced_event.ensures.frame
    ∙ ap (λ o. trace_due o h.global (frame_in c.args.event.now.frame.0 h)) c.in-Some.ensures

pub returns-in-None : goal.returns-in-None
returns-in-None c =
    ap (λ k. trace_due k c.args.hooks.now.global (frame_in c.args.event.now.frame.0 c.args.hooks.now))
    c.in-None.ensures
