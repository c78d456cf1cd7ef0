-- What is told as a run sees it (Library Reference, `sys.monitoring`, "Events"; PEP 669).
use Rattle.std.specs.Prelude.{false}
use Rattle.pt_heap.specs.declared.value.Value.{Value}
use Rattle.sem_run.specs.run.Events as run
use Rattle.pt_happenings.specs.declared.happening.Happening.{Happening}
use Rattle.pt_happenings.specs.declared.happening.Happening.TheVariants as happening
use Rattle.pt_happenings.specs.declared.event.Event.{Event}

abbrev pub happening_view : Happening → run.Happening Value
happening_view happening.Starts = run.starts
happening_view happening.Resumes = run.resumes
happening_view (happening.Returns v) = run.returns v
happening_view (happening.Yields v) = run.yields v
happening_view (happening.Throws v) = run.throws v
happening_view (happening.Unwinds v) = run.unwinds v
happening_view (happening.Calls f a) = run.calls f a
happening_view (happening.ReturnsFrom f a) = run.returns_from f a
happening_view (happening.RaisesFrom f a) = run.raises_from f a
happening_view (happening.Line j) = run.line j
happening_view (happening.Jumps d) = run.jumps d.0
happening_view (happening.Branches d) = run.branches d.0
happening_view (happening.Raises v) = run.raises v
happening_view (happening.RaisesAgain v) = run.raises_again v
happening_view (happening.Handled v) = run.handled v
happening_view (happening.Stops v) = run.stops v

-- nothing is told in hidden blocks, so the block is one of the script
abbrev pub event_view : Event → run.Event Value
event_view e = record {
  what = happening_view e.what;
  frame = e.frame.0;
  block = record { hidden = false; number = e.block.0 };
  act = e.act.0;
  line = e.line.0;
  of_generator = e.generator;
}
