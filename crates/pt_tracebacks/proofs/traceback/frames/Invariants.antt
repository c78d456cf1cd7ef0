use Rattle.std.proofs.Common.{◌≡◌, ◌++◌, drop, map}
use Rattle.pt_tracebacks.specs.Summaries.{frame_summary}
use Rattle.pt_tracebacks.proofs.traceback.frames.Given as goal

abbrev pub invariant-loop-entry : goal.invariant-loop-entry
invariant-loop-entry g l =
    l.frames ++ map (frame_summary (g.N.BlockNames.name l.names)) (drop l.entry-index l.trace) ≡ map (frame_summary (g.N.BlockNames.name l.names)) l.trace
