use Rattle.std.proofs.Common.{◌≡◌, ◌++◌, drop, map}
use Rattle.pt_tracebacks.specs.Summaries.{summary}
use Rattle.pt_tracebacks.proofs.traceback.each_summary.Given as goal

abbrev pub invariant-loop-link : goal.invariant-loop-link
invariant-loop-link g l =
    l.told ++ map (summary (g.N.BlockNames.name l.names) l.heap) (map (λ k. (k.error.now, k.role)) (drop l.link-index l.links))
    ≡ map (summary (g.N.BlockNames.name l.names) l.heap) (map (λ k. (k.error.now, k.role)) l.links)
