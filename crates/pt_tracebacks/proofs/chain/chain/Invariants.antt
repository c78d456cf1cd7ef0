use Rattle.std.proofs.Common.{◌≡◌, length, map}
use Rattle.pt_tracebacks.proofs.ChainLemmas.{SoFar}
use Rattle.pt_tracebacks.proofs.chain.chain.Given as goal

abbrev pub invariant-loop-step : goal.invariant-loop-step
invariant-loop-step l = record {
  so_far : SoFar l.heap l.fn.first (map (λ k. (k.error.now, k.role)) l.links.items) l.held.items l._step l.at l.role;
  len : length l.held.items ≡ length l.heap;
}
