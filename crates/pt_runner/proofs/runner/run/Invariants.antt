use Rattle.std.proofs.Common.{◌≡◌, ◌≤◌, []}
use Rattle.pt_transfers.specs.pt_machine_state.Writing.{pieces_of}
use Rattle.pt_runner.specs.Runs.{ModuleRun, IsReady}
use Rattle.pt_runner.proofs.RunLemmas.{Reached}
use Rattle.pt_runner.proofs.runner.run.Given as goal

abbrev pub invariant-loop-stride : goal.invariant-loop-stride
invariant-loop-stride g l = record {
  so_far : (r : ModuleRun) → IsReady l.tables l.fn.bound l.fn.machine r
      → Reached r l.fn.bound l.fn.events l.machine l.totals (g.O.Sink.taken l.fn.out) (g.O.Sink.taken l.out) (g.L.Sink.taken l.fn.log) (g.L.Sink.taken l.log);
  empty : pieces_of l.writes ≡ [];
  events : l.writes.events ≡ l.fn.events;
  out_most : g.O.Sink.most l.out ≡ g.O.Sink.most l.fn.out;
  log_most : g.L.Sink.most l.log ≡ g.L.Sink.most l.fn.log;
  out_later : g.O.Sink.faults l.fn.out ≤ g.O.Sink.faults l.out;
  log_later : g.L.Sink.faults l.fn.log ≤ g.L.Sink.faults l.log;
}
