use Rattle.std.proofs.Common.{◌≡◌, ◌≤◌, take}
use Rattle.std.specs.Prelude.{map}
use Rattle.pt_transfers.specs.pt_machine_state.Writing.{piece_of}
use Rattle.pt_sinks.specs.Writing.{Took}
use Rattle.pt_runner.proofs.draining.drain.Given as goal

abbrev pub invariant-loop-piece : goal.invariant-loop-piece
invariant-loop-piece g l = record {
  took : Took (g.O.Sink.taken l.fn.out) (g.O.Sink.taken l.out) (g.L.Sink.taken l.fn.log) (g.L.Sink.taken l.log)
      (map piece_of (take l.piece-index l.piece-items));
  out_most : g.O.Sink.most l.out ≡ g.O.Sink.most l.fn.out;
  log_most : g.L.Sink.most l.log ≡ g.L.Sink.most l.fn.log;
  out_later : g.O.Sink.faults l.fn.out ≤ g.O.Sink.faults l.out;
  log_later : g.L.Sink.faults l.fn.log ≤ g.L.Sink.faults l.log;
}
