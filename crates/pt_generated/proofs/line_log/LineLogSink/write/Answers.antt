use Rattle.std.proofs.Common.{rules, ◌≡◌, true}
use Rattle.pt_generated.proofs.LineLemmas.{faults-bounded, passed-front}
use Rattle.pt_generated.proofs.line_log.LineLogSink.write.Goals as goal

pub returns-in-Err-clause-err : goal.returns-in-Err-clause-err
returns-in-Err-clause-err g c =
    let s = c.args.self.now in
    let passes : s.events ≡ true = search rules in
    passed-front s.lines c.args.piece.now s.events (g.L.Sink.taken s.log.now) (g.L.Sink.taken c.write.new.self) passes c.in-Err.ensures.err

pub returns-in-Err-clause-counted : goal.returns-in-Err-clause-counted
returns-in-Err-clause-counted g c =
    let s = c.args.self.now in faults-bounded s.events s.log.ghost_name (g.L.Sink.faults c.write.new.self) (g.L.Sink.most c.write.new.self)
