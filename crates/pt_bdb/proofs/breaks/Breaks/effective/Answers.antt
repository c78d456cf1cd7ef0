use Rattle.pt_bdb.proofs.Turns.{rises-taken}
use Rattle.pt_bdb.proofs.breaks.Breaks.effective.Goals as goal

pub invariant_of-self : goal.invariant_of-self
invariant_of-self g c =
    rises-taken c.take_turns.result (g.J.Judge.verdict (g.J.Judge.held c.args.judge.now)) c.args.line c.self.inside.last c.self.inside.rows.items
    c.take_turns.new.rows.items c.take_turns.ensures.rows c.take_turns.ensures.err c.self.invariant
