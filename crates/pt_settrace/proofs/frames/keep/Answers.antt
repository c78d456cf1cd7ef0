use Rattle.pt_settrace.proofs.FrameLemmas.{inserted}
use Rattle.pt_settrace.proofs.frames.keep.Goals as goal

pub returns-clause-ok : goal.returns-clause-ok
returns-clause-ok c = inserted _ _ c.args.frame c.args.tracing c.in_ok-insert.ensures.updates.0
