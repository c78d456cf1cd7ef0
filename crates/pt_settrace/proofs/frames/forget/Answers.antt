use Rattle.pt_settrace.proofs.FrameLemmas.{removed}
use Rattle.pt_settrace.proofs.frames.forget.Goals as goal

pub returns : goal.returns
returns c = removed _ _ c.args.frame c.swap_remove.ensures.updates.0
