use Rattle.std.specs.Str.{chars}
use Rattle.pt_strs.proofs.PieceLemmas.{cut-shorter, draft-more}
use Rattle.pt_strs.proofs.replacement.with_replaced.Goals as goal

pub loop-front-smaller : goal.loop-front-smaller
loop-front-smaller c = cut-shorter (chars c.args.old.now) c.requires _ _ _ c.in-Some.ensures

pub loop-front-preserved : goal.loop-front-preserved
loop-front-preserved c = draft-more (chars c.args.old.now) (chars c.args.new.now) c.requires _ _ _ c.in-Some.ensures _ _ _ _ c.loop-front.invariant c.in_ok-push_str.ensures c.in_ok-push_str-2.ensures
