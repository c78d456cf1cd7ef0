use Rattle.pt_lexer.proofs.WordLemmas.{written_step}
use Rattle.pt_lexer.proofs.words.written.Goals as goal

pub loop-spot-preserved : goal.loop-spot-preserved
loop-spot-preserved c =
    written_step c.args.front.now c.loop-spot.spot-index _ _ _ c.loop-spot-test.true c.loop-spot.invariant c.in_ok-push.ensures.bytes
