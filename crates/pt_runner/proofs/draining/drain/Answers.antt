use Rattle.std.proofs.Common.{arith, ◌∙◌}
use Rattle.pt_runner.proofs.DrainLemmas.{took_one_more, front_of_one_more}
use Rattle.pt_runner.proofs.AdvanceLemmas.{if_err}
use Rattle.pt_runner.proofs.draining.drain.Goals as goal

pub returns-in_err-put_piece-clause-err : goal.returns-in_err-put_piece-clause-err
returns-in_err-put_piece-clause-err g c =
    if_err _ c.from_residual.result _ c.from_residual.ensures
    (front_of_one_more c.as_slice-piece-items.result.now c.loop-piece.piece-index c.piece-item.result c.loop-piece-test.true c.piece-item.is _ _ _ _ _ _
    c.loop-piece.invariant.took _ _ c.as_slice-piece-items.ensures.value c.in_err-put_piece.ensures.err)

pub loop-piece-preserved : goal.loop-piece-preserved
loop-piece-preserved g c = record {
  took = took_one_more c.as_slice-piece-items.result.now c.loop-piece.piece-index c.piece-item.result c.loop-piece-test.true c.piece-item.is _ _ _ _ _ _
      c.loop-piece.invariant.took c.in_ok-put_piece.ensures.ok;
  out_most = c.in_ok-put_piece.ensures.most.0 ∙ c.loop-piece.invariant.out_most;
  log_most = c.in_ok-put_piece.ensures.most.1 ∙ c.loop-piece.invariant.log_most;
  out_later = omega (arith, c.in_ok-put_piece.ensures.later);
  log_later = omega (arith, c.in_ok-put_piece.ensures.later);
}
