use Rattle.std.proofs.Common.{arith}
use Rattle.std.proofs.lemmas.Result.{err_from_is_err_and}
use Rattle.pt_lexer.proofs.NextLemmas.{next_shorter}
use Rattle.pt_lexer.proofs.ReadLemmas.{all_read, failed_here, failed_literal, failed_end, failed_turn, gap_within, going_on, reading_at}
use Rattle.pt_lexer.proofs.lexer.Lexer.words.Goals as goal

pub returns-in-Some-clause-read : goal.returns-in-Some-clause-read
returns-in-Some-clause-read c = all_read c.loop-behind.invariant.going c.in-Some.ensures.0 c.behind_gap-here.ensures.gap c.in-Some.ensures.1

pub returns-in_err-found-clause-read : goal.returns-in_err-found-clause-read
returns-in_err-found-clause-read c =
    let p = err_from_is_err_and c.from_residual.result c.from_residual.ensures.1 in
    rw (p.1, p.2) (failed_literal c.in_err-found.field-0.0 c.loop-behind.invariant.going c.behind_gap-here.ensures.gap (c.in_err-found.ensures c.args.self.now.end))

pub returns-in_err-mode-in-Found-clause-read : goal.returns-in_err-mode-in-Found-clause-read
returns-in_err-mode-in-Found-clause-read c =
    let p = err_from_is_err_and c.from_residual-in_err-mode-in-Found.result c.from_residual-in_err-mode-in-Found.ensures.1 in
    let n = reading_at c.args.self.now.end c.loop-behind.mode c.behind_gap-here.result.now (c.in_ok-found.ensures c.args.self.now.end) c.in-Found.is in
    rw (p.1, p.2) (failed_turn c.in_err-mode-in-Found.field-0.0 c.loop-behind.invariant.going c.behind_gap-here.ensures.gap n c.line_at.ensures c.in_err-mode-in-Found.ensures)

pub loop-behind-smaller : goal.loop-behind-smaller
loop-behind-smaller c =
    let g = gap_within c.behind_gap-here.ensures.gap in
    let n = next_shorter (reading_at c.args.self.now.end c.loop-behind.mode c.behind_gap-here.result.now (c.in_ok-found.ensures c.args.self.now.end) c.in-Found.is) in
    omega (arith, g, n)

pub loop-behind-preserved : goal.loop-behind-preserved
loop-behind-preserved c = record {
  going =
      going_on c.in-Found.found c.loop-behind.invariant.going c.behind_gap-here.ensures.gap
      (reading_at c.args.self.now.end c.loop-behind.mode c.behind_gap-here.result.now (c.in_ok-found.ensures c.args.self.now.end) c.in-Found.is) c.line_at.ensures c.in_ok-mode-in-Found.ensures c.kind_of.ensures c.token_at.ensures
      c.in_ok-push-in-Found.ensures.ok;
  columns = c.loop-behind.invariant.columns;
  end = c.loop-behind.invariant.end;
}

pub returns-in-Broken-clause-read : goal.returns-in-Broken-clause-read
returns-in-Broken-clause-read c =
    failed_end c.broken_off.result c.loop-behind.invariant.going c.behind_gap-here.ensures.gap
    (reading_at c.args.self.now.end c.loop-behind.mode c.behind_gap-here.result.now (c.in_ok-found.ensures c.args.self.now.end) c.in-Broken.is) c.broken_off.ensures

pub fault_at-requires-clause-word : goal.fault_at-requires-clause-word
fault_at-requires-clause-word c = reading_at c.args.self.now.end c.loop-behind.mode c.behind_gap-here.result.now (c.in_ok-found.ensures c.args.self.now.end) c.in-NoneFound.is

pub returns-in-NoneFound-clause-read : goal.returns-in-NoneFound-clause-read
returns-in-NoneFound-clause-read c = failed_here _ c.loop-behind.invariant.going c.behind_gap-here.ensures.gap c.fault_at.ensures
