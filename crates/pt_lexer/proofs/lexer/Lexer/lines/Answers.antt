use Rattle.std.proofs.Common.{◌∷◌, ◌++◌, ◌∙◌, ap}
use Rattle.std.proofs.lemmas.Bool.{not-true, not-false}
use Rattle.pt_lexer.specs.Lines.{closing}
use Rattle.pt_lexer.proofs.GapLemmas.{not_empty, is_nil}
use Rattle.pt_lexer.proofs.LineLemmas.{goes_more, reads_at, reads_shorter, text_read, text_broken}
use Rattle.pt_lexer.proofs.lexer.Lexer.lines.Goals as goal

pub loop-rest-smaller : goal.loop-rest-smaller
loop-rest-smaller c = reads_shorter c.in_ok-rest.ensures.read (not_empty c.loop-rest.rest.now c.is_empty.ensures c.loop-rest-test.true)

pub loop-rest-preserved : goal.loop-rest-preserved
loop-rest-preserved c = record {
  going = goes_more c.loop-rest.rest.now c.loop-rest.invariant.going (not_empty c.loop-rest.rest.now c.is_empty.ensures c.loop-rest-test.true) (reads_at c.loop-rest.invariant.end c.in_ok-rest.ensures.read);
  end = c.in_ok-rest.ensures.end ∙ c.loop-rest.invariant.end;
}

pub returns-then-not-end : goal.returns-then-not-end
returns-then-not-end c = text_broken c.loop-rest.invariant.going (is_nil c.loop-rest.rest.now c.is_empty.ensures c.loop-rest-test.false) (not-true c.args.self.now.end.is_whole c.if-not-end.true)

pub returns : goal.returns
returns c =
    text_read c.loop-rest.invariant.going (is_nil c.loop-rest.rest.now c.is_empty.ensures c.loop-rest-test.false) (not-false c.args.self.now.end.is_whole c.if-not-end.false)
    (c.in_ok-close.ensures ∙ ap (λ x. c.loop-rest.self.tokens ++ closing x (c.loop-rest.self.columns.inner ∷ c.loop-rest.self.columns.outer)) c.loop-rest.invariant.end)
