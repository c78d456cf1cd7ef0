use Rattle.std.proofs.Common.{refl, sym}
use Rattle.std.proofs.lemmas.Bool.{false≢true}
use Rattle.pt_lexer.proofs.WordLemmas.{listed_more, listed_at}
use Rattle.pt_lexer.proofs.brackets.lists.Goals as goal

pub returns-then-is : goal.returns-then-is
returns-then-is c = sym (listed_at c.args.list.now c.loop-word.word-index _ c.args.sign.now c.loop-word-test.true (sym (c.if-is.ensures.same.0 refl)))

pub loop-word-preserved : goal.loop-word-preserved
loop-word-preserved c =
    listed_more c.args.list.now c.loop-word.word-index _ c.args.sign.now c.loop-word-test.true c.loop-word.invariant (λ e. false≢true (c.if-is.ensures.same.1 (sym e)))
