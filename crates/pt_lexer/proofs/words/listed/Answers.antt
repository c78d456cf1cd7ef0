use Rattle.std.proofs.Common.{refl}
use Rattle.std.proofs.lemmas.Bool.{false≢true}
use Rattle.pt_literals.specs.Source.{chars_of}
use Rattle.pt_lexer.proofs.WordLemmas.{listed_more, listed_at}
use Rattle.pt_lexer.proofs.words.listed.Goals as goal

pub returns-then-spells : goal.returns-then-spells
returns-then-spells c =
    let same = c.if-spells.ensures.0 refl in
    (same, listed_at c.args.list.now c.loop-spelling.spelling-index _ (chars_of c.args.front.now) c.loop-spelling-test.true same)

pub loop-spelling-preserved : goal.loop-spelling-preserved
loop-spelling-preserved c =
    listed_more c.args.list.now c.loop-spelling.spelling-index _ (chars_of c.args.front.now) c.loop-spelling-test.true c.loop-spelling.invariant (λ e. false≢true (c.if-spells.ensures.1 e))
