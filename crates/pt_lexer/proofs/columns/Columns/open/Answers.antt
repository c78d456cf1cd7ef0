use Rattle.pt_lexer.proofs.ColumnLemmas.{opened_block, mixed_deeper}
use Rattle.pt_lexer.proofs.columns.Columns.open.Goals as goal

pub returns-then-column-self : goal.returns-then-column-self
returns-then-column-self c = mixed_deeper c.args.self.now.inner c.args.column c.args.self.now.outer c.args.spot.line c.requires.deeper c.if-column-self.true

pub returns : goal.returns
returns c =
    opened_block c.args.self.now.inner c.args.column c.args.self.now.outer _ c.args.spot.at c.args.spot.line c.args.tokens.now _ c.requires.rising c.requires.deeper c.if-column-self.false
    c.in_ok-push.ensures.ok c.in_ok-push-2.ensures.ok
