use Rattle.std.proofs.Common.{◌∷◌}
use Rattle.pt_lexer.proofs.ColumnLemmas.{nothing_left, left_more, more_marks, misplaced_out, misplaced_between, mixed_level, closed_blocks}
use Rattle.pt_lexer.proofs.columns.Columns.close.Goals as goal

pub loop-self-init : goal.loop-self-init
loop-self-init c = nothing_left c.args.column (c.args.self.now.inner ∷ c.args.self.now.outer) c.args.spot.at c.args.spot.line c.args.tokens.now

pub returns-in_default : goal.returns-in_default
returns-in_default c =
    misplaced_out c.args.self.now.inner c.loop-self.self.inner c.args.column c.args.self.now.outer c.loop-self.self.outer c.loop-self.invariant.0 c.args.spot.line c.requires.level c.loop-self.invariant.1
    c.in_default.ensures.0 c.loop-self-test.true

pub loop-self-preserved : goal.loop-self-preserved
loop-self-preserved c = (
  _,
  left_more c.args.column c.loop-self.self.inner c.in-Some.outer (c.args.self.now.inner ∷ c.args.self.now.outer) c.loop-self.self.outer _ c.loop-self.invariant.0 c.loop-self.invariant.1 c.in-Some.ensures
      c.loop-self-test.true,
  more_marks c.args.spot.at c.args.spot.line c.loop-self.invariant.0 c.args.tokens.now c.loop-self.tokens _ c.loop-self.invariant.2 c.in_ok-push.ensures.ok,
)

pub returns-then-column-self : goal.returns-then-column-self
returns-then-column-self c =
    misplaced_between c.args.self.now.inner c.loop-self.self.inner c.args.column c.args.self.now.outer c.loop-self.self.outer c.loop-self.invariant.0 c.args.spot.line c.requires.level c.loop-self.invariant.1
    c.loop-self-test.false c.if-column-self.true

pub returns-then-column-self-2 : goal.returns-then-column-self-2
returns-then-column-self-2 c =
    mixed_level c.loop-self.self.inner c.args.column (c.args.self.now.inner ∷ c.args.self.now.outer) c.loop-self.self.outer c.loop-self.invariant.0 c.args.spot.line c.loop-self.invariant.1 c.if-column-self.false
    c.if-column-self-2.true

pub returns : goal.returns
returns c =
    closed_blocks c.loop-self.self.inner c.args.column (c.args.self.now.inner ∷ c.args.self.now.outer) c.loop-self.self.outer c.loop-self.invariant.0 c.args.spot.at c.args.spot.line c.args.tokens.now c.loop-self.tokens
    c.loop-self.invariant.1 c.requires.rising c.if-column-self.false c.if-column-self-2.false c.loop-self.invariant.2
