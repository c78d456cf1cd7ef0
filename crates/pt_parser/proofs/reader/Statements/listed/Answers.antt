use Rattle.std.proofs.Common.{◌≡◌, ◌∙◌, sym, ap, map, [], ◌∷◌, true, false, length, arith}
use Rattle.pt_wide.specs.Fold.{exp_of}
use Rattle.pt_readers.proofs.Exits.{fails_at, goes_on, carried_all, shift_on, is_so, is_not, found_shorter, some_more}
use Rattle.pt_grammar.specs.Nodes.{line_of}
use Rattle.pt_parser.specs.WithLeft.{plain, what_is_held}
use Rattle.pt_parser.specs.Views.{held_in}
use Rattle.pt_parser.proofs.Tokens.{sign_next}
use Rattle.pt_parser.proofs.Chains.{is_found}
use Rattle.pt_parser.proofs.HeldReaders.{as_shifts, sequel_on, each_on, close_shifts, comma_on, sequel_bad, behind_shifts, next_on, next_exp_binds}
use Rattle.pt_parser.proofs.reader.Statements.listed.Goals as goal

pub returns-then-take : goal.returns-then-take
returns-then-take c = let n = c.take.ensures.found c.if-take.true in
    carried_all held_in _ _ (shift_on c.more.invariant.carries (as_shifts c.args.line.0 (line_of (exp_of c.args.first.tree)) (map exp_of c.more.before.items) (exp_of c.more.last.tree) _) (sign_next _ n.0) n.1) (c.targeted.ensures c.args.line.0)

pub returns-then-take-2 : goal.returns-then-take-2
returns-then-take-2 c = let k = c.take-in-more.ensures.found c.if-take-2.true in rw c.line-start.ensures
    ((shift_on (sequel_on c.args.line.0 (line_of (exp_of c.args.first.tree)) (map exp_of c.more.before.items) (map exp_of c.in_ok-before.before.items) (exp_of c.more.last.tree) c.more.invariant.carries (c.take.ensures.none c.if-take.false) c.in_ok-before.ensures) (close_shifts c.args.line.0 (line_of (exp_of c.args.first.tree)) (map exp_of c.in_ok-before.before.items) _) (sign_next _ k.0) k.1).found _ _ (is_found (what_is_held c.args.line.0) (plain (line_of (exp_of c.args.first.tree)) (map exp_of c.in_ok-before.before.items) false) _ tt (each_on (map exp_of c.more.before.items) (map exp_of c.in_ok-before.before.items) (exp_of c.more.last.tree) c.more.invariant.before c.more.invariant.last c.in_ok-before.ensures)))

pub returns-then-not-take : goal.returns-then-not-take
returns-then-not-take c = let n = c.take-in-more.ensures.none c.if-take-2.false in let k = c.take-in-more-2.ensures.none c.if-not-take.true in
    rw (k.1, n.1) ((sequel_on c.args.line.0 (line_of (exp_of c.args.first.tree)) (map exp_of c.more.before.items) (map exp_of c.in_ok-before.before.items) (exp_of c.more.last.tree) c.more.invariant.carries (c.take.ensures.none c.if-take.false) c.in_ok-before.ensures).refused false _ (sequel_bad c.args.line.0 (line_of (exp_of c.args.first.tree)) (map exp_of c.in_ok-before.before.items) _ (each_on (map exp_of c.more.before.items) (map exp_of c.in_ok-before.before.items) (exp_of c.more.last.tree) c.more.invariant.before c.more.invariant.last c.in_ok-before.ensures) n.0 (rw n.1 at k.0)))

pub returns-then-take-3 : goal.returns-then-take-3
returns-then-take-3 c = let n = c.take-in-more.ensures.none c.if-take-2.false in let k = rw n.1 at (c.take-in-more-2.ensures.found c.if-not-take.false) in let j = c.take-in-more-3.ensures.found c.if-take-3.true in rw c.line-start.ensures
    ((shift_on (shift_on (sequel_on c.args.line.0 (line_of (exp_of c.args.first.tree)) (map exp_of c.more.before.items) (map exp_of c.in_ok-before.before.items) (exp_of c.more.last.tree) c.more.invariant.carries (c.take.ensures.none c.if-take.false) c.in_ok-before.ensures) (comma_on c.args.line.0 (line_of (exp_of c.args.first.tree)) (map exp_of c.in_ok-before.before.items) _) (sign_next _ k.0) k.1) (behind_shifts c.args.line.0 (line_of (exp_of c.args.first.tree)) (map exp_of c.in_ok-before.before.items) _) (sign_next _ j.0) j.1).found _ _ (is_found (what_is_held c.args.line.0) (plain (line_of (exp_of c.args.first.tree)) (map exp_of c.in_ok-before.before.items) true) _ tt (each_on (map exp_of c.more.before.items) (map exp_of c.in_ok-before.before.items) (exp_of c.more.last.tree) c.more.invariant.before c.more.invariant.last c.in_ok-before.ensures)))

pub returns-then-is : goal.returns-then-is
returns-then-is c = let n = c.take-in-more.ensures.none c.if-take-2.false in let k = rw n.1 at (c.take-in-more-2.ensures.found c.if-not-take.false) in let j = c.take-in-more-3.ensures.none c.if-take-3.false in
    carried_all held_in _ _ (shift_on (sequel_on c.args.line.0 (line_of (exp_of c.args.first.tree)) (map exp_of c.more.before.items) (map exp_of c.in_ok-before.before.items) (exp_of c.more.last.tree) c.more.invariant.carries (c.take.ensures.none c.if-take.false) c.in_ok-before.ensures) (comma_on c.args.line.0 (line_of (exp_of c.args.first.tree)) (map exp_of c.in_ok-before.before.items) _) (sign_next _ k.0) k.1) (rw (j.1, c.line-start.ensures) at c.starred.ensures)

pub returns-in_err-last : goal.returns-in_err-last
returns-in_err-last c = let n = c.take-in-more.ensures.none c.if-take-2.false in let k = rw n.1 at (c.take-in-more-2.ensures.found c.if-not-take.false) in fails_at _ _ _ _ _ _ c.from_residual-in_err-last.ensures.1 (next_on c.args.line.0 (line_of (exp_of c.args.first.tree)) (map exp_of c.in_ok-before.before.items) (shift_on (sequel_on c.args.line.0 (line_of (exp_of c.args.first.tree)) (map exp_of c.more.before.items) (map exp_of c.in_ok-before.before.items) (exp_of c.more.last.tree) c.more.invariant.carries (c.take.ensures.none c.if-take.false) c.in_ok-before.ensures) (comma_on c.args.line.0 (line_of (exp_of c.args.first.tree)) (map exp_of c.in_ok-before.before.items) _) (sign_next _ k.0) k.1) (c.take-in-more-3.ensures.none c.if-take-3.false) (is_not c.is.ensures c.if-is.false)) (next_exp_binds c.args.line.0 (line_of (exp_of c.args.first.tree)) (map exp_of c.in_ok-before.before.items) (each_on (map exp_of c.more.before.items) (map exp_of c.in_ok-before.before.items) (exp_of c.more.last.tree) c.more.invariant.before c.more.invariant.last c.in_ok-before.ensures)) c.in_err-last.ensures

pub more-preserved : goal.more-preserved
more-preserved c = let n = c.take-in-more.ensures.none c.if-take-2.false in let k = rw n.1 at (c.take-in-more-2.ensures.found c.if-not-take.false) in record {
  before = (each_on (map exp_of c.more.before.items) (map exp_of c.in_ok-before.before.items) (exp_of c.more.last.tree) c.more.invariant.before c.more.invariant.last c.in_ok-before.ensures);
  last = c.in_ok-last.ensures.fits;
  carries = goes_on (next_on c.args.line.0 (line_of (exp_of c.args.first.tree)) (map exp_of c.in_ok-before.before.items) (shift_on (sequel_on c.args.line.0 (line_of (exp_of c.args.first.tree)) (map exp_of c.more.before.items) (map exp_of c.in_ok-before.before.items) (exp_of c.more.last.tree) c.more.invariant.carries (c.take.ensures.none c.if-take.false) c.in_ok-before.ensures) (comma_on c.args.line.0 (line_of (exp_of c.args.first.tree)) (map exp_of c.in_ok-before.before.items) _) (sign_next _ k.0) k.1) (c.take-in-more-3.ensures.none c.if-take-3.false) (is_not c.is.ensures c.if-is.false)) (next_exp_binds c.args.line.0 (line_of (exp_of c.args.first.tree)) (map exp_of c.in_ok-before.before.items) (each_on (map exp_of c.more.before.items) (map exp_of c.in_ok-before.before.items) (exp_of c.more.last.tree) c.more.invariant.before c.more.invariant.last c.in_ok-before.ensures)) c.in_ok-last.ensures;
}

pub more-smaller : goal.more-smaller
more-smaller c = let n = c.take-in-more.ensures.none c.if-take-2.false in let k = rw n.1 at (c.take-in-more-2.ensures.found c.if-not-take.false) in let j = c.take-in-more-3.ensures.none c.if-take-3.false in
    omega (arith, found_shorter c.in_ok-last.ensures, ap length j.1, ap length k.1, some_more _ (sign_next _ k.0), ap length (c.take.ensures.none c.if-take.false).1)
