use Rattle.std.proofs.Common.{◌≡◌, ◌≤◌, ◌<◌, ◌∙◌, sym, subst, arith, true, false}
use Rattle.pt_wide.specs.Fold.{exp_of}
use Rattle.pt_readers.proofs.Readers.{carries_all, narrow_carries, then_on}
use Rattle.pt_readers.proofs.Pieces.{made_found}
use Rattle.pt_readers.proofs.Exits.{fails_at, carried, carried_all, goes_on, is_so, is_not}
use Rattle.pt_grammar.specs.declared.sign.Sign.TheVariants.{Word as word}
use Rattle.pt_grammar.specs.declared.sign.Word.TheVariants.{For}
use Rattle.pt_grammar.specs.Behind.{IsSign, InParentheses}
use Rattle.pt_grammar.specs.Behind.{Inside}
use Rattle.pt_grammar.proofs.Items.{expr_plain}
use Rattle.pt_parser.specs.Simple.{an_expression}
use Rattle.pt_parser.specs.WithLeft.{BeginsOnly, what_is_held}
use Rattle.pt_parser.specs.Views.{held_in}
use Rattle.pt_parser.proofs.HeldReaders.{only_carries, only_narrows, only_binds, exp_narrows, exp_binds, for_narrows, for_carries, first_over, listed_narrows, found_plain}
use Rattle.pt_parser.proofs.reader.Statements.held.Goals as goal

pub returns-in_err-atom : goal.returns-in_err-atom
returns-in_err-atom c = let n = is_so c.begins_only.ensures c.if-begins_only.true in
    fails_at _ _ _ _ _ _ c.from_residual.ensures.1 (narrow_carries (only_narrows c.args.line.0 _ n)) (only_binds c.args.line.0 BeginsOnly (Inside c.args.line.0)) (carried _ _ (only_carries c.args.line.0 _ n) c.in_err-atom.ensures)

pub returns-then-begins_only : goal.returns-then-begins_only
returns-then-begins_only c = let n = is_so c.begins_only.ensures c.if-begins_only.true in
    made_found (what_is_held c.args.line.0) (narrow_carries (only_narrows c.args.line.0 _ n)) (only_binds c.args.line.0 BeginsOnly (Inside c.args.line.0)) ((only_carries c.args.line.0 _ n).found _ _ c.in_ok-atom.ensures) tt c.in_ok-atom.ensures.fits

pub returns-in_err-first : goal.returns-in_err-first
returns-in_err-first c = fails_at _ _ _ _ _ _ c.from_residual-in_err-first.ensures.1 (narrow_carries (exp_narrows c.args.line.0 _ (is_not c.begins_only.ensures c.if-begins_only.false))) (exp_binds c.args.line.0) c.in_err-first.ensures

pub returns-then-not-is : goal.returns-then-not-is
returns-then-not-is c = carried_all held_in _ _ (then_on (goes_on (narrow_carries (exp_narrows c.args.line.0 _ (is_not c.begins_only.ensures c.if-begins_only.false))) (exp_binds c.args.line.0) c.in_ok-first.ensures)
    (narrow_carries (listed_narrows c.args.line.0 (exp_of c.in_ok-first.first.tree) _ (is_not c.is.ensures c.if-not-is.true)))) c.listed.ensures

pub returns-then-first-ge-MAX_DEPTH : goal.returns-then-first-ge-MAX_DEPTH
returns-then-first-ge-MAX_DEPTH c = (goes_on (narrow_carries (exp_narrows c.args.line.0 _ (is_not c.begins_only.ensures c.if-begins_only.false))) (exp_binds c.args.line.0) c.in_ok-first.ensures).refused true _
    (first_over c.args.line.0 (exp_of c.in_ok-first.first.tree) _ (is_so c.is.ensures c.if-not-is.false) (found_plain c.in_ok-first.ensures) c.in_ok-first.ensures.fits (omega (arith, c.if-first-ge-MAX_DEPTH.true, c.in_ok-first.first.exact)))

pub generator-requires-clause-unstarred : goal.generator-requires-clause-unstarred
generator-requires-clause-unstarred c = found_plain c.in_ok-first.ensures

pub returns-in_err-atom-2 : goal.returns-in_err-atom-2
returns-in_err-atom-2 c = fails_at _ _ _ _ _ _ c.from_residual-in_err-atom-2.ensures.1 (then_on (goes_on (narrow_carries (exp_narrows c.args.line.0 _ (is_not c.begins_only.ensures c.if-begins_only.false))) (exp_binds c.args.line.0) c.in_ok-first.ensures) (narrow_carries (for_narrows c.args.line.0 (exp_of c.in_ok-first.first.tree) _ (is_so c.is.ensures c.if-not-is.false))))
    (only_binds c.args.line.0 (IsSign (word For)) (InParentheses c.args.line.0 (exp_of c.in_ok-first.first.tree))) (carried _ _ (for_carries c.args.line.0 (exp_of c.in_ok-first.first.tree) _ (is_so c.is.ensures c.if-not-is.false) (found_plain c.in_ok-first.ensures) c.in_ok-first.ensures.fits (omega (arith, c.if-first-ge-MAX_DEPTH.false, c.in_ok-first.first.exact))) c.in_err-atom-2.ensures)

pub returns : goal.returns
returns c = made_found (what_is_held c.args.line.0) (then_on (goes_on (narrow_carries (exp_narrows c.args.line.0 _ (is_not c.begins_only.ensures c.if-begins_only.false))) (exp_binds c.args.line.0) c.in_ok-first.ensures) (narrow_carries (for_narrows c.args.line.0 (exp_of c.in_ok-first.first.tree) _ (is_so c.is.ensures c.if-not-is.false))))
    (only_binds c.args.line.0 (IsSign (word For)) (InParentheses c.args.line.0 (exp_of c.in_ok-first.first.tree))) ((for_carries c.args.line.0 (exp_of c.in_ok-first.first.tree) _ (is_so c.is.ensures c.if-not-is.false) (found_plain c.in_ok-first.ensures) c.in_ok-first.ensures.fits (omega (arith, c.if-first-ge-MAX_DEPTH.false, c.in_ok-first.first.exact))).found _ _ c.in_ok-atom-2.ensures) tt c.in_ok-atom-2.ensures.fits
