use Rattle.std.proofs.Common.{◌≡◌, ◌∙◌, sym, ap, subst, refl, map, [], ◌∷◌, ◌++◌, length, inl, inr, true, false, arith, ◌≤◌}
use Rattle.std.proofs.lemmas.List.{map-append}
use Rattle.pt_wide.specs.Fold.{exp_of}
use Rattle.pt_wide.specs.StatementFold.{stm_of}
use Rattle.pt_readers.proofs.Readers.{carries_all, narrow_carries, then_on}
use Rattle.pt_readers.proofs.Exits.{passed, carried, fails_at, goes_on, carried_all, shift_on, is_so, is_not, found_shorter, some_more}
use Rattle.pt_parser.specs.Limits.{FitsStm}
use Rattle.pt_parser.specs.Parts.{Clear, Each, FitsBlock, FitsBranch, FitsHandler, a_stmt, a_compound, some_stmts}
use Rattle.pt_parser.specs.Views.{item_in, branch_in, branch_parts, decorator_in, signature_in, bases_in, catch_in, handler_in}
use Rattle.pt_parser.proofs.Tokens.{sign_next}
use Rattle.pt_parser.proofs.Chains.{is_found}
use Rattle.pt_parser.proofs.Ends.{before_binds, before_is}
use Rattle.pt_parser.proofs.UpTo.{each_snoc}
use Rattle.pt_parser.proofs.BlockLemmas.{before_all, block_snoc, line_narrow, lines_shifts, indent_binds, rest_binds, none_carries, after_shifts, ending_binds, suite_colon, compound_narrow, compound_binds, simples_stmt, simples_binds, close_shifts, next_carries, next_binds, stmt_shorter}
use Rattle.pt_parser.proofs.CompoundLemmas.{while_shifts, while_test, while_body, while_else, for_shifts, for_target, for_in, for_over, for_body, for_else, chosen_opens, choice_test, choice_body, elif_shifts, last_carries, last_binds, branches_fit, if_shifts, is_at}
use Rattle.pt_grammar.specs.Nodes.{is_given}
use Rattle.pt_parser.specs.Grammar.{handler_at}
use Rattle.pt_parser.proofs.DefinitionLemmas.{decorators_fit, function_opens, function_signature, function_body, class_opens, class_name, class_bases, class_block, bases_shifts, bases_carries, def_shifts, class_shifts, decoration_shifts, function_shifts, class_behind, decoration_binds, definition_bad}
use Rattle.pt_parser.proofs.EnterLemmas.{with_shifts, with_binds, with_body, items_fit}
use Rattle.pt_parser.proofs.TryLemmas.{handlers_fit, try_shifts, try_body, last_shifts, last_block, first_handler, tried_bad, handler_opens, handler_catch, handler_block, else_block, finally_binds, handler_shifts, closing_carries, finishing_carries, else_shifts as else_shifts_of_try, last_carries as last_carries_of_try}
use Rattle.pt_parser.proofs.reader.Statements.+statements.Goals as goal

pub block-returns-in_err-simples : goal.block-returns-in_err-simples
block-returns-in_err-simples t c = let n = c.take.ensures.none (grind arith) in passed _ _ _ _ _ _ c.from_residual.ensures.1 (carried _ _ (narrow_carries (line_narrow _ n.0)) (rw (n.1, c.new-all.ensures) at c.in_err-simples.ensures))

pub block-returns-then-not-take : goal.block-returns-then-not-take
block-returns-then-not-take t c = let n = c.take.ensures.none (grind arith) in (narrow_carries (line_narrow _ n.0)).found _ _ (rw (n.1, c.new-all.ensures) at c.in_ok-simples.ensures)

pub block-returns-in_err-expect : goal.block-returns-in_err-expect
block-returns-in_err-expect t c = let n = c.take.ensures.found (grind arith) in fails_at _ _ _ _ _ _ c.from_residual-in_err-expect.ensures.1 (shift_on carries_all (lines_shifts _) (sign_next _ n.0) n.1) indent_binds c.in_err-expect.ensures

pub block-returns-in_err-statement : goal.block-returns-in_err-statement
block-returns-in_err-statement t c = let n = c.take.ensures.found (grind arith) in fails_at _ _ _ _ _ _ c.from_residual-in_err-statement.ensures.1 (goes_on (shift_on carries_all (lines_shifts _) (sign_next _ n.0) n.1) indent_binds c.in_ok-expect.ensures) rest_binds (rw c.new-all.ensures at c.in_err-statement.ensures)

pub block-returns-in_err-up_to : goal.block-returns-in_err-up_to
block-returns-in_err-up_to t c = let n = c.take.ensures.found (grind arith) in passed _ _ _ _ _ _ c.from_residual-in_err-up_to.ensures.1 (carried _ _ (goes_on (goes_on (shift_on carries_all (lines_shifts _) (sign_next _ n.0) n.1) indent_binds c.in_ok-expect.ensures) rest_binds (rw c.new-all.ensures at c.in_ok-statement.ensures)) c.in_err-up_to.ensures)

pub block-returns : goal.block-returns
block-returns t c = let n = c.take.ensures.found (grind arith) in (goes_on (goes_on (shift_on carries_all (lines_shifts _) (sign_next _ n.0) n.1) indent_binds c.in_ok-expect.ensures) rest_binds (rw c.new-all.ensures at c.in_ok-statement.ensures)).found _ _ c.in_ok-up_to.ensures

pub afterwards-returns-in_err-clear : goal.afterwards-returns-in_err-clear
afterwards-returns-in_err-clear t c = let n = c.take.ensures.none (grind arith) in fails_at _ _ _ _ _ _ c.from_residual.ensures.1 (none_carries c.args.word n) (before_binds Clear FitsBlock [] tt) c.in_err-clear.ensures

pub afterwards-returns-then-not-take : goal.afterwards-returns-then-not-take
afterwards-returns-then-not-take t c = let n = c.take.ensures.none (grind arith) in rw c.new.ensures (before_is Clear FitsBlock (none_carries c.args.word n) tt c.in_ok-clear.ensures)

pub afterwards-returns : goal.afterwards-returns
afterwards-returns t c = let n = c.take.ensures.found (grind arith) in carried_all (λ all. map stm_of all) _ _ (shift_on carries_all (after_shifts c.args.word _ c.requires) (sign_next _ n.0) n.1) c.last.ensures

pub last-returns-in_err-all : goal.last-returns-in_err-all
last-returns-in_err-all t c = fails_at _ _ _ _ _ _ c.from_residual.ensures.1 carries_all ending_binds c.in_err-all.ensures

pub last-returns-in_err-clear : goal.last-returns-in_err-clear
last-returns-in_err-clear t c = fails_at _ _ _ _ _ _ c.from_residual-in_err-clear.ensures.1 (goes_on carries_all ending_binds c.in_ok-all.ensures) (before_binds Clear FitsBlock _ c.in_ok-all.ensures.fits) c.in_err-clear.ensures

pub last-returns : goal.last-returns
last-returns t c = before_is Clear FitsBlock (goes_on carries_all ending_binds c.in_ok-all.ensures) c.in_ok-all.ensures.fits c.in_ok-clear.ensures

pub suite-returns-in_err-expect : goal.suite-returns-in_err-expect
suite-returns-in_err-expect t c = fails_at _ _ _ _ _ _ c.from_residual.ensures.1 carries_all suite_colon c.in_err-expect.ensures

pub suite-returns : goal.suite-returns
suite-returns t c = carried_all (λ all. map stm_of all) _ _ (goes_on carries_all suite_colon c.in_ok-expect.ensures) c.block.ensures

pub statement-returns-in_err-statement : goal.statement-returns-in_err-statement
statement-returns-in_err-statement t c = fails_at _ _ _ _ _ _ c.from_residual.ensures.1 (narrow_carries (compound_narrow (map stm_of c.args.all.now) _ (is_so c.is_compound.ensures c.if-is_compound.true))) (compound_binds (map stm_of c.args.all.now) c.requires) c.in_err-statement.ensures

pub statement-returns-then-is_compound : goal.statement-returns-then-is_compound
statement-returns-then-is_compound t c = rw (c.in_ok-push.ensures.ok, map-append) ((goes_on (narrow_carries (compound_narrow (map stm_of c.args.all.now) _ (is_so c.is_compound.ensures c.if-is_compound.true))) (compound_binds (map stm_of c.args.all.now) c.requires) c.in_ok-statement.ensures).found _ _ (is_found (a_stmt (map stm_of c.args.all.now)) _ _ c.in_ok-statement.ensures.stops (block_snoc (map stm_of c.args.all.now) _ c.requires c.in_ok-statement.ensures.fits)))

pub statement-returns-in_err-simples : goal.statement-returns-in_err-simples
statement-returns-in_err-simples t c = fails_at _ _ _ _ _ _ c.from_residual-in_err-simples.ensures.1 (narrow_carries (simples_stmt (map stm_of c.args.all.now) _ (is_not c.is_compound.ensures c.if-is_compound.false))) (simples_binds (map stm_of c.args.all.now)) c.in_err-simples.ensures

pub statement-returns : goal.statement-returns
statement-returns t c = before_all Clear FitsBlock (map stm_of c.simples.new.all) _ (goes_on (narrow_carries (simples_stmt (map stm_of c.args.all.now) _ (is_not c.is_compound.ensures c.if-is_compound.false))) (simples_binds (map stm_of c.args.all.now)) c.in_ok-simples.ensures) c.in_ok-simples.ensures.fits _ c.clear.ensures

pub up_to-more-init : goal.up_to-more-init
up_to-more-init t c = record { shorter = omega arith; fits = c.requires.fits; carries = carries_all }

pub up_to-returns-in_err-statement : goal.up_to-returns-in_err-statement
up_to-returns-in_err-statement t c = fails_at _ _ _ _ _ _ c.from_residual.ensures.1 (next_carries c.args.close (map stm_of c.more.all) c.more.invariant.carries (c.take.ensures.none (grind arith))) (next_binds c.args.close (map stm_of c.more.all) c.requires.closes) c.in_err-statement.ensures

pub up_to-more-smaller : goal.up_to-more-smaller
up_to-more-smaller t c = let n = c.take.ensures.none (grind arith) in omega (arith, stmt_shorter c.in_ok-statement.ensures, ap length n.1)

pub up_to-more-preserved : goal.up_to-more-preserved
up_to-more-preserved t c = let n = c.take.ensures.none (grind arith) in record {
  shorter = omega (arith, found_shorter c.in_ok-statement.ensures, ap length n.1, c.more.invariant.shorter);
  fits = c.in_ok-statement.ensures.fits;
  carries = goes_on (next_carries c.args.close (map stm_of c.more.all) c.more.invariant.carries (c.take.ensures.none (grind arith))) (next_binds c.args.close (map stm_of c.more.all) c.requires.closes) c.in_ok-statement.ensures;
}

pub up_to-returns : goal.up_to-returns
up_to-returns t c = let n = c.take.ensures.found (grind arith) in (shift_on c.more.invariant.carries (close_shifts c.args.close (map stm_of c.more.all) _ c.requires.closes) (sign_next _ n.0) n.1).found _ _ (is_found (some_stmts c.args.close (map stm_of c.more.all)) _ _ tt c.more.invariant.fits)

pub compound-returns-then-take : goal.compound-returns-then-take
compound-returns-then-take t c = let n = c.take.ensures.found c.if-take.true in carried_all stm_of _ _ (shift_on carries_all (if_shifts _) (sign_next _ n.0) n.1) (rw c.line-line.ensures at c.choice.ensures)

pub compound-returns-then-take-2 : goal.compound-returns-then-take-2
compound-returns-then-take-2 t c = let m = c.take.ensures.none c.if-take.false in let n = rw m.1 at (c.take-2.ensures.found c.if-take-2.true) in carried_all stm_of _ _ (shift_on carries_all (while_shifts _) (sign_next _ n.0) n.1) (rw c.line-line.ensures at c.while_statement.ensures)

pub compound-returns-then-take-3 : goal.compound-returns-then-take-3
compound-returns-then-take-3 t c =
    let a = c.take.ensures.none c.if-take.false in
    let b = rw a.1 at (c.take-2.ensures.none c.if-take-2.false) in
    let n = rw b.1 at (c.take-3.ensures.found c.if-take-3.true) in
    carried_all stm_of _ _ (shift_on carries_all (for_shifts _) (sign_next _ n.0) n.1) (rw c.line-line.ensures at c.iteration.ensures)

pub compound-returns-then-take-4 : goal.compound-returns-then-take-4
compound-returns-then-take-4 t c =
    let a = c.take.ensures.none c.if-take.false in
    let b = rw a.1 at (c.take-2.ensures.none c.if-take-2.false) in
    let d = rw b.1 at (c.take-3.ensures.none c.if-take-3.false) in
    let n = rw d.1 at (c.take-4.ensures.found c.if-take-4.true) in
    carried_all stm_of _ _ (shift_on carries_all (try_shifts _) (sign_next _ n.0) n.1) (rw c.line-line.ensures at c.attempt.ensures)

pub compound-returns-then-take-5 : goal.compound-returns-then-take-5
compound-returns-then-take-5 t c =
    let a = c.take.ensures.none c.if-take.false in
    let b = rw a.1 at (c.take-2.ensures.none c.if-take-2.false) in
    let d = rw b.1 at (c.take-3.ensures.none c.if-take-3.false) in
    let e = rw d.1 at (c.take-4.ensures.none c.if-take-4.false) in
    let n = rw e.1 at (c.take-5.ensures.found c.if-take-5.true) in
    carried_all stm_of _ _ (shift_on carries_all (def_shifts _) (sign_next _ n.0) n.1) (rw (c.line-line.ensures, c.new-decorators.ensures) at c.function.ensures)

pub compound-returns-then-take-6 : goal.compound-returns-then-take-6
compound-returns-then-take-6 t c =
    let a = c.take.ensures.none c.if-take.false in
    let b = rw a.1 at (c.take-2.ensures.none c.if-take-2.false) in
    let d = rw b.1 at (c.take-3.ensures.none c.if-take-3.false) in
    let e = rw d.1 at (c.take-4.ensures.none c.if-take-4.false) in
    let f = rw e.1 at (c.take-5.ensures.none c.if-take-5.false) in
    let n = rw f.1 at (c.take-6.ensures.found c.if-take-6.true) in
    carried_all stm_of _ _ (shift_on carries_all (class_shifts _) (sign_next _ n.0) n.1) (rw (c.line-line.ensures, c.new-decorators.ensures) at c.class.ensures)

pub compound-returns-then-take-7 : goal.compound-returns-then-take-7
compound-returns-then-take-7 t c =
    let a = c.take.ensures.none c.if-take.false in
    let b = rw a.1 at (c.take-2.ensures.none c.if-take-2.false) in
    let d = rw b.1 at (c.take-3.ensures.none c.if-take-3.false) in
    let e = rw d.1 at (c.take-4.ensures.none c.if-take-4.false) in
    let f = rw e.1 at (c.take-5.ensures.none c.if-take-5.false) in
    let g = rw f.1 at (c.take-6.ensures.none c.if-take-6.false) in
    let n = rw g.1 at (c.take-7.ensures.found c.if-take-7.true) in
    carried_all stm_of _ _ (shift_on carries_all (with_shifts _) (sign_next _ n.0) n.1) (rw c.line-line.ensures at c.with_statement.ensures)

pub compound-returns : goal.compound-returns
compound-returns t c =
    let a = c.take.ensures.none c.if-take.false in
    let b = rw a.1 at (c.take-2.ensures.none c.if-take-2.false) in
    let d = rw b.1 at (c.take-3.ensures.none c.if-take-3.false) in
    let e = rw d.1 at (c.take-4.ensures.none c.if-take-4.false) in
    let f = rw e.1 at (c.take-5.ensures.none c.if-take-5.false) in
    let g = rw f.1 at (c.take-6.ensures.none c.if-take-6.false) in
    let h = rw g.1 at (c.take-7.ensures.none c.if-take-7.false) in
    carried_all stm_of _ _ (shift_on carries_all (decoration_shifts _) (sign_next _ (is_at _ c.requires a.0 b.0 d.0 e.0 f.0 g.0 h.0)) (c.skip.ensures ∙ rw h.1 refl)) (rw c.line-line.ensures at c.decorated.ensures)

pub with_statement-returns-in_err-items : goal.with_statement-returns-in_err-items
with_statement-returns-in_err-items t c = fails_at _ _ _ _ _ _ c.from_residual.ensures.1 carries_all (with_binds c.args.line.0) c.in_err-items.ensures

pub with_statement-returns-in_err-body : goal.with_statement-returns-in_err-body
with_statement-returns-in_err-body t c = fails_at _ _ _ _ _ _ c.from_residual-in_err-body.ensures.1 (goes_on carries_all (with_binds c.args.line.0) c.in_ok-items.ensures)
    (with_body c.args.line.0 (map item_in c.in_ok-items.items) c.in_ok-items.ensures.fits) c.in_err-body.ensures

pub with_statement-returns : goal.with_statement-returns
with_statement-returns t c = rw c.with.ensures ((goes_on (goes_on carries_all (with_binds c.args.line.0) c.in_ok-items.ensures)
    (with_body c.args.line.0 (map item_in c.in_ok-items.items) c.in_ok-items.ensures.fits) c.in_ok-body.ensures).found _ _
    (is_found a_compound _ _ c.in_ok-body.ensures.stops (items_fit (map item_in c.in_ok-items.items) c.in_ok-items.ensures.fits, c.in_ok-body.ensures.fits)))

pub while_statement-returns-in_err-test : goal.while_statement-returns-in_err-test
while_statement-returns-in_err-test t c = fails_at _ _ _ _ _ _ c.from_residual.ensures.1 carries_all (while_test c.args.line.0) c.in_err-test.ensures

pub while_statement-returns-in_err-body : goal.while_statement-returns-in_err-body
while_statement-returns-in_err-body t c = fails_at _ _ _ _ _ _ c.from_residual-in_err-body.ensures.1 (goes_on carries_all (while_test c.args.line.0) c.in_ok-test.ensures) (while_body c.args.line.0 (exp_of c.in_ok-test.test) c.in_ok-test.ensures.fits) c.in_err-body.ensures

pub while_statement-returns-in_err-otherwise : goal.while_statement-returns-in_err-otherwise
while_statement-returns-in_err-otherwise t c = fails_at _ _ _ _ _ _ c.from_residual-in_err-otherwise.ensures.1 (goes_on (goes_on carries_all (while_test c.args.line.0) c.in_ok-test.ensures) (while_body c.args.line.0 (exp_of c.in_ok-test.test) c.in_ok-test.ensures.fits) c.in_ok-body.ensures) (while_else c.args.line.0 (exp_of c.in_ok-test.test) (map stm_of c.in_ok-body.body) c.in_ok-test.ensures.fits c.in_ok-body.ensures.fits) c.in_err-otherwise.ensures

pub while_statement-returns : goal.while_statement-returns
while_statement-returns t c = rw c.while_statement.ensures ((goes_on (goes_on (goes_on carries_all (while_test c.args.line.0) c.in_ok-test.ensures) (while_body c.args.line.0 (exp_of c.in_ok-test.test) c.in_ok-test.ensures.fits) c.in_ok-body.ensures) (while_else c.args.line.0 (exp_of c.in_ok-test.test) (map stm_of c.in_ok-body.body) c.in_ok-test.ensures.fits c.in_ok-body.ensures.fits) c.in_ok-otherwise.ensures).found _ _ (is_found a_compound _ _ c.in_ok-otherwise.ensures.stops (c.in_ok-test.ensures.fits, c.in_ok-body.ensures.fits, c.in_ok-otherwise.ensures.fits)))

pub iteration-returns-in_err-target : goal.iteration-returns-in_err-target
iteration-returns-in_err-target t c = fails_at _ _ _ _ _ _ c.from_residual.ensures.1 carries_all (for_target c.args.line.0) c.in_err-target.ensures

pub iteration-returns-in_err-expect : goal.iteration-returns-in_err-expect
iteration-returns-in_err-expect t c = fails_at _ _ _ _ _ _ c.from_residual-in_err-expect.ensures.1 (goes_on carries_all (for_target c.args.line.0) c.in_ok-target.ensures) (for_in c.args.line.0 (exp_of c.in_ok-target.target) c.in_ok-target.ensures.fits) c.in_err-expect.ensures

pub iteration-returns-in_err-iterable : goal.iteration-returns-in_err-iterable
iteration-returns-in_err-iterable t c = fails_at _ _ _ _ _ _ c.from_residual-in_err-iterable.ensures.1 (goes_on (goes_on carries_all (for_target c.args.line.0) c.in_ok-target.ensures) (for_in c.args.line.0 (exp_of c.in_ok-target.target) c.in_ok-target.ensures.fits) c.in_ok-expect.ensures) (for_over c.args.line.0 (exp_of c.in_ok-target.target) c.in_ok-target.ensures.fits) c.in_err-iterable.ensures

pub iteration-returns-in_err-body : goal.iteration-returns-in_err-body
iteration-returns-in_err-body t c = fails_at _ _ _ _ _ _ c.from_residual-in_err-body.ensures.1 (goes_on (goes_on (goes_on carries_all (for_target c.args.line.0) c.in_ok-target.ensures) (for_in c.args.line.0 (exp_of c.in_ok-target.target) c.in_ok-target.ensures.fits) c.in_ok-expect.ensures) (for_over c.args.line.0 (exp_of c.in_ok-target.target) c.in_ok-target.ensures.fits) c.in_ok-iterable.ensures) (for_body c.args.line.0 (exp_of c.in_ok-target.target) (exp_of c.in_ok-iterable.iterable) c.in_ok-target.ensures.fits c.in_ok-iterable.ensures.fits) c.in_err-body.ensures

pub iteration-returns-in_err-otherwise : goal.iteration-returns-in_err-otherwise
iteration-returns-in_err-otherwise t c = fails_at _ _ _ _ _ _ c.from_residual-in_err-otherwise.ensures.1 (goes_on (goes_on (goes_on (goes_on carries_all (for_target c.args.line.0) c.in_ok-target.ensures) (for_in c.args.line.0 (exp_of c.in_ok-target.target) c.in_ok-target.ensures.fits) c.in_ok-expect.ensures) (for_over c.args.line.0 (exp_of c.in_ok-target.target) c.in_ok-target.ensures.fits) c.in_ok-iterable.ensures) (for_body c.args.line.0 (exp_of c.in_ok-target.target) (exp_of c.in_ok-iterable.iterable) c.in_ok-target.ensures.fits c.in_ok-iterable.ensures.fits) c.in_ok-body.ensures) (for_else c.args.line.0 (exp_of c.in_ok-target.target) (exp_of c.in_ok-iterable.iterable) (map stm_of c.in_ok-body.body) c.in_ok-target.ensures.fits c.in_ok-iterable.ensures.fits c.in_ok-body.ensures.fits) c.in_err-otherwise.ensures

pub iteration-returns : goal.iteration-returns
iteration-returns t c = rw c.iteration.ensures ((goes_on (goes_on (goes_on (goes_on (goes_on carries_all (for_target c.args.line.0) c.in_ok-target.ensures) (for_in c.args.line.0 (exp_of c.in_ok-target.target) c.in_ok-target.ensures.fits) c.in_ok-expect.ensures) (for_over c.args.line.0 (exp_of c.in_ok-target.target) c.in_ok-target.ensures.fits) c.in_ok-iterable.ensures) (for_body c.args.line.0 (exp_of c.in_ok-target.target) (exp_of c.in_ok-iterable.iterable) c.in_ok-target.ensures.fits c.in_ok-iterable.ensures.fits) c.in_ok-body.ensures) (for_else c.args.line.0 (exp_of c.in_ok-target.target) (exp_of c.in_ok-iterable.iterable) (map stm_of c.in_ok-body.body) c.in_ok-target.ensures.fits c.in_ok-iterable.ensures.fits c.in_ok-body.ensures.fits) c.in_ok-otherwise.ensures).found _ _ (is_found a_compound _ _ c.in_ok-otherwise.ensures.stops (c.in_ok-target.ensures.fits, c.in_ok-iterable.ensures.fits, c.in_ok-body.ensures.fits, c.in_ok-otherwise.ensures.fits)))

pub choice-more-init : goal.choice-more-init
choice-more-init t c = rw c.new-branches.ensures record { shorter = omega arith; each = tt; carries = carries_all }

pub choice-returns-in_err-test : goal.choice-returns-in_err-test
choice-returns-in_err-test t c = fails_at _ _ _ _ _ _ c.from_residual.ensures.1 (then_on c.more.invariant.carries (narrow_carries (chosen_opens c.args.line.0 c.more.at.0 (map branch_in c.more.branches) _))) (choice_test c.args.line.0 c.more.at.0 (map branch_in c.more.branches) c.more.invariant.each) c.in_err-test.ensures

pub choice-returns-in_err-body : goal.choice-returns-in_err-body
choice-returns-in_err-body t c = fails_at _ _ _ _ _ _ c.from_residual-in_err-body.ensures.1 (goes_on (then_on c.more.invariant.carries (narrow_carries (chosen_opens c.args.line.0 c.more.at.0 (map branch_in c.more.branches) _))) (choice_test c.args.line.0 c.more.at.0 (map branch_in c.more.branches) c.more.invariant.each) c.in_ok-test.ensures) (choice_body c.args.line.0 c.more.at.0 (map branch_in c.more.branches) (exp_of c.in_ok-test.test) c.more.invariant.each c.in_ok-test.ensures.fits) c.in_err-body.ensures

pub choice-returns-in_err-otherwise : goal.choice-returns-in_err-otherwise
choice-returns-in_err-otherwise t c = fails_at _ _ _ _ _ _ c.from_residual-in_err-otherwise.ensures.1 (last_carries c.args.line.0 ((map branch_in c.more.branches) ++ (branch_parts c.more.at.0 (exp_of c.in_ok-test.test) (map stm_of c.in_ok-body.body) ∷ [])) (goes_on (goes_on (then_on c.more.invariant.carries (narrow_carries (chosen_opens c.args.line.0 c.more.at.0 (map branch_in c.more.branches) _))) (choice_test c.args.line.0 c.more.at.0 (map branch_in c.more.branches) c.more.invariant.each) c.in_ok-test.ensures) (choice_body c.args.line.0 c.more.at.0 (map branch_in c.more.branches) (exp_of c.in_ok-test.test) c.more.invariant.each c.in_ok-test.ensures.fits) c.in_ok-body.ensures) (c.take.ensures.none (grind arith))) (last_binds c.args.line.0 ((map branch_in c.more.branches) ++ (branch_parts c.more.at.0 (exp_of c.in_ok-test.test) (map stm_of c.in_ok-body.body) ∷ [])) (each_snoc FitsBranch (map branch_in c.more.branches) (branch_parts c.more.at.0 (exp_of c.in_ok-test.test) (map stm_of c.in_ok-body.body)) c.more.invariant.each (c.in_ok-test.ensures.fits, c.in_ok-body.ensures.fits))) c.in_err-otherwise.ensures

pub choice-returns-then-not-take : goal.choice-returns-then-not-take
choice-returns-then-not-take t c = rw (c.choice.ensures, c.in_ok-push.ensures.ok, map-append, c.if_branch.ensures) ((goes_on (last_carries c.args.line.0 ((map branch_in c.more.branches) ++ (branch_parts c.more.at.0 (exp_of c.in_ok-test.test) (map stm_of c.in_ok-body.body) ∷ [])) (goes_on (goes_on (then_on c.more.invariant.carries (narrow_carries (chosen_opens c.args.line.0 c.more.at.0 (map branch_in c.more.branches) _))) (choice_test c.args.line.0 c.more.at.0 (map branch_in c.more.branches) c.more.invariant.each) c.in_ok-test.ensures) (choice_body c.args.line.0 c.more.at.0 (map branch_in c.more.branches) (exp_of c.in_ok-test.test) c.more.invariant.each c.in_ok-test.ensures.fits) c.in_ok-body.ensures) (c.take.ensures.none (grind arith))) (last_binds c.args.line.0 ((map branch_in c.more.branches) ++ (branch_parts c.more.at.0 (exp_of c.in_ok-test.test) (map stm_of c.in_ok-body.body) ∷ [])) (each_snoc FitsBranch (map branch_in c.more.branches) (branch_parts c.more.at.0 (exp_of c.in_ok-test.test) (map stm_of c.in_ok-body.body)) c.more.invariant.each (c.in_ok-test.ensures.fits, c.in_ok-body.ensures.fits))) c.in_ok-otherwise.ensures).found _ _ (is_found a_compound _ _ c.in_ok-otherwise.ensures.stops (branches_fit ((map branch_in c.more.branches) ++ (branch_parts c.more.at.0 (exp_of c.in_ok-test.test) (map stm_of c.in_ok-body.body) ∷ [])) (each_snoc FitsBranch (map branch_in c.more.branches) (branch_parts c.more.at.0 (exp_of c.in_ok-test.test) (map stm_of c.in_ok-body.body)) c.more.invariant.each (c.in_ok-test.ensures.fits, c.in_ok-body.ensures.fits)), c.in_ok-otherwise.ensures.fits)))

pub choice-more-preserved : goal.choice-more-preserved
choice-more-preserved t c = let n = c.take.ensures.found (grind arith) in rw (c.in_ok-push.ensures.ok, map-append, c.if_branch.ensures) record {
  shorter = omega (arith, found_shorter c.in_ok-test.ensures, found_shorter c.in_ok-body.ensures, ap length n.1, some_more _ (sign_next _ n.0), c.more.invariant.shorter);
  each = (each_snoc FitsBranch (map branch_in c.more.branches) (branch_parts c.more.at.0 (exp_of c.in_ok-test.test) (map stm_of c.in_ok-body.body)) c.more.invariant.each (c.in_ok-test.ensures.fits, c.in_ok-body.ensures.fits));
  carries = rw c.line-at.ensures (shift_on (goes_on (goes_on (then_on c.more.invariant.carries (narrow_carries (chosen_opens c.args.line.0 c.more.at.0 (map branch_in c.more.branches) _))) (choice_test c.args.line.0 c.more.at.0 (map branch_in c.more.branches) c.more.invariant.each) c.in_ok-test.ensures) (choice_body c.args.line.0 c.more.at.0 (map branch_in c.more.branches) (exp_of c.in_ok-test.test) c.more.invariant.each c.in_ok-test.ensures.fits) c.in_ok-body.ensures) (elif_shifts c.args.line.0 _ ((map branch_in c.more.branches) ++ (branch_parts c.more.at.0 (exp_of c.in_ok-test.test) (map stm_of c.in_ok-body.body) ∷ []))) (sign_next _ n.0) n.1);
}

-- functions
pub function-returns-in_err-signature : goal.function-returns-in_err-signature
function-returns-in_err-signature t c = fails_at _ _ _ _ _ _ c.from_residual.ensures.1
    (narrow_carries (function_opens c.args.line.0 (map decorator_in c.args.decorators) c.args.at.0 _))
    (function_signature c.args.line.0 (map decorator_in c.args.decorators) c.args.at.0 c.requires) c.in_err-signature.ensures

pub function-returns-in_err-body : goal.function-returns-in_err-body
function-returns-in_err-body t c = fails_at _ _ _ _ _ _ c.from_residual-in_err-body.ensures.1
    (goes_on (narrow_carries (function_opens c.args.line.0 (map decorator_in c.args.decorators) c.args.at.0 _))
    (function_signature c.args.line.0 (map decorator_in c.args.decorators) c.args.at.0 c.requires) c.in_ok-signature.ensures)
    (function_body c.args.line.0 (map decorator_in c.args.decorators) c.args.at.0 c.requires (signature_in c.in_ok-signature.signature) c.in_ok-signature.ensures.fits) c.in_err-body.ensures

pub function-returns : goal.function-returns
function-returns t c = rw c.function.ensures ((goes_on (goes_on (narrow_carries (function_opens c.args.line.0 (map decorator_in c.args.decorators) c.args.at.0 _))
    (function_signature c.args.line.0 (map decorator_in c.args.decorators) c.args.at.0 c.requires) c.in_ok-signature.ensures)
    (function_body c.args.line.0 (map decorator_in c.args.decorators) c.args.at.0 c.requires (signature_in c.in_ok-signature.signature) c.in_ok-signature.ensures.fits) c.in_ok-body.ensures).found _ _
    (is_found a_compound _ _ c.in_ok-body.ensures.stops (decorators_fit (map decorator_in c.args.decorators) c.requires, c.in_ok-signature.ensures.fits.0, c.in_ok-signature.ensures.fits.1, c.in_ok-body.ensures.fits)))

-- classes
pub class_body-returns-in_err-body : goal.class_body-returns-in_err-body
class_body-returns-in_err-body t c = fails_at _ _ _ _ _ _ c.from_residual.ensures.1 carries_all
    (class_block c.args.line.0 (map decorator_in c.args.decorators) c.args.at.0 c.requires.decorators c.args.name (bases_in c.args.bases) c.requires.bases) c.in_err-body.ensures

pub class_body-returns : goal.class_body-returns
class_body-returns t c = rw c.class.ensures ((goes_on carries_all
    (class_block c.args.line.0 (map decorator_in c.args.decorators) c.args.at.0 c.requires.decorators c.args.name (bases_in c.args.bases) c.requires.bases) c.in_ok-body.ensures).found _ _
    (is_found a_compound _ _ c.in_ok-body.ensures.stops (decorators_fit (map decorator_in c.args.decorators) c.requires.decorators, c.requires.bases, c.in_ok-body.ensures.fits)))

pub class-returns-in_err-name : goal.class-returns-in_err-name
class-returns-in_err-name t c = fails_at _ _ _ _ _ _ c.from_residual.ensures.1 (narrow_carries (class_opens c.args.line.0 (map decorator_in c.args.decorators) c.args.at.0 _))
    (class_name c.args.line.0 (map decorator_in c.args.decorators) c.args.at.0 c.requires) c.in_err-name.ensures

pub class-returns-then-not-take : goal.class-returns-then-not-take
class-returns-then-not-take t c = carried_all stm_of _ _
    (bases_carries c.args.line.0 (map decorator_in c.args.decorators) c.args.at.0 c.in_ok-name.name
    (goes_on (narrow_carries (class_opens c.args.line.0 (map decorator_in c.args.decorators) c.args.at.0 _)) (class_name c.args.line.0 (map decorator_in c.args.decorators) c.args.at.0 c.requires) c.in_ok-name.ensures)
    (c.take.ensures.none (grind arith)))
    (rw c.new-arguments.ensures at c.class_body.ensures)

pub class-returns-in_err-bases : goal.class-returns-in_err-bases
class-returns-in_err-bases t c = let n = c.take.ensures.found (grind arith) in fails_at _ _ _ _ _ _ c.from_residual-in_err-bases.ensures.1
    (shift_on (goes_on (narrow_carries (class_opens c.args.line.0 (map decorator_in c.args.decorators) c.args.at.0 _)) (class_name c.args.line.0 (map decorator_in c.args.decorators) c.args.at.0 c.requires) c.in_ok-name.ensures)
    (bases_shifts c.args.line.0 (map decorator_in c.args.decorators) c.args.at.0 c.in_ok-name.name _) (sign_next _ n.0) n.1)
    (class_bases c.args.line.0 (map decorator_in c.args.decorators) c.args.at.0 c.requires c.in_ok-name.name) c.in_err-bases.ensures

pub class-returns : goal.class-returns
class-returns t c = let n = c.take.ensures.found (grind arith) in carried_all stm_of _ _
    (goes_on (shift_on (goes_on (narrow_carries (class_opens c.args.line.0 (map decorator_in c.args.decorators) c.args.at.0 _)) (class_name c.args.line.0 (map decorator_in c.args.decorators) c.args.at.0 c.requires) c.in_ok-name.ensures)
    (bases_shifts c.args.line.0 (map decorator_in c.args.decorators) c.args.at.0 c.in_ok-name.name _) (sign_next _ n.0) n.1)
    (class_bases c.args.line.0 (map decorator_in c.args.decorators) c.args.at.0 c.requires c.in_ok-name.name) c.in_ok-bases.ensures)
    c.class_body-2.ensures

-- decorators, and what they stand before
pub decorated-returns-in_err-decorators : goal.decorated-returns-in_err-decorators
decorated-returns-in_err-decorators t c = fails_at _ _ _ _ _ _ c.from_residual.ensures.1 carries_all (decoration_binds c.args.line.0) c.in_err-decorators.ensures

pub decorated-returns-then-take : goal.decorated-returns-then-take
decorated-returns-then-take t c = let n = c.take.ensures.found c.if-take.true in carried_all stm_of _ _
    (shift_on (goes_on carries_all (decoration_binds c.args.line.0) c.in_ok-decorators.ensures) (function_shifts c.args.line.0 _ (map decorator_in c.in_ok-decorators.decorators)) (sign_next _ n.0) n.1)
    (rw c.line-at.ensures at c.function.ensures)

pub decorated-returns-then-not-take : goal.decorated-returns-then-not-take
decorated-returns-then-not-take t c = let m = c.take.ensures.none c.if-take.false in let n = c.take-2.ensures.none c.if-not-take.true in
    rw (n.1, m.1) ((goes_on carries_all (decoration_binds c.args.line.0) c.in_ok-decorators.ensures).refused false _
    (definition_bad c.args.line.0 (map decorator_in c.in_ok-decorators.decorators) _ c.in_ok-decorators.ensures.fits m.0 (rw m.1 at n.0)))

pub decorated-returns : goal.decorated-returns
decorated-returns t c = let m = c.take.ensures.none c.if-take.false in let n = rw m.1 at (c.take-2.ensures.found c.if-not-take.false) in carried_all stm_of _ _
    (shift_on (goes_on carries_all (decoration_binds c.args.line.0) c.in_ok-decorators.ensures) (class_behind c.args.line.0 _ (map decorator_in c.in_ok-decorators.decorators)) (sign_next _ n.0) n.1)
    (rw c.line-at.ensures at c.class.ensures)

-- `try`
pub finishing-returns-in_err-finally : goal.finishing-returns-in_err-finally
finishing-returns-in_err-finally t c = fails_at _ _ _ _ _ _ c.from_residual.ensures.1 carries_all
    (finally_binds c.args.line.0 (map stm_of c.args.body) c.requires.body (map handler_in c.args.handlers) (map stm_of c.args.otherwise) c.requires.handlers c.requires.otherwise) c.in_err-finally.ensures

pub finishing-returns : goal.finishing-returns
finishing-returns t c = rw c.attempt.ensures ((goes_on carries_all
    (finally_binds c.args.line.0 (map stm_of c.args.body) c.requires.body (map handler_in c.args.handlers) (map stm_of c.args.otherwise) c.requires.handlers c.requires.otherwise) c.in_ok-finally.ensures).found _ _
    (is_found a_compound _ _ c.in_ok-finally.ensures.stops (c.requires.body, handlers_fit (map handler_in c.args.handlers) c.requires.handlers, c.requires.otherwise, c.in_ok-finally.ensures.fits)))

pub closing-returns-then-not-take : goal.closing-returns-then-not-take
closing-returns-then-not-take t c = carried_all stm_of _ _
    (finishing_carries c.args.line.0 (map stm_of c.args.body) (map handler_in c.args.handlers) carries_all (c.take.ensures.none (grind arith)))
    (rw c.new-otherwise.ensures at c.finishing.ensures)

pub closing-returns-in_err-otherwise : goal.closing-returns-in_err-otherwise
closing-returns-in_err-otherwise t c = let n = c.take.ensures.found (grind arith) in fails_at _ _ _ _ _ _ c.from_residual.ensures.1
    (shift_on carries_all (else_shifts_of_try c.args.line.0 _ (map stm_of c.args.body) (map handler_in c.args.handlers)) (sign_next _ n.0) n.1)
    (else_block c.args.line.0 (map stm_of c.args.body) c.requires.body (map handler_in c.args.handlers) c.requires.handlers) c.in_err-otherwise.ensures

pub closing-returns : goal.closing-returns
closing-returns t c = let n = c.take.ensures.found (grind arith) in carried_all stm_of _ _
    (goes_on (shift_on carries_all (else_shifts_of_try c.args.line.0 _ (map stm_of c.args.body) (map handler_in c.args.handlers)) (sign_next _ n.0) n.1)
    (else_block c.args.line.0 (map stm_of c.args.body) c.requires.body (map handler_in c.args.handlers) c.requires.handlers) c.in_ok-otherwise.ensures)
    c.finishing-2.ensures

pub handlers-more-init : goal.handlers-more-init
handlers-more-init t c = rw c.new-handlers.ensures record { shorter = omega arith; same = refl; each = tt; carries = carries_all }

pub handlers-returns-in_err-catch : goal.handlers-returns-in_err-catch
handlers-returns-in_err-catch t c = fails_at _ _ _ _ _ _ c.from_residual.ensures.1
    (then_on c.more.invariant.carries (narrow_carries (handler_opens c.args.line.0 (map stm_of c.args.body) c.more.at.0 (map handler_in c.more.handlers) _)))
    (handler_catch c.args.line.0 (map stm_of c.args.body) c.requires c.more.at.0 (map handler_in c.more.handlers) c.more.invariant.each) c.in_err-catch.ensures

pub handlers-returns-in_err-block : goal.handlers-returns-in_err-block
handlers-returns-in_err-block t c = fails_at _ _ _ _ _ _ c.from_residual-in_err-block.ensures.1
    (goes_on (then_on c.more.invariant.carries (narrow_carries (handler_opens c.args.line.0 (map stm_of c.args.body) c.more.at.0 (map handler_in c.more.handlers) _)))
    (handler_catch c.args.line.0 (map stm_of c.args.body) c.requires c.more.at.0 (map handler_in c.more.handlers) c.more.invariant.each) c.in_ok-catch.ensures)
    (handler_block c.args.line.0 (map stm_of c.args.body) c.requires c.more.at.0 (map handler_in c.more.handlers) (catch_in c.in_ok-catch.catch) c.more.invariant.each c.in_ok-catch.ensures.fits) c.in_err-block.ensures

pub handlers-closing-requires : goal.handlers-closing-requires
handlers-closing-requires t c = (
  omega (arith, found_shorter c.in_ok-catch.ensures, found_shorter c.in_ok-block.ensures, c.more.invariant.shorter),
  (rw c.more.invariant.same c.requires, rw (c.in_ok-push.ensures.ok, map-append, c.handler.ensures) (each_snoc FitsHandler (map handler_in c.more.handlers) (handler_at c.more.at.0 (catch_in c.in_ok-catch.catch) (map stm_of c.in_ok-block.block)) c.more.invariant.each (c.in_ok-catch.ensures.fits, c.in_ok-block.ensures.fits))),
)

pub handlers-closing-requires-then-not-take : goal.handlers-closing-requires-then-not-take
handlers-closing-requires-then-not-take t c = (
  omega (arith, found_shorter c.in_ok-catch.ensures, found_shorter c.in_ok-block.ensures, ap length (c.take.ensures.none (grind arith)).1, c.more.invariant.shorter),
  (rw c.more.invariant.same c.requires, rw (c.in_ok-push.ensures.ok, map-append, c.handler.ensures) (each_snoc FitsHandler (map handler_in c.more.handlers) (handler_at c.more.at.0 (catch_in c.in_ok-catch.catch) (map stm_of c.in_ok-block.block)) c.more.invariant.each (c.in_ok-catch.ensures.fits, c.in_ok-block.ensures.fits))),
)

pub handlers-returns-then-not-names_class : goal.handlers-returns-then-not-names_class
handlers-returns-then-not-names_class t c = carried_all stm_of _ _
    (last_carries_of_try c.args.line.0 (map stm_of c.args.body) (is_given (catch_in c.in_ok-catch.catch).class) ((map handler_in c.more.handlers) ++ (handler_at c.more.at.0 (catch_in c.in_ok-catch.catch) (map stm_of c.in_ok-block.block) ∷ []))
    (goes_on (goes_on (then_on c.more.invariant.carries (narrow_carries (handler_opens c.args.line.0 (map stm_of c.args.body) c.more.at.0 (map handler_in c.more.handlers) _)))
    (handler_catch c.args.line.0 (map stm_of c.args.body) c.requires c.more.at.0 (map handler_in c.more.handlers) c.more.invariant.each) c.in_ok-catch.ensures)
    (handler_block c.args.line.0 (map stm_of c.args.body) c.requires c.more.at.0 (map handler_in c.more.handlers) (catch_in c.in_ok-catch.catch) c.more.invariant.each c.in_ok-catch.ensures.fits) c.in_ok-block.ensures)
    (sym c.names_class-names_class.ensures ∙ c.if-not-names_class.true))
    (rw (c.in_ok-push.ensures.ok, map-append, c.handler.ensures, c.more.invariant.same) at c.closing.ensures)

pub handlers-returns-then-not-take : goal.handlers-returns-then-not-take
handlers-returns-then-not-take t c = carried_all stm_of _ _
    (closing_carries c.args.line.0 (map stm_of c.args.body) (is_given (catch_in c.in_ok-catch.catch).class) ((map handler_in c.more.handlers) ++ (handler_at c.more.at.0 (catch_in c.in_ok-catch.catch) (map stm_of c.in_ok-block.block) ∷ []))
    (goes_on (goes_on (then_on c.more.invariant.carries (narrow_carries (handler_opens c.args.line.0 (map stm_of c.args.body) c.more.at.0 (map handler_in c.more.handlers) _)))
    (handler_catch c.args.line.0 (map stm_of c.args.body) c.requires c.more.at.0 (map handler_in c.more.handlers) c.more.invariant.each) c.in_ok-catch.ensures)
    (handler_block c.args.line.0 (map stm_of c.args.body) c.requires c.more.at.0 (map handler_in c.more.handlers) (catch_in c.in_ok-catch.catch) c.more.invariant.each c.in_ok-catch.ensures.fits) c.in_ok-block.ensures)
    (c.take.ensures.none (grind arith)))
    (rw (c.in_ok-push.ensures.ok, map-append, c.handler.ensures, c.more.invariant.same) at c.closing-then-not-take.ensures)

pub handlers-more-preserved : goal.handlers-more-preserved
handlers-more-preserved t c = let n = c.take.ensures.found (grind arith) in rw (c.in_ok-push.ensures.ok, map-append, c.handler.ensures) record {
  shorter = omega (arith, found_shorter c.in_ok-catch.ensures, found_shorter c.in_ok-block.ensures, ap length n.1, some_more _ (sign_next _ n.0), c.more.invariant.shorter);
  same = c.more.invariant.same;
  each = each_snoc FitsHandler (map handler_in c.more.handlers) (handler_at c.more.at.0 (catch_in c.in_ok-catch.catch) (map stm_of c.in_ok-block.block)) c.more.invariant.each (c.in_ok-catch.ensures.fits, c.in_ok-block.ensures.fits);
  carries = rw c.line-at.ensures (shift_on
      (goes_on (goes_on (then_on c.more.invariant.carries (narrow_carries (handler_opens c.args.line.0 (map stm_of c.args.body) c.more.at.0 (map handler_in c.more.handlers) _)))
      (handler_catch c.args.line.0 (map stm_of c.args.body) c.requires c.more.at.0 (map handler_in c.more.handlers) c.more.invariant.each) c.in_ok-catch.ensures)
      (handler_block c.args.line.0 (map stm_of c.args.body) c.requires c.more.at.0 (map handler_in c.more.handlers) (catch_in c.in_ok-catch.catch) c.more.invariant.each c.in_ok-catch.ensures.fits) c.in_ok-block.ensures)
      (handler_shifts c.args.line.0 _ (map stm_of c.args.body) (is_given (catch_in c.in_ok-catch.catch).class) ((map handler_in c.more.handlers) ++ (handler_at c.more.at.0 (catch_in c.in_ok-catch.catch) (map stm_of c.in_ok-block.block) ∷ []))
      (sym c.names_class-names_class.ensures ∙ c.if-not-names_class.false)) (sign_next _ n.0) n.1);
}

pub attempt-returns-in_err-body : goal.attempt-returns-in_err-body
attempt-returns-in_err-body t c = fails_at _ _ _ _ _ _ c.from_residual.ensures.1 carries_all (try_body c.args.line.0) c.in_err-body.ensures

pub attempt-returns-in_err-finally : goal.attempt-returns-in_err-finally
attempt-returns-in_err-finally t c = let n = c.take.ensures.found c.if-take.true in fails_at _ _ _ _ _ _ c.from_residual-in_err-finally.ensures.1
    (shift_on (goes_on carries_all (try_body c.args.line.0) c.in_ok-body.ensures) (last_shifts c.args.line.0 _ (map stm_of c.in_ok-body.body)) (sign_next _ n.0) n.1)
    (last_block c.args.line.0 (map stm_of c.in_ok-body.body) c.in_ok-body.ensures.fits) c.in_err-finally.ensures

pub attempt-returns-then-take : goal.attempt-returns-then-take
attempt-returns-then-take t c = let n = c.take.ensures.found c.if-take.true in rw (c.attempt.ensures, c.new-handlers.ensures, c.new-otherwise.ensures)
    ((goes_on (shift_on (goes_on carries_all (try_body c.args.line.0) c.in_ok-body.ensures) (last_shifts c.args.line.0 _ (map stm_of c.in_ok-body.body)) (sign_next _ n.0) n.1)
    (last_block c.args.line.0 (map stm_of c.in_ok-body.body) c.in_ok-body.ensures.fits) c.in_ok-finally.ensures).found _ _
    (is_found a_compound _ _ c.in_ok-finally.ensures.stops (c.in_ok-body.ensures.fits, tt, tt, c.in_ok-finally.ensures.fits)))

pub attempt-returns-then-not-take : goal.attempt-returns-then-not-take
attempt-returns-then-not-take t c = let m = c.take.ensures.none c.if-take.false in let n = c.take-2.ensures.none c.if-not-take.true in
    rw (n.1, m.1) ((goes_on carries_all (try_body c.args.line.0) c.in_ok-body.ensures).refused false _
    (tried_bad c.args.line.0 (map stm_of c.in_ok-body.body) _ c.in_ok-body.ensures.fits m.0 (rw m.1 at n.0)))

pub attempt-returns : goal.attempt-returns
attempt-returns t c = let m = c.take.ensures.none c.if-take.false in let n = rw m.1 at (c.take-2.ensures.found c.if-not-take.false) in carried_all stm_of _ _
    (shift_on (goes_on carries_all (try_body c.args.line.0) c.in_ok-body.ensures) (first_handler c.args.line.0 _ (map stm_of c.in_ok-body.body)) (sign_next _ n.0) n.1)
    (rw (c.line-first.ensures, m.1) at c.handlers.ensures)
