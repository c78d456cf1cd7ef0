use Rattle.std.proofs.Common.{◌≡◌, ◌∙◌, ◌+◌, ◌∷◌, ap, arith, drop, refl, sym, false}
use Rattle.pt_tree.proofs.StatementFolds as tree
use Rattle.pt_tree.specs.Fold as E
use Rattle.pt_tree.specs.StatementFold as T
use Rattle.pt_tree.specs.Syntax as P
use Rattle.pt_wide.proofs.StatementFolds as wide
use Rattle.pt_wide.specs.Fold as V
use Rattle.pt_wide.specs.declared.statement.WideBranch.{out-WideBranch}
use Rattle.pt_wide.specs.declared.statement.WideHandler.{out-WideHandler}
use Rattle.pt_wide.specs.StatementFold.{branch_of, decorators_of, handler_of, stm_of, stms_of}
use Rattle.pt_wide.specs.Syntax as W
use Rattle.pt_refine_expr.specs.Narrow.{narrow_exp, narrow_opt, narrow_params}
use Rattle.pt_refine_expr.specs.Narrowed.{wide_args}
use Rattle.pt_refine_expr.specs.StatementBlocks.{blocks_branches, blocks_decorators, blocks_handlers, blocks_stm, blocks_stms}
use Rattle.pt_refine_expr.specs.StatementNarrow.{narrow_base, narrow_branches, narrow_handlers, narrow_stm, narrow_stms}
use Rattle.pt_refine.specs.StatementsNarrowed.{narrow_assignment, narrow_classed, narrow_defined, narrow_guarded, narrow_iterated, narrow_repeated, narrow_tried, wide_branches, wide_handlers}
use Rattle.pt_refine_expr.proofs.Building.{leaves, same-narrow, both-is, left-at, left-none, made-four, made-is, made-three, made-two, put-is, put-three, walk-end, walk-step}
use Rattle.pt_refine.proofs.OwnStatements.{assign-own, class-own, def-own, for-own, try-own, while-own, with-own}
use Rattle.pt_refine.proofs.OtherStatements.{classed-other, defined-other, guarded-other, iterated-other, repeated-other, statement-other, tried-other}
use Rattle.pt_refine.proofs.StatementBuilding.{at-made-stm, branch-made, handler-made, made-class, made-def, stms-chained}
use Rattle.pt_refine.proofs.block_trees.+blocks.Goals as goal

pub statement-returns-in-If : goal.statement-returns-in-If
statement-returns-in-If t c = c.conditional.ensures

pub statement-returns-in-While : goal.statement-returns-in-While
statement-returns-in-While t c = same-narrow T.stm_of c.repeated.result (narrow_repeated c.args.n.now (stm_of c.args.s.now)) (narrow_stm c.args.n.now (stm_of c.args.s.now)) c.args.n.now (blocks_stm (stm_of c.args.s.now)) c.repeated.new.n (while-own c.args.n.now _ (wide.stm_of-While c.args.s.now _ _ _ c.in-While.is)) c.repeated.ensures

pub statement-returns-in-For : goal.statement-returns-in-For
statement-returns-in-For t c = same-narrow T.stm_of c.iterated.result (narrow_iterated c.args.n.now (stm_of c.args.s.now)) (narrow_stm c.args.n.now (stm_of c.args.s.now)) c.args.n.now (blocks_stm (stm_of c.args.s.now)) c.iterated.new.n (for-own c.args.n.now _ (wide.stm_of-For c.args.s.now _ _ _ _ c.in-For.is)) c.iterated.ensures

pub statement-returns-in-Try : goal.statement-returns-in-Try
statement-returns-in-Try t c = same-narrow T.stm_of c.tried.result (narrow_tried c.args.n.now (stm_of c.args.s.now)) (narrow_stm c.args.n.now (stm_of c.args.s.now)) c.args.n.now (blocks_stm (stm_of c.args.s.now)) c.tried.new.n (try-own c.args.n.now _ (wide.stm_of-Try c.args.s.now _ _ _ _ c.in-Try.is)) c.tried.ensures

pub statement-returns-in-With : goal.statement-returns-in-With
statement-returns-in-With t c = same-narrow T.stm_of c.guarded.result (narrow_guarded c.args.n.now (stm_of c.args.s.now)) (narrow_stm c.args.n.now (stm_of c.args.s.now)) c.args.n.now (blocks_stm (stm_of c.args.s.now)) c.guarded.new.n (with-own c.args.n.now _ (wide.stm_of-With c.args.s.now _ _ c.in-With.is)) c.guarded.ensures

pub statement-returns-in-Def : goal.statement-returns-in-Def
statement-returns-in-Def t c = same-narrow T.stm_of c.defined.result (narrow_defined c.args.n.now (stm_of c.args.s.now)) (narrow_stm c.args.n.now (stm_of c.args.s.now)) c.args.n.now (blocks_stm (stm_of c.args.s.now)) c.defined.new.n (def-own c.args.n.now _ (wide.stm_of-Def c.args.s.now _ _ _ _ _ _ c.in-Def.is)) c.defined.ensures

pub statement-returns-in-Class : goal.statement-returns-in-Class
statement-returns-in-Class t c = same-narrow T.stm_of c.classed.result (narrow_classed c.args.n.now (stm_of c.args.s.now)) (narrow_stm c.args.n.now (stm_of c.args.s.now)) c.args.n.now (blocks_stm (stm_of c.args.s.now)) c.classed.new.n (class-own c.args.n.now _ (wide.stm_of-Class c.args.s.now _ _ _ _ _ _ c.in-Class.is)) c.classed.ensures

pub statement-returns-in-Assign : goal.statement-returns-in-Assign
statement-returns-in-Assign t c = same-narrow T.stm_of c.assignment.result (narrow_assignment c.args.n.now (stm_of c.args.s.now)) (narrow_stm c.args.n.now (stm_of c.args.s.now)) c.args.n.now (blocks_stm (stm_of c.args.s.now)) c.assignment.new.n (assign-own c.args.n.now _ (wide.stm_of-Assign c.args.s.now _ _ c.in-Assign.is)) c.assignment.ensures

pub statement-returns-in_default : goal.statement-returns-in_default
statement-returns-in_default t c = c.conditional-in_default.ensures

pub conditional-returns-in_ok-otherwise-in-If : goal.conditional-returns-in_ok-otherwise-in-If
conditional-returns-in_ok-otherwise-in-If t c = at-made-stm (narrow_stm c.args.n.now) (wide.stm_of-If c.args.s.now _ _ (c.in-If.is ∙ rw (c.as_slice.ensures, c.as_slice-in-If.ensures))) (made-is refl (tree.stm_of-If _ _ _ refl) refl (made-two (P.choice c.args.s.now.line.0) (λ m. narrow_stms m (stms_of c.as_slice-in-If.result.now)) c.in_ok-branches-in-If.ensures c.in_ok-otherwise-in-If.ensures))

pub repeated-returns-in_ok-otherwise-in-While : goal.repeated-returns-in_ok-otherwise-in-While
repeated-returns-in_ok-otherwise-in-While t c = at-made-stm (narrow_repeated c.args.n.now) (wide.stm_of-While c.args.s.now _ _ _ (c.in-While.is ∙ rw (c.as_slice.ensures, c.as_slice-in-While.ensures))) (made-is refl c.while_of.ensures refl (made-three (P.while c.args.s.now.line.0) (λ m. narrow_stms m (stms_of c.as_slice.result.now)) (λ m. narrow_stms m (stms_of c.as_slice-in-While.result.now)) c.in_ok-test-in-While.ensures c.in_ok-body-in-While.ensures c.in_ok-otherwise-in-While.ensures))

pub iterated-returns-in_ok-otherwise-in-For : goal.iterated-returns-in_ok-otherwise-in-For
iterated-returns-in_ok-otherwise-in-For t c = at-made-stm (narrow_iterated c.args.n.now) (wide.stm_of-For c.args.s.now _ _ _ _ (c.in-For.is ∙ rw (c.as_slice.ensures, c.as_slice-in-For.ensures))) (made-is refl c.for_of.ensures refl (made-four (P.for c.args.s.now.line.0) (λ m. narrow_exp m (V.exp_of c.in-For.iterable)) (λ m. narrow_stms m (stms_of c.as_slice.result.now)) (λ m. narrow_stms m (stms_of c.as_slice-in-For.result.now)) c.in_ok-target-in-For.ensures c.in_ok-iterable-in-For.ensures c.in_ok-body-in-For.ensures c.in_ok-otherwise-in-For.ensures))

pub tried-returns-in_ok-finally-in-Try : goal.tried-returns-in_ok-finally-in-Try
tried-returns-in_ok-finally-in-Try t c = at-made-stm (narrow_tried c.args.n.now) (wide.stm_of-Try c.args.s.now _ _ _ _ (c.in-Try.is ∙ rw (c.as_slice.ensures, c.as_slice-in-Try.ensures, c.as_slice-in-Try-2.ensures, c.as_slice-in-Try-3.ensures))) (made-is refl (tree.stm_of-Try _ _ _ _ _ refl) refl (made-four (P.try c.args.s.now.line.0) (λ m. narrow_handlers m (wide_handlers c.as_slice-in-Try.result.now)) (λ m. narrow_stms m (stms_of c.as_slice-in-Try-2.result.now)) (λ m. narrow_stms m (stms_of c.as_slice-in-Try-3.result.now)) c.in_ok-body-in-Try.ensures c.in_ok-handlers-in-Try.ensures c.in_ok-otherwise-in-Try.ensures c.in_ok-finally-in-Try.ensures))

pub guarded-returns-in_ok-body-in-With : goal.guarded-returns-in_ok-body-in-With
guarded-returns-in_ok-body-in-With t c = at-made-stm (narrow_guarded c.args.n.now) (wide.stm_of-With c.args.s.now _ _ (c.in-With.is ∙ rw (c.as_slice.ensures, c.as_slice-in-With.ensures))) (made-is refl (tree.stm_of-With _ _ _ refl) refl (made-two (P.with c.args.s.now.line.0) (λ m. narrow_stms m (stms_of c.as_slice-in-With.result.now)) c.in_ok-items-in-With.ensures c.in_ok-body-in-With.ensures))

pub defined-returns-in_ok-name-in-Def : goal.defined-returns-in_ok-name-in-Def
defined-returns-in_ok-name-in-Def t c =
    let n = c.args.n.now in
    let line = c.args.s.now.line.0 in
    let at = c.in-Def.def_line.0 in
    let marks = decorators_of c.as_slice.result.now in
    let made = T.decorators_of c.in_ok-decorators-in-Def.decorators in
    let names = V.parameters_of c.in-Def.names in
    let parameters = E.parameters_of c.in_ok-parameters-in-Def.parameters in
    let returns = E.opt_exp c.in_ok-returns-in-Def.returns in
    let body = T.stms_of c.in_ok-body-in-Def.body in
    at-made-stm (narrow_defined c.args.n.now) (wide.stm_of-Def c.args.s.now c.as_slice.result.now c.in-Def.def_line c.in-Def.name c.in-Def.names c.in-Def.returns c.as_slice-in-Def.result.now (c.in-Def.is ∙ rw (c.as_slice.ensures, c.as_slice-in-Def.ensures)))
    (made-is refl (c.def_of.ensures ∙ ap (λ b. P.def line made at b c.in_ok-name-in-Def.name parameters returns body) (c.in_ok-block-in-Def.ensures.number ∙ c.in_ok-decorators-in-Def.ensures.after) ∙ ap (λ x. P.def line made at (n + blocks_decorators marks) x parameters returns body) c.in_ok-name-in-Def.ensures) refl
    (made-def (λ ds ps r ss. P.def line ds at (n + blocks_decorators marks) c.in-Def.name ps r ss) (λ m. narrow_params m names) (λ m. narrow_opt m (V.opt_exp c.in-Def.returns)) (λ m. narrow_stms m (stms_of c.as_slice-in-Def.result.now)) c.in_ok-decorators-in-Def.ensures c.in_ok-block-in-Def.ensures.started c.in_ok-parameters-in-Def.ensures c.in_ok-returns-in-Def.ensures c.in_ok-body-in-Def.ensures))

pub classed-returns-in_ok-name-in-Class : goal.classed-returns-in_ok-name-in-Class
classed-returns-in_ok-name-in-Class t c =
    let n = c.args.n.now in
    let line = c.args.s.now.line.0 in
    let at = c.in-Class.class_line.0 in
    let marks = decorators_of c.as_slice.result.now in
    let made = T.decorators_of c.in_ok-decorators-in-Class.decorators in
    let base = E.opt_exp c.in_ok-base-in-Class.base in
    let body = T.stms_of c.in_ok-body-in-Class.body in
    at-made-stm (narrow_classed c.args.n.now) (wide.stm_of-Class c.args.s.now c.as_slice.result.now c.in-Class.class_line c.in-Class.name c.as_slice-in-Class.result.now c.in-Class.trailing_comma c.as_slice-in-Class-2.result.now (c.in-Class.is ∙ rw (c.as_slice.ensures, c.as_slice-in-Class.ensures, c.as_slice-in-Class-2.ensures)))
    (made-is refl (tree.stm_of-Class _ _ _ _ _ _ _ refl ∙ ap (λ b. P.class line made at b c.in_ok-name-in-Class.name base body) (c.in_ok-block-in-Class.ensures.number ∙ c.in_ok-decorators-in-Class.ensures.after) ∙ ap (λ x. P.class line made at (n + blocks_decorators marks) x base body) c.in_ok-name-in-Class.ensures) refl
    (made-class (λ ds e ss. P.class line ds at (n + blocks_decorators marks) c.in-Class.name e ss) (λ m. narrow_base m (wide_args c.as_slice-in-Class.result.now) c.in-Class.trailing_comma) (λ m. narrow_stms m (stms_of c.as_slice-in-Class-2.result.now)) c.in_ok-decorators-in-Class.ensures c.in_ok-block-in-Class.ensures.started c.in_ok-base-in-Class.ensures c.in_ok-body-in-Class.ensures))

pub statements-loop-one-preserved : goal.statements-loop-one-preserved
statements-loop-one-preserved t c =
    let left : drop c.loop-one.one-index c.args.block.now ≡ c.one-item.result ∷ drop (c.loop-one.one-index + 1) c.args.block.now = left-at c.args.block.now c.loop-one.one-index c.one-item.result c.loop-one-test.true c.one-item.is in
    walk-step _ c.loop-one.invariant c.in_ok-push.ensures.ok
    (ap (λ ss. narrow_stms c.loop-one.n (stms_of ss)) left ∙ both-is P.more (λ m. narrow_stms m (stms_of (drop (c.loop-one.one-index + 1) c.args.block.now))) c.in_ok-one.ensures)
    (ap (λ ss. c.loop-one.n + blocks_stms (stms_of ss)) left ∙ omega (arith, (c.in_ok-one.ensures).after))

pub statements-returns : goal.statements-returns
statements-returns t c = made-is refl (sym (stms-chained c.loop-one.made)) refl (walk-end P.none c.loop-one.invariant (left-none (λ ss. narrow_stms c.loop-one.n (stms_of ss)) c.args.block.now c.loop-one.one-index c.loop-one-test.false) (left-none (λ ss. blocks_stms (stms_of ss)) c.args.block.now c.loop-one.one-index c.loop-one-test.false))

pub branches-loop-one-preserved : goal.branches-loop-one-preserved
branches-loop-one-preserved t c =
    let left : drop c.loop-one.one-index c.args.tests.now ≡ c.one-item.result ∷ drop (c.loop-one.one-index + 1) c.args.tests.now = left-at c.args.tests.now c.loop-one.one-index c.one-item.result c.loop-one-test.true c.one-item.is in
    walk-step c.in_ok-one.one c.loop-one.invariant c.in_ok-push.ensures.ok
    (ap (λ bs. narrow_branches c.loop-one.n (wide_branches bs)) left ∙ (c.in_ok-one.ensures).is (wide_branches (drop (c.loop-one.one-index + 1) c.args.tests.now)))
    (ap (λ bs. c.loop-one.n + blocks_branches (wide_branches bs)) left ∙ (c.in_ok-one.ensures).after (wide_branches (drop (c.loop-one.one-index + 1) c.args.tests.now)))

pub handlers-loop-one-preserved : goal.handlers-loop-one-preserved
handlers-loop-one-preserved t c =
    let left : drop c.loop-one.one-index c.args.clauses.now ≡ c.one-item.result ∷ drop (c.loop-one.one-index + 1) c.args.clauses.now = left-at c.args.clauses.now c.loop-one.one-index c.one-item.result c.loop-one-test.true c.one-item.is in
    walk-step c.in_ok-one.one c.loop-one.invariant c.in_ok-push.ensures.ok
    (ap (λ hs. narrow_handlers c.loop-one.n (wide_handlers hs)) left ∙ (c.in_ok-one.ensures).is (wide_handlers (drop (c.loop-one.one-index + 1) c.args.clauses.now)))
    (ap (λ hs. c.loop-one.n + blocks_handlers (wide_handlers hs)) left ∙ (c.in_ok-one.ensures).after (wide_handlers (drop (c.loop-one.one-index + 1) c.args.clauses.now)))

pub branch-returns : goal.branch-returns
branch-returns t c =
    let one = out-WideBranch c.args.one.now in
    let body = stms_of c.as_slice.result.now in
    let parts : (r : W.Branches) → branch_of c.args.one.now r ≡ W.branch one.line.0 (V.exp_of one.test) body r = λ r. wide.branch_of-parts c.args.one.now r ∙ ap (λ ss. W.branch one.line.0 (V.exp_of one.test) (stms_of ss) r) (sym c.as_slice.ensures) in
    put-is (λ r. ap (narrow_branches c.args.n.now) (parts r)) (λ r. branch-made one.line c.in_ok-test.test c.in_ok-body.body r) (λ r. ap blocks_branches (parts r)) (put-three (P.branch one.line.0) (λ m. narrow_stms m body) narrow_branches blocks_branches c.in_ok-test.ensures c.in_ok-body.ensures)

pub handler-returns : goal.handler-returns
handler-returns t c =
    let one = out-WideHandler c.args.one.now in
    let class = V.opt_exp one.class in
    let body = stms_of c.as_slice.result.now in
    let parts : (r : W.Handlers) → handler_of c.args.one.now r ≡ W.handler one.line.0 false class one.name body r = λ r. wide.handler_of-parts c.args.one.now r ∙ ap (λ b. W.handler one.line.0 b class one.name (stms_of one.body) r) c.in_ok-without_star.ensures ∙ ap (λ ss. W.handler one.line.0 false class one.name (stms_of ss) r) (sym c.as_slice.ensures) in
    put-is (λ r. ap (narrow_handlers c.args.n.now) (parts r)) (λ r. handler-made one.line c.in_ok-class.class c.in_ok-name.name c.in_ok-body.body r ∙ ap (λ x. P.handler one.line.0 (E.opt_exp c.in_ok-class.class) x (T.stms_of c.in_ok-body.body) r) c.in_ok-name.ensures) (λ r. ap blocks_handlers (parts r)) (put-three (λ d ss r. P.handler one.line.0 d one.name ss r) (λ m. narrow_stms m body) narrow_handlers blocks_handlers c.in_ok-class.ensures c.in_ok-body.ensures)

pub conditional-returns-in_err-branches-in-If : goal.conditional-returns-in_err-branches-in-If
conditional-returns-in_err-branches-in-If t c = grind (arith, leaves, wide.stm_of-If c.args.s.now _ _ c.in-If.is)

pub conditional-returns-in_err-otherwise-in-If : goal.conditional-returns-in_err-otherwise-in-If
conditional-returns-in_err-otherwise-in-If t c = grind (arith, leaves, wide.stm_of-If c.args.s.now _ _ c.in-If.is)

pub conditional-returns-in_default : goal.conditional-returns-in_default
conditional-returns-in_default t c = same-narrow T.stm_of c.repeated.result (narrow_repeated c.args.n.now (stm_of c.args.s.now)) (narrow_stm c.args.n.now (stm_of c.args.s.now)) c.args.n.now (blocks_stm (stm_of c.args.s.now)) c.repeated.new.n (statement-other c.args.n.now c.args.s.now (c.in_default.not-If)) c.repeated.ensures

pub repeated-returns-in_err-test-in-While : goal.repeated-returns-in_err-test-in-While
repeated-returns-in_err-test-in-While t c = grind (arith, leaves, wide.stm_of-While c.args.s.now _ _ _ c.in-While.is)

pub repeated-returns-in_err-body-in-While : goal.repeated-returns-in_err-body-in-While
repeated-returns-in_err-body-in-While t c = grind (arith, leaves, wide.stm_of-While c.args.s.now _ _ _ c.in-While.is)

pub repeated-returns-in_err-otherwise-in-While : goal.repeated-returns-in_err-otherwise-in-While
repeated-returns-in_err-otherwise-in-While t c = grind (arith, leaves, wide.stm_of-While c.args.s.now _ _ _ c.in-While.is)

pub repeated-returns-in_default : goal.repeated-returns-in_default
repeated-returns-in_default t c = same-narrow T.stm_of c.iterated.result (narrow_iterated c.args.n.now (stm_of c.args.s.now)) (narrow_repeated c.args.n.now (stm_of c.args.s.now)) c.args.n.now (blocks_stm (stm_of c.args.s.now)) c.iterated.new.n (repeated-other c.args.n.now c.args.s.now (c.in_default.not-While)) c.iterated.ensures

pub iterated-returns-in_err-target-in-For : goal.iterated-returns-in_err-target-in-For
iterated-returns-in_err-target-in-For t c = grind (arith, leaves, wide.stm_of-For c.args.s.now _ _ _ _ c.in-For.is)

pub iterated-returns-in_err-iterable-in-For : goal.iterated-returns-in_err-iterable-in-For
iterated-returns-in_err-iterable-in-For t c = grind (arith, leaves, wide.stm_of-For c.args.s.now _ _ _ _ c.in-For.is)

pub iterated-returns-in_err-body-in-For : goal.iterated-returns-in_err-body-in-For
iterated-returns-in_err-body-in-For t c = grind (arith, leaves, wide.stm_of-For c.args.s.now _ _ _ _ c.in-For.is)

pub iterated-returns-in_err-otherwise-in-For : goal.iterated-returns-in_err-otherwise-in-For
iterated-returns-in_err-otherwise-in-For t c = grind (arith, leaves, wide.stm_of-For c.args.s.now _ _ _ _ c.in-For.is)

pub iterated-returns-in_default : goal.iterated-returns-in_default
iterated-returns-in_default t c = same-narrow T.stm_of c.tried.result (narrow_tried c.args.n.now (stm_of c.args.s.now)) (narrow_iterated c.args.n.now (stm_of c.args.s.now)) c.args.n.now (blocks_stm (stm_of c.args.s.now)) c.tried.new.n (iterated-other c.args.n.now c.args.s.now (c.in_default.not-For)) c.tried.ensures

pub tried-returns-in_err-body-in-Try : goal.tried-returns-in_err-body-in-Try
tried-returns-in_err-body-in-Try t c = grind (arith, leaves, wide.stm_of-Try c.args.s.now _ _ _ _ c.in-Try.is)

pub tried-returns-in_err-handlers-in-Try : goal.tried-returns-in_err-handlers-in-Try
tried-returns-in_err-handlers-in-Try t c = grind (arith, leaves, wide.stm_of-Try c.args.s.now _ _ _ _ c.in-Try.is)

pub tried-returns-in_err-otherwise-in-Try : goal.tried-returns-in_err-otherwise-in-Try
tried-returns-in_err-otherwise-in-Try t c = grind (arith, leaves, wide.stm_of-Try c.args.s.now _ _ _ _ c.in-Try.is)

pub tried-returns-in_err-finally-in-Try : goal.tried-returns-in_err-finally-in-Try
tried-returns-in_err-finally-in-Try t c = grind (arith, leaves, wide.stm_of-Try c.args.s.now _ _ _ _ c.in-Try.is)

pub tried-returns-in_default : goal.tried-returns-in_default
tried-returns-in_default t c = same-narrow T.stm_of c.guarded.result (narrow_guarded c.args.n.now (stm_of c.args.s.now)) (narrow_tried c.args.n.now (stm_of c.args.s.now)) c.args.n.now (blocks_stm (stm_of c.args.s.now)) c.guarded.new.n (tried-other c.args.n.now c.args.s.now (c.in_default.not-Try)) c.guarded.ensures

pub guarded-returns-in_err-items-in-With : goal.guarded-returns-in_err-items-in-With
guarded-returns-in_err-items-in-With t c = grind (arith, leaves, wide.stm_of-With c.args.s.now _ _ c.in-With.is)

pub guarded-returns-in_err-body-in-With : goal.guarded-returns-in_err-body-in-With
guarded-returns-in_err-body-in-With t c = grind (arith, leaves, wide.stm_of-With c.args.s.now _ _ c.in-With.is)

pub guarded-returns-in_default : goal.guarded-returns-in_default
guarded-returns-in_default t c = same-narrow T.stm_of c.defined.result (narrow_defined c.args.n.now (stm_of c.args.s.now)) (narrow_guarded c.args.n.now (stm_of c.args.s.now)) c.args.n.now (blocks_stm (stm_of c.args.s.now)) c.defined.new.n (guarded-other c.args.n.now c.args.s.now (c.in_default.not-With)) c.defined.ensures

pub defined-returns-in_err-decorators-in-Def : goal.defined-returns-in_err-decorators-in-Def
defined-returns-in_err-decorators-in-Def t c = grind (arith, leaves, wide.stm_of-Def c.args.s.now _ _ _ _ _ _ c.in-Def.is)

pub defined-returns-in_err-parameters-in-Def : goal.defined-returns-in_err-parameters-in-Def
defined-returns-in_err-parameters-in-Def t c = grind (arith, leaves, wide.stm_of-Def c.args.s.now _ _ _ _ _ _ c.in-Def.is)

pub defined-returns-in_err-returns-in-Def : goal.defined-returns-in_err-returns-in-Def
defined-returns-in_err-returns-in-Def t c = grind (arith, leaves, wide.stm_of-Def c.args.s.now _ _ _ _ _ _ c.in-Def.is)

pub defined-returns-in_err-body-in-Def : goal.defined-returns-in_err-body-in-Def
defined-returns-in_err-body-in-Def t c = grind (arith, leaves, wide.stm_of-Def c.args.s.now _ _ _ _ _ _ c.in-Def.is)

pub defined-returns-in_default : goal.defined-returns-in_default
defined-returns-in_default t c = same-narrow T.stm_of c.classed.result (narrow_classed c.args.n.now (stm_of c.args.s.now)) (narrow_defined c.args.n.now (stm_of c.args.s.now)) c.args.n.now (blocks_stm (stm_of c.args.s.now)) c.classed.new.n (defined-other c.args.n.now c.args.s.now (c.in_default.not-Def)) c.classed.ensures

pub classed-returns-in_err-decorators-in-Class : goal.classed-returns-in_err-decorators-in-Class
classed-returns-in_err-decorators-in-Class t c = grind (arith, leaves, wide.stm_of-Class c.args.s.now _ _ _ _ _ _ c.in-Class.is)

pub classed-returns-in_err-base-in-Class : goal.classed-returns-in_err-base-in-Class
classed-returns-in_err-base-in-Class t c = grind (arith, leaves, wide.stm_of-Class c.args.s.now _ _ _ _ _ _ c.in-Class.is)

pub classed-returns-in_err-body-in-Class : goal.classed-returns-in_err-body-in-Class
classed-returns-in_err-body-in-Class t c = grind (arith, leaves, wide.stm_of-Class c.args.s.now _ _ _ _ _ _ c.in-Class.is)

pub classed-returns-in_default : goal.classed-returns-in_default
classed-returns-in_default t c = same-narrow T.stm_of c.assignment.result (narrow_assignment c.args.n.now (stm_of c.args.s.now)) (narrow_classed c.args.n.now (stm_of c.args.s.now)) c.args.n.now (blocks_stm (stm_of c.args.s.now)) c.assignment.new.n (classed-other c.args.n.now c.args.s.now (c.in_default.not-Class)) c.assignment.ensures

pub branch-returns-in_err-test : goal.branch-returns-in_err-test
branch-returns-in_err-test t c = grind (arith, leaves, wide.branch_of-parts c.args.one.now)

pub branch-returns-in_err-body : goal.branch-returns-in_err-body
branch-returns-in_err-body t c = grind (arith, leaves, wide.branch_of-parts c.args.one.now)

pub handler-returns-in_err-without_star : goal.handler-returns-in_err-without_star
handler-returns-in_err-without_star t c = grind (arith, leaves, wide.handler_of-parts c.args.one.now)

pub handler-returns-in_err-class : goal.handler-returns-in_err-class
handler-returns-in_err-class t c = grind (arith, leaves, wide.handler_of-parts c.args.one.now)

pub handler-returns-in_err-body : goal.handler-returns-in_err-body
handler-returns-in_err-body t c = grind (arith, leaves, wide.handler_of-parts c.args.one.now)
