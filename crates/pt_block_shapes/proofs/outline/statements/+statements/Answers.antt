use Rattle.std.proofs.Common.{◌≡◌, ◌∙◌, List, Option, true, false, arith, ap, refl, sym}
use Rattle.std.proofs.lemmas.Grind.{common_steps}
use Rattle.pt_block_shapes.proofs.outline.BodyLemmas.{behind-six, behind-three, body-none, body-told}
use Rattle.pt_block_shapes.proofs.outliner.Steps.{behind-both, behind-inside, behind-nothing, behind-unevaluated, decorators-counted, first-told, items-counted, put}
use Rattle.pt_block_shapes.specs.outliner.Outline.{Outline, a_block, acts, behind, beginning, inside, numbered, unevaluated}
use Rattle.pt_block_shapes.specs.outliner.Parts.{item_count, outline_body, outline_decorators, outline_exp, outline_items, outline_opt, outline_params, outline_place, outline_stm, outline_stms, shape}
use Rattle.pt_tree.proofs.StatementFolds.{branch_of-parts, handler_of-parts, stm_of-Annotated, stm_of-Class, stm_of-Def, stm_of-With}
use Rattle.pt_tree.specs.declared.expression.Expr.{Expr}
use Rattle.pt_tree.specs.declared.statement.Decorator.{Decorator}
use Rattle.pt_tree.specs.declared.statement.WithItem.{WithItem}
use Rattle.pt_tree.specs.Fold.{exp_of, opt_exp, parameters_of, place_of}
use Rattle.pt_tree.specs.Sizes.{decorator_calls}
use Rattle.pt_tree.specs.StatementFold.{decorators_of, items_of, stms_of}
use Rattle.pt_tree.specs.Syntax as S
use Rattle.pt_tree.specs.Syntax.{Stm}
use Rattle.pt_block_shapes.proofs.outline.statements.+statements.Goals as goal

pub statements-loop-s-preserved : goal.statements-loop-s-preserved
statements-loop-s-preserved t c = grind (arith, common_steps, behind-both)

pub statements-returns : goal.statements-returns
statements-returns t c = grind (arith, common_steps, behind-nothing)

pub branches-loop-branch-preserved : goal.branches-loop-branch-preserved
branches-loop-branch-preserved t c = grind (arith, common_steps, behind-both, branch_of-parts c.branch-item.result)

pub branches-returns : goal.branches-returns
branches-returns t c = grind (arith, common_steps, behind-nothing)

pub handlers-loop-handler-preserved : goal.handlers-loop-handler-preserved
handlers-loop-handler-preserved t c = grind (arith, common_steps, behind-both, handler_of-parts c.handler-item.result)

pub handlers-returns : goal.handlers-returns
handlers-returns t c = grind (arith, common_steps, behind-nothing)

pub function-returns-in-None : goal.function-returns-in-None
function-returns-in-None t c = body-none c.args.o.now c.args.class.now c.args.body.now c.in-None.ensures.value

pub function-returns-then-is_docstring : goal.function-returns-then-is_docstring
function-returns-then-is_docstring t c =
    put c.statements.result c.statements.new.o _ _ c.statements.ensures
    (body-told c.args.o.now c.args.class.now c.args.body.now c.in-Some.first.now c.in-Some.ensures.value (sym c.if-is_docstring.true ∙ c.is_docstring.ensures))

pub statement-returns-in_ok-place-in-Some : goal.statement-returns-in_ok-place-in-Some
statement-returns-in_ok-place-in-Some t c =
    let o = c.args.o.now in
    let k = c.args.class.now in
    let value = outline_exp true k (exp_of c.in-Some.value) in
    let target = outline_place true k (place_of c.in-Annotated.target) in
    let first : c.expression-in-Some.new.o ≡ behind (beginning o.act) value =
    c.in_ok-expression-in-Some.ensures ∙ ap (λ (p : Outline). behind p value) (c.aside-first-in-Some.ensures ∙ ap beginning c.act-in-Some.ensures) in
    let bound : c.place-in-Some.new.o ≡ behind (numbered o c.act-in-Some-2.result) target =
    c.in_ok-place-in-Some.ensures ∙ ap (λ (p : Outline). behind p target) c.number_from-in-Some.ensures in
    put c.list-in-Some.result c.list-in-Some.new.self _ _ c.list-in-Some.ensures
    (first-told o c.expression-in-Some.new.o c.place-in-Some.new.o _ value target c.act-in-Some-2.result first c.act-in-Some-2.ensures bound refl
    ∙ ap (λ (x : Stm). behind o (outline_stm k x))
    (sym
    (stm_of-Annotated c.args.s.now _ _ _ c.in-Annotated.is
    ∙ ap (λ (v : Option Expr). S.annotated c.args.s.now.line.0 (place_of c.in-Annotated.target) (exp_of c.in-Annotated.annotation) (opt_exp v)) c.in-Some.is)))

pub statement-returns-in_ok-place-in-None : goal.statement-returns-in_ok-place-in-None
statement-returns-in_ok-place-in-None t c =
    let o = c.args.o.now in
    let k = c.args.class.now in
    let target = outline_place false k (place_of c.in-Annotated.target) in
    let there : c.number_from-in-None.new.self ≡ numbered (behind o target) o.act =
    c.number_from-in-None.ensures ∙ (λ i. numbered (c.in_ok-place-in-None.ensures i) (c.act-act.ensures i)) in
    put c.count-in-None.result c.count-in-None.new.self _ _ c.count-in-None.ensures
    (ap (λ (p : Outline). behind p (acts 1)) (there ∙ sym (behind-unevaluated o target))
    ∙ sym (behind-both o (unevaluated target) (acts 1))
    ∙ ap (λ (x : Stm). behind o (outline_stm k x))
    (sym
    (stm_of-Annotated c.args.s.now _ _ _ c.in-Annotated.is
    ∙ ap (λ (v : Option Expr). S.annotated c.args.s.now.line.0 (place_of c.in-Annotated.target) (exp_of c.in-Annotated.annotation) (opt_exp v)) c.in-None.is)))

pub statement-returns-in_ok-statements-in-With : goal.statement-returns-in_ok-statements-in-With
statement-returns-in_ok-statements-in-With t c =
    let o = c.args.o.now in
    let k = c.args.class.now in
    let entered = outline_items k (items_of c.in-With.list) in
    let body = outline_stms k (stms_of c.in-With.body) in
    let items : c.items.new.o ≡ behind o entered =
    c.in_ok-items-in-With.ensures ∙ ap (λ (l : List WithItem). behind o (outline_items k (items_of l))) c.as_slice-in-With.ensures in
    let within : c.statements-in-With.new.o ≡ behind (behind o entered) body =
    c.in_ok-statements-in-With.ensures ∙ (λ i. behind (items i) (outline_stms k (stms_of (c.as_slice-in-With-2.ensures i)))) in
    let count : c.len-in-With.result ≡ item_count (items_of c.in-With.list) = c.len-in-With.ensures ∙ items-counted c.in-With.list in
    put c.count_items-in-With.result c.count_items-in-With.new.self _ _ c.count_items-in-With.ensures
    ((λ i. behind (within i) (acts (count i)))
    ∙ sym (behind-three o entered body (acts (item_count (items_of c.in-With.list))))
    ∙ ap (λ (x : Stm). behind o (outline_stm k x)) (sym (stm_of-With c.args.s.now _ _ c.in-With.is)))

pub statement-returns-in_ok-count_items-in-Def : goal.statement-returns-in_ok-count_items-in-Def
statement-returns-in_ok-count_items-in-Def t c =
    let o = c.args.o.now in
    let k = c.args.class.now in
    let list = c.in-Def.list in
    let calls = decorator_calls (decorators_of list) in
    let decorators = outline_decorators k (decorators_of list) in
    let block = a_block (shape k true) in
    let parameters = outline_params true k (parameters_of c.in-Def.parameters) in
    let body = inside 0 (outline_body k (stms_of c.in-Def.body)) in
    let decorated : c.decorators.new.o ≡ behind o decorators =
    c.in_ok-decorators-in-Def.ensures ∙ ap (λ (l : List Decorator). behind o (outline_decorators k (decorators_of l))) c.as_slice-in-Def.ensures in
    let opened : c.open_block.new.self ≡ behind (behind o decorators) block = c.in_ok-open_block-in-Def.ensures ∙ ap (λ (p : Outline). behind p block) decorated in
    let before : c.defaults.new.o ≡ behind (behind (behind o decorators) block) parameters = c.in_ok-defaults-in-Def.ensures ∙ ap (λ (p : Outline). behind p parameters) opened in
    let within : c.function.new.o ≡ behind (numbered c.defaults.new.o 0) (outline_body k (stms_of c.in-Def.body)) = c.in_ok-function-in-Def.ensures ∙ (λ i. behind (c.number_from-in-Def.ensures i) (outline_body k (stms_of (c.as_slice-in-Def-2.ensures i)))) in
    let all : c.number_from-in-Def-2.new.self ≡ behind c.defaults.new.o body =
    c.number_from-in-Def-2.ensures ∙ (λ i. numbered (within i) (c.act-act-in-Def.ensures i)) ∙ sym (behind-inside c.defaults.new.o 0 (outline_body k (stms_of c.in-Def.body))) in
    let count : c.len-in-Def.result ≡ calls = c.len-in-Def.ensures ∙ decorators-counted list in
    let counted : c.count_items-in-Def.new.self ≡ behind (behind (behind (behind (behind o decorators) block) parameters) body) (acts calls) =
    c.in_ok-count_items-in-Def.ensures ∙ (λ i. behind ((all ∙ ap (λ (p : Outline). behind p body) before) i) (acts (count i))) in
    put c.count-in-Def.result c.count-in-Def.new.self _ _ c.count-in-Def.ensures
    (ap (λ (p : Outline). behind p (acts 2)) counted
    ∙ sym (behind-six o decorators block parameters body (acts calls) (acts 2))
    ∙ ap (λ (x : Stm). behind o (outline_stm k x)) (sym (stm_of-Def c.args.s.now _ _ _ _ _ _ _ c.in-Def.is)))

pub statement-returns-in_ok-count_items-in-Class : goal.statement-returns-in_ok-count_items-in-Class
statement-returns-in_ok-count_items-in-Class t c =
    let o = c.args.o.now in
    let k = c.args.class.now in
    let list = c.in-Class.list in
    let calls = decorator_calls (decorators_of list) in
    let decorators = outline_decorators k (decorators_of list) in
    let block = a_block (shape c.in-Class.name false) in
    let base = outline_opt true k (opt_exp c.in-Class.base) in
    let body = inside 0 (outline_stms c.in-Class.name (stms_of c.in-Class.body)) in
    let named : c.in_ok-inside-in-Class.inside ≡ c.in-Class.name = c.in_ok-inside-in-Class.ensures ∙ c.as_str.ensures in
    let decorated : c.decorators-in-Class.new.o ≡ behind o decorators =
    c.in_ok-decorators-in-Class.ensures ∙ ap (λ (l : List Decorator). behind o (outline_decorators k (decorators_of l))) c.as_slice-in-Class.ensures in
    let opened : c.open_block-in-Class.new.self ≡ behind (behind o decorators) block = c.in_ok-open_block-in-Class.ensures ∙ (λ i. behind (decorated i) (a_block (shape (named i) false))) in
    let before : c.optional-in-Class.new.o ≡ behind (behind (behind o decorators) block) base = c.in_ok-optional-in-Class.ensures ∙ ap (λ (p : Outline). behind p base) opened in
    let within : c.statements-in-Class.new.o ≡ behind (numbered c.optional-in-Class.new.o 0) (outline_stms c.in-Class.name (stms_of c.in-Class.body)) = c.in_ok-statements-in-Class.ensures ∙ (λ i. behind (c.number_from-in-Class.ensures i) (outline_stms (named i) (stms_of (c.as_slice-in-Class-2.ensures i)))) in
    let all : c.number_from-in-Class-2.new.self ≡ behind c.optional-in-Class.new.o body =
    c.number_from-in-Class-2.ensures ∙ (λ i. numbered (within i) (c.act-act-in-Class.ensures i)) ∙ sym (behind-inside c.optional-in-Class.new.o 0 (outline_stms c.in-Class.name (stms_of c.in-Class.body))) in
    let count : c.len-in-Class.result ≡ calls = c.len-in-Class.ensures ∙ decorators-counted list in
    let counted : c.count_items-in-Class.new.self ≡ behind (behind (behind (behind (behind o decorators) block) base) body) (acts calls) =
    c.in_ok-count_items-in-Class.ensures ∙ (λ i. behind ((all ∙ ap (λ (p : Outline). behind p body) before) i) (acts (count i))) in
    put c.count-in-Class.result c.count-in-Class.new.self _ _ c.count-in-Class.ensures
    (ap (λ (p : Outline). behind p (acts 2)) counted
    ∙ sym (behind-six o decorators block base body (acts calls) (acts 2))
    ∙ ap (λ (x : Stm). behind o (outline_stm k x)) (sym (stm_of-Class c.args.s.now _ _ _ _ _ _ c.in-Class.is)))
