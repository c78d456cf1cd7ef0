use Rattle.std.proofs.Common.{◌≡◌, ◌+◌, ◌∙◌, arith, ap, map, refl, sym, true}
use Rattle.std.proofs.lemmas.Grind.{common_steps}
use Rattle.pt_block_shapes.specs.outliner.Outline.{◌⨾◌, acts, behind, beginning, evaluated_first}
use Rattle.pt_block_shapes.specs.outliner.Parts.{outline_clauses, outline_exp, outline_made, outline_target}
use Rattle.pt_block_shapes.proofs.outliner.Steps.{beginning-act, behind-both, behind-conditions, behind-nothing, clauses-told, comprehension-told, first-told, generator-told, put}
use Rattle.pt_tree.specs.Fold.{behind as behind_clause, clause_of, clauses_of, exp_of}
use Rattle.pt_tree.specs.Syntax as S
use Rattle.pt_tree.specs.Syntax.{Exp}
use Rattle.pt_tree.proofs.Folds.{entry_of-parts, exp_of-Conditional, exp_of-DictComprehension, exp_of-Generator, exp_of-ListComprehension, exp_of-SetComprehension, exp_of-Slice, formal_of-parts, link_of-parts}
use Rattle.pt_block_shapes.proofs.outliner.expressions.+expressions.Goals as goal

pub all-loop-item-preserved : goal.all-loop-item-preserved
all-loop-item-preserved t c = grind (arith, common_steps, behind-both)

pub all-returns : goal.all-returns
all-returns t c = grind (arith, common_steps, behind-nothing)

pub operands-loop-item-preserved : goal.operands-loop-item-preserved
operands-loop-item-preserved t c = grind (arith, common_steps, behind-both)

pub operands-returns : goal.operands-returns
operands-returns t c = grind (arith, common_steps, behind-nothing)

pub conditions-loop-test-preserved : goal.conditions-loop-test-preserved
conditions-loop-test-preserved t c = grind (arith, common_steps, behind-both)

pub conditions-returns : goal.conditions-returns
conditions-returns t c = grind (arith, common_steps, behind-nothing)

pub links-loop-link-preserved : goal.links-loop-link-preserved
links-loop-link-preserved t c = grind (arith, common_steps, behind-both, link_of-parts c.link-item.result)

pub links-returns : goal.links-returns
links-returns t c = grind (arith, common_steps, behind-nothing)

pub entries-loop-entry-preserved : goal.entries-loop-entry-preserved
entries-loop-entry-preserved t c = grind (arith, common_steps, behind-both, entry_of-parts c.entry-item.result)

pub entries-returns : goal.entries-returns
entries-returns t c = grind (arith, common_steps, behind-nothing)

pub targets-loop-part-preserved : goal.targets-loop-part-preserved
targets-loop-part-preserved t c = grind (arith, common_steps, behind-both)

pub targets-returns : goal.targets-returns
targets-returns t c = grind (arith, common_steps, behind-nothing)

pub formals-loop-p-preserved : goal.formals-loop-p-preserved
formals-loop-p-preserved t c = grind (arith, common_steps, behind-both, formal_of-parts c.p-item.result)

pub formals-returns : goal.formals-returns
formals-returns t c = grind (arith, common_steps, behind-nothing)

pub pieces-returns : goal.pieces-returns
pieces-returns t c = grind (arith, common_steps, behind-nothing)

pub passed-returns : goal.passed-returns
passed-returns t c = grind (arith, common_steps, behind-nothing)

pub clauses-returns : goal.clauses-returns
clauses-returns t c = grind (arith, common_steps, behind-nothing)

pub clauses-loop-clause-preserved : goal.clauses-loop-clause-preserved
clauses-loop-clause-preserved t c = grind (arith, common_steps, behind-both, behind-conditions c.args.evaluated c.args.class.now (clause_of c.clause-item.result).conditions)

pub expression-returns-in_ok-boxed-in-Slice-3 : goal.expression-returns-in_ok-boxed-in-Slice-3
expression-returns-in_ok-boxed-in-Slice-3 t c = grind (arith, exp_of-Slice c.args.e.now _ _ _ c.in-Slice.is, behind-both)

pub expression-returns-in_ok-list-in-Conditional : goal.expression-returns-in_ok-list-in-Conditional
expression-returns-in_ok-list-in-Conditional t c =
    let o = c.args.o.now in
    let u = c.args.evaluated in
    let k = c.args.class.now in
    let test = outline_exp u k (exp_of c.in-Conditional.test) ⨾ acts 1 in
    let body = outline_exp u k (exp_of c.in-Conditional.body) in
    let first : c.count-in-Conditional.new.self ≡ behind (beginning o.act) test = grind (arith, behind-both) in
    let told : c.list.new.self ≡ behind o (evaluated_first test body) =
    first-told o c.count-in-Conditional.new.self c.expression-in-Conditional-2.new.o c.list.new.self test body c.act-in-Conditional.result first
    c.act-in-Conditional.ensures (grind arith) c.in_ok-list-in-Conditional.ensures in
    put c.expression-in-Conditional-3.result c.expression-in-Conditional-3.new.o _ _ c.expression-in-Conditional-3.ensures
    ((λ i. behind (told i) (outline_exp u k (exp_of (c.get-in-Conditional-3.ensures i))))
    ∙ sym (behind-both o (evaluated_first test body) (outline_exp u k (exp_of c.in-Conditional.otherwise)))
    ∙ ap (λ (x : Exp). behind o (outline_exp u k x)) (sym (exp_of-Conditional c.args.e.now _ _ _ c.in-Conditional.is)))

pub expression-returns-in_ok-count-in-ListComprehension : goal.expression-returns-in_ok-count-in-ListComprehension
expression-returns-in_ok-count-in-ListComprehension t c =
    let o = c.args.o.now in
    let u = c.args.evaluated in
    let k = c.args.class.now in
    let first = clause_of c.in-ListComprehension.first in
    let rest = clauses_of (map clause_of c.in-ListComprehension.rest) in
    let iterable = c.in_ok-iterable-in-ListComprehension.iterable in
    let turn = c.in_ok-turn-in-ListComprehension.turn in
    let all = c.clauses.new.o in
    let made = c.count-in-ListComprehension.new.self in
    let is_i : iterable ≡ behind (beginning o.act) (outline_exp u k first.iterable ⨾ acts 2) = grind arith in
    let is_t : turn.target ≡ behind (beginning (iterable.act + 1)) (outline_target u k first.target) = grind arith in
    let is_c : all ≡ behind (beginning turn.target.act) (outline_clauses u k (behind_clause first (map clause_of c.in-ListComprehension.rest))) =
    clauses-told u k first.conditions rest turn.target.act turn.clauses all (grind arith) (grind arith) in
    let is_m : made ≡ behind (beginning all.act) (outline_made u k (S.a_list (exp_of c.in-ListComprehension.item))) = grind (arith, behind-both) in
    put c.comprehension.result c.comprehension.new.o _ _ c.comprehension.ensures
    (comprehension-told o _ u _ _ _ _ iterable turn.target all made is_i is_t is_c is_m refl
    ∙ ap (λ (x : Exp). behind o (outline_exp u k x)) (sym (exp_of-ListComprehension c.args.e.now _ _ _ c.in-ListComprehension.is)))

pub expression-returns-in_ok-count-in-SetComprehension : goal.expression-returns-in_ok-count-in-SetComprehension
expression-returns-in_ok-count-in-SetComprehension t c =
    let o = c.args.o.now in
    let u = c.args.evaluated in
    let k = c.args.class.now in
    let first = clause_of c.in-SetComprehension.first in
    let rest = clauses_of (map clause_of c.in-SetComprehension.rest) in
    let iterable = c.in_ok-iterable-in-SetComprehension.iterable in
    let turn = c.in_ok-turn-in-SetComprehension.turn in
    let all = c.clauses-in-SetComprehension.new.o in
    let made = c.count-in-SetComprehension.new.self in
    let is_i : iterable ≡ behind (beginning o.act) (outline_exp u k first.iterable ⨾ acts 2) = grind arith in
    let is_t : turn.target ≡ behind (beginning (iterable.act + 1)) (outline_target u k first.target) = grind arith in
    let is_c : all ≡ behind (beginning turn.target.act) (outline_clauses u k (behind_clause first (map clause_of c.in-SetComprehension.rest))) =
    clauses-told u k first.conditions rest turn.target.act turn.clauses all (grind arith) (grind arith) in
    let is_m : made ≡ behind (beginning all.act) (outline_made u k (S.a_set (exp_of c.in-SetComprehension.item))) = grind (arith, behind-both) in
    put c.comprehension-in-SetComprehension.result c.comprehension-in-SetComprehension.new.o _ _ c.comprehension-in-SetComprehension.ensures
    (comprehension-told o _ u _ _ _ _ iterable turn.target all made is_i is_t is_c is_m refl
    ∙ ap (λ (x : Exp). behind o (outline_exp u k x)) (sym (exp_of-SetComprehension c.args.e.now _ _ _ c.in-SetComprehension.is)))

pub expression-returns-in_ok-count-in-DictComprehension : goal.expression-returns-in_ok-count-in-DictComprehension
expression-returns-in_ok-count-in-DictComprehension t c =
    let o = c.args.o.now in
    let u = c.args.evaluated in
    let k = c.args.class.now in
    let first = clause_of c.in-DictComprehension.first in
    let rest = clauses_of (map clause_of c.in-DictComprehension.rest) in
    let iterable = c.in_ok-iterable-in-DictComprehension.iterable in
    let turn = c.in_ok-turn-in-DictComprehension.turn in
    let all = c.clauses-in-DictComprehension.new.o in
    let made = c.count-in-DictComprehension.new.self in
    let is_i : iterable ≡ behind (beginning o.act) (outline_exp u k first.iterable ⨾ acts 2) = grind arith in
    let is_t : turn.target ≡ behind (beginning (iterable.act + 1)) (outline_target u k first.target) = grind arith in
    let is_c : all ≡ behind (beginning turn.target.act) (outline_clauses u k (behind_clause first (map clause_of c.in-DictComprehension.rest))) =
    clauses-told u k first.conditions rest turn.target.act turn.clauses all (grind arith) (grind arith) in
    let is_m : made ≡ behind (beginning all.act) (outline_made u k (S.a_dict (exp_of c.in-DictComprehension.key) (exp_of c.in-DictComprehension.value))) = grind (arith, behind-both) in
    put c.comprehension-in-DictComprehension.result c.comprehension-in-DictComprehension.new.o _ _ c.comprehension-in-DictComprehension.ensures
    (comprehension-told o _ u _ _ _ _ iterable turn.target all made is_i is_t is_c is_m refl
    ∙ ap (λ (x : Exp). behind o (outline_exp u k x)) (sym (exp_of-DictComprehension c.args.e.now _ _ _ _ c.in-DictComprehension.is)))

pub expression-returns-in_ok-expression-in-Generator : goal.expression-returns-in_ok-expression-in-Generator
expression-returns-in_ok-expression-in-Generator t c =
    let o = c.args.o.now in
    let u = c.args.evaluated in
    let k = c.args.class.now in
    let first = clause_of c.in-Generator.first in
    let rest = clauses_of (map clause_of c.in-Generator.rest) in
    let iterable = c.in_ok-iterable-in-Generator.iterable in
    let turn = c.in_ok-turn-in-Generator.turn in
    let all = c.clauses-in-Generator.new.o in
    let made = c.expression-in-Generator.new.o in
    let is_i : iterable ≡ behind (beginning o.act) (outline_exp u k first.iterable ⨾ acts 2) = grind arith in
    let is_t : turn.target ≡ behind (beginning 1) (outline_target true k first.target) = grind (arith, beginning-act) in
    let is_c : all ≡ behind (beginning turn.target.act) (outline_clauses true k (behind_clause first (map clause_of c.in-Generator.rest))) =
    clauses-told true k first.conditions rest turn.target.act turn.clauses all (grind arith) (grind arith) in
    let is_m : made ≡ behind (beginning all.act) (outline_exp true k (exp_of c.in-Generator.item)) = grind arith in
    put c.generator.result c.generator.new.o _ _ c.generator.ensures
    (generator-told o _ _ _ _ _ _ iterable turn.target all made is_i is_t is_c is_m refl
    ∙ ap (λ (x : Exp). behind o (outline_exp u k x)) (sym (exp_of-Generator c.args.e.now _ _ _ _ c.in-Generator.is)))
