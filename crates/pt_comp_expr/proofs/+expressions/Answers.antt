use Rattle.std.proofs.Common.{◌≡◌, ◌∙◌, ◌+◌, ◌∷◌, suc, false, List, Some, drop, map, ap, sym, arith}
use Rattle.std.proofs.lemmas.Grind.{common_steps}
use Rattle.std.proofs.lemmas.List.{drop_all, drop_more}
use Rattle.std.proofs.lemmas.Result.{on_ok_weaker}
use Rattle.pt_tree.specs.Syntax as S
use Rattle.pt_tree.specs.Syntax.{Exp, Pieces, Entries, Args, Place, Formals, Params}
use Rattle.pt_tree.specs.declared.expression.Expr.{Expr}
use Rattle.pt_tree.specs.declared.expression.Entry.{Entry}
use Rattle.pt_tree.specs.declared.expression.Piece.{Piece}
use Rattle.pt_tree.specs.declared.expression.Argument.{Argument}
use Rattle.pt_tree.specs.declared.expression.Clause.{Clause, out-Clause}
use Rattle.pt_tree.specs.declared.expression.Parameter.{Parameter}
use Rattle.pt_tree.specs.declared.expression.Parameters.{out-Parameters}
use Rattle.pt_tree.specs.declared.expression.Target.{Target}
use Rattle.pt_tree.specs.Fold.{ClauseOf, all_of, argument_of, chained, clause_of, entry_of, exp_of, formal_of, parameters_of, piece_of, target_of, targets_of}
use Rattle.pt_tree.proofs.Folds.{exp_of-Constant, exp_of-Name, exp_of-Joined, exp_of-Tuple, exp_of-List, exp_of-Set, exp_of-Dict, exp_of-Attribute, exp_of-Item, exp_of-Slice, exp_of-Unary, exp_of-Not, exp_of-Binary, exp_of-Compare, exp_of-And, exp_of-Or, exp_of-Conditional, exp_of-Call, exp_of-Lambda, exp_of-ListComprehension, exp_of-SetComprehension, exp_of-DictComprehension, exp_of-Generator, exp_of-Yield, exp_of-YieldFrom, piece_of-Literal, place_node_of-Name, clause_of-parts, entry_of-parts, link_of-parts, parameters_of-parts}
use Rattle.sem_control.specs.control.Expressions.{all_defaulted}
use Rattle.pt_write_leaves.specs.pt_expr_forms.Behind.{known, behind_all, behind_args, behind_defaults, behind_entries, behind_exp, behind_literal, behind_operands, behind_pieces, behind_target, behind_targets, defaults_count, entries_count, exps_count, pieces_count}
use Rattle.pt_write_leaves.specs.pt_expr_forms.Loops.{behind_iterator, behind_turn}
use Rattle.pt_write_leaves.proofs.pt_expr_forms.Counts.{exps_count-all, entries_count-all, pieces_count-all}
use Rattle.pt_write_leaves.proofs.pt_expr_forms.Forms.{constant-form, joined-form, attribute-form, item-form, slice-form, unary-form, not-form, binary-form, compare-form, and-form, or-form, conditional-form, call-form, generator-form, yield-form, yield_from-form, name_at-form, function-written}
use Rattle.pt_write_leaves.proofs.pt_expr_forms.LoopForms.{list-form, set-form, dict-made-form}
use Rattle.pt_write_leaves.proofs.pt_expr_forms.LoopSteps.{iterator-written, turn-written, begun-written}
use Rattle.pt_comp_expr.proofs.Rules.{parts, conditions-left, default-none, default-some, default-left, display-written, dictionary-written}
use Rattle.pt_comp_expr.proofs.+expressions.Goals as goal

pub expressions::expression-returns-in-Constant : goal.expressions::expression-returns-in-Constant
expressions::expression-returns-in-Constant t c = grind (arith, constant-form, exp_of-Constant c.args.e.now _ c.in-Constant.is)

pub expressions::expression-returns-in-Name : goal.expressions::expression-returns-in-Name
expressions::expression-returns-in-Name t c = grind (arith, exp_of-Name c.args.e.now _ c.in-Name.is)

pub expressions::expression-returns-in_ok-count-in-Joined : goal.expressions::expression-returns-in_ok-count-in-Joined
expressions::expression-returns-in_ok-count-in-Joined t c = grind (arith, joined-form, exp_of-Joined c.args.e.now _ c.in-Joined.is)

pub expressions::expression-returns-in-Tuple : goal.expressions::expression-returns-in-Tuple
expressions::expression-returns-in-Tuple t c = grind (arith, exp_of-Tuple c.args.e.now _ c.in-Tuple.is)

pub expressions::expression-returns-in-List : goal.expressions::expression-returns-in-List
expressions::expression-returns-in-List t c = grind (arith, exp_of-List c.args.e.now _ c.in-List.is)

pub expressions::expression-returns-in-Set : goal.expressions::expression-returns-in-Set
expressions::expression-returns-in-Set t c = grind (arith, exp_of-Set c.args.e.now _ c.in-Set.is)

pub expressions::expression-returns-in-Dict : goal.expressions::expression-returns-in-Dict
expressions::expression-returns-in-Dict t c = grind (arith, exp_of-Dict c.args.e.now _ c.in-Dict.is)

pub expressions::expression-returns-in_ok-expression-in-Attribute : goal.expressions::expression-returns-in_ok-expression-in-Attribute
expressions::expression-returns-in_ok-expression-in-Attribute t c = grind (arith, attribute-form, exp_of-Attribute c.args.e.now _ _ c.in-Attribute.is)

pub expressions::expression-returns-in_ok-expression-in-Item-2 : goal.expressions::expression-returns-in_ok-expression-in-Item-2
expressions::expression-returns-in_ok-expression-in-Item-2 t c = grind (arith, item-form, exp_of-Item c.args.e.now _ _ c.in-Item.is)

pub expressions::expression-returns-in_ok-due-in-Slice-3 : goal.expressions::expression-returns-in_ok-due-in-Slice-3
expressions::expression-returns-in_ok-due-in-Slice-3 t c = grind (arith, slice-form, exp_of-Slice c.args.e.now _ _ _ c.in-Slice.is)

pub expressions::expression-returns-in_ok-expression-in-Unary : goal.expressions::expression-returns-in_ok-expression-in-Unary
expressions::expression-returns-in_ok-expression-in-Unary t c = grind (arith, unary-form, exp_of-Unary c.args.e.now _ _ c.in-Unary.is)

pub expressions::expression-returns-in_ok-expression-in-Not : goal.expressions::expression-returns-in_ok-expression-in-Not
expressions::expression-returns-in_ok-expression-in-Not t c = grind (arith, not-form, exp_of-Not c.args.e.now _ c.in-Not.is)

pub expressions::expression-returns-in_ok-expression-in-Binary-2 : goal.expressions::expression-returns-in_ok-expression-in-Binary-2
expressions::expression-returns-in_ok-expression-in-Binary-2 t c = grind (arith, binary-form, exp_of-Binary c.args.e.now _ _ _ c.in-Binary.is)

pub expressions::expression-returns-in_ok-expression-in-Compare-2 : goal.expressions::expression-returns-in_ok-expression-in-Compare-2
expressions::expression-returns-in_ok-expression-in-Compare-2 t c = grind (arith, compare-form, exp_of-Compare c.args.e.now _ _ _ _ c.in-Compare.is)

pub expressions::expression-returns-in_ok-operands-in-And : goal.expressions::expression-returns-in_ok-operands-in-And
expressions::expression-returns-in_ok-operands-in-And t c = grind (arith, and-form, exp_of-And c.args.e.now _ _ c.in-And.is)

pub expressions::expression-returns-in_ok-operands-in-Or : goal.expressions::expression-returns-in_ok-operands-in-Or
expressions::expression-returns-in_ok-operands-in-Or t c = grind (arith, or-form, exp_of-Or c.args.e.now _ _ c.in-Or.is)

pub expressions::expression-returns-in_ok-expression-in-Conditional-3 : goal.expressions::expression-returns-in_ok-expression-in-Conditional-3
expressions::expression-returns-in_ok-expression-in-Conditional-3 t c = grind (arith, conditional-form, exp_of-Conditional c.args.e.now _ _ _ c.in-Conditional.is)

pub expressions::expression-returns-in_ok-arguments-in-Call : goal.expressions::expression-returns-in_ok-arguments-in-Call
expressions::expression-returns-in_ok-arguments-in-Call t c = grind (arith, call-form, exp_of-Call c.args.e.now _ _ c.in-Call.is)

pub expressions::expression-returns-in_ok-expression-in-ListComprehension : goal.expressions::expression-returns-in_ok-expression-in-ListComprehension
expressions::expression-returns-in_ok-expression-in-ListComprehension t c = grind (arith, list-form, exp_of-ListComprehension c.args.e.now _ _ _ c.in-ListComprehension.is)

pub expressions::expression-returns-in_ok-expression-in-SetComprehension : goal.expressions::expression-returns-in_ok-expression-in-SetComprehension
expressions::expression-returns-in_ok-expression-in-SetComprehension t c = grind (arith, set-form, exp_of-SetComprehension c.args.e.now _ _ _ c.in-SetComprehension.is)

pub expressions::expression-returns-in_ok-expression-in-DictComprehension-2 : goal.expressions::expression-returns-in_ok-expression-in-DictComprehension-2
expressions::expression-returns-in_ok-expression-in-DictComprehension-2 t c = grind (arith, dict-made-form, exp_of-DictComprehension c.args.e.now _ _ _ _ c.in-DictComprehension.is)

pub expressions::expression-returns-in_ok-iterator-in-Generator : goal.expressions::expression-returns-in_ok-iterator-in-Generator
expressions::expression-returns-in_ok-iterator-in-Generator t c = grind (arith, generator-form, exp_of-Generator c.args.e.now _ _ _ _ c.in-Generator.is)

pub expressions::expression-returns-in_ok-due-in-Yield : goal.expressions::expression-returns-in_ok-due-in-Yield
expressions::expression-returns-in_ok-due-in-Yield t c = grind (arith, yield-form, exp_of-Yield c.args.e.now _ c.in-Yield.is)

pub expressions::expression-returns-in_ok-expression-in-YieldFrom : goal.expressions::expression-returns-in_ok-expression-in-YieldFrom
expressions::expression-returns-in_ok-expression-in-YieldFrom t c = grind (arith, yield_from-form, exp_of-YieldFrom c.args.e.now _ c.in-YieldFrom.is)

pub expressions::expression-returns-in-Lambda : goal.expressions::expression-returns-in-Lambda
expressions::expression-returns-in-Lambda t c =
    let written : Exp → _ = λ e. behind_exp c.args.at.now.names.now c.args.at.now.within.now e c.args.again c.args.w.now in
    on_ok_weaker c.function.result (λ is. is _ ∙ sym (ap written (exp_of-Lambda c.args.e.now _ _ _ c.in-Lambda.is))) c.function.ensures

pub comprehensions::iterator-returns : goal.comprehensions::iterator-returns
comprehensions::iterator-returns t c =
    let b = c.args.at.now.names.now in
    let ns = c.args.at.now.within.now in
    let cl : Clause = c.args.clause.now in
    on_ok_weaker c.plain.result (λ is. iterator-written b ns (parts cl) c.args.again c.args.w.now _ _ c.in_ok-expression.ensures is
    ∙ sym (ap (λ (y : ClauseOf). behind_iterator b ns y c.args.again c.args.w.now) (clause_of-parts cl))) c.plain.ensures.code

pub comprehensions::turn-returns : goal.comprehensions::turn-returns
comprehensions::turn-returns t c =
    let b = c.args.at.now.names.now in
    let ns = c.args.at.now.within.now in
    let cl : Clause = c.args.clause.now in
    let whole = conditions-left b ns (out-Clause cl).conditions c.as_slice-test-items.result.now c.loop-test.test-index c.in_ok-head.head c.args.line.0 c.loop-test.w _
    c.loop-test-test.false c.as_slice-test-items.ensures c.loop-test.invariant in (
      c.in_ok-head.ensures.0,
      turn-written b ns (parts cl) c.args.end c.in_ok-head.head c.args.line.0 c.args.w.now _ _ _ _ c.in_ok-head.ensures.0 c.in_ok-head.ensures.1 c.in_ok-act.ensures.is
          c.in_ok-target.ensures whole ∙ sym (ap (λ (y : ClauseOf). behind_turn b ns y c.args.end c.args.line.0 c.args.w.now) (clause_of-parts cl)),
    )

pub comprehensions::begin_comprehension-returns : goal.comprehensions::begin_comprehension-returns
comprehensions::begin_comprehension-returns t c =
    begun-written c.args.at.now.names.now c.args.at.now.within.now c.args.built c.args.line.0 (clause_of c.args.first.now) (map clause_of c.args.rest.now) c.args.again
    (record { end = c.in_ok-end.end; head = c.in_ok-head.head; within = c.in_ok-within.within }) _ _ c.args.w.now _ _ _ _ _ _ c.in_ok-end.ensures.0 c.in_ok-end.ensures.1 c.in_ok-iterator.ensures c.empty.ensures c.in_ok-plain.ensures.code
    c.in_ok-step.ensures.is c.in_ok-within.ensures.0 c.in_ok-within.ensures.1 c.as_slice.ensures c.in_ok-head.ensures.0 c.in_ok-head.ensures.1

pub functions::function-returns : goal.functions::function-returns
functions::function-returns t c =
    let b = c.args.at.now.names.now in
    let ns = c.args.at.now.within.now in
    let o = out-Parameters c.args.parameters.now in
    let formals : List Parameter → Formals = λ ps. chained S.no_formals (map formal_of ps) in
    let ps = c.as_slice.result.now in
    let ks = c.as_slice-2.result.now in
    let parted : parameters_of c.args.parameters.now ≡ S.parameters (formals ps) o.star (formals ks) o.double_star
    = parameters_of-parts c.args.parameters.now
    ∙ ap (λ (qs : List Parameter). S.parameters (formals qs) o.star (formals o.keyword_only) o.double_star) (sym c.as_slice.ensures)
    ∙ ap (λ (qs : List Parameter). S.parameters (formals ps) o.star (formals qs) o.double_star) (sym c.as_slice-2.ensures) in
    let count : c.in_ok-count.count ≡ c.in_ok-first.first + c.in_ok-named.named = grind (arith, common_steps) in
    let are = c.as_slice-3.ensures ∙ c.in_ok-names.ensures ∙ ap (λ (q : Params). map (known b).spelled (all_defaulted q)) parted in
    on_ok_weaker c.function.result (λ is e. is
    ∙ function-written b ns c.args.line.0 c.args.block.0 (formals ps) o.star (formals ks) o.double_star c.args.again _ _ _ c.args.w.now _ _ _ c.in_ok-first.first
    c.in_ok-named.named c.in_ok-count.count c.in_ok-first.ensures.0 c.in_ok-first.ensures.1 c.still_due-due.ensures c.in_ok-named.ensures.0 c.in_ok-named.ensures.1 count are
    c.in_ok-push_captured.ensures c.still_due-last.ensures e
    ∙ sym (ap (λ (q : Params). behind_exp b ns (S.lambda c.args.line.0 c.args.block.0 q e) c.args.again c.args.w.now) parted)) c.function.ensures.code

pub functions::default_of-returns-in-None : goal.functions::default_of-returns-in-None
functions::default_of-returns-in-None t c = λ r.
    let is = default-none c.args.at.now.names.now c.args.at.now.within.now c.args.parameter.now r c.args.again c.args.w.now c.in-None.is in
    let none : defaults_count r ≡ 0 + defaults_count r = omega arith in
    (is.0 ∙ none, is.1)

pub functions::default_of-returns-in_ok-expression-in-Some : goal.functions::default_of-returns-in_ok-expression-in-Some
functions::default_of-returns-in_ok-expression-in-Some t c = λ r.
    let is = default-some c.args.at.now.names.now c.args.at.now.within.now c.args.parameter.now r _ c.args.again c.args.w.now _ (c.in-Some.is ∙ ap Some (sym c.get.ensures))
    c.in_ok-expression-in-Some.ensures in
    let one : suc (defaults_count r) ≡ 1 + defaults_count r = omega arith in
    (is.0 ∙ one, is.1)

pub functions::defaults-loop-parameter-preserved : goal.functions::defaults-loop-parameter-preserved
functions::defaults-loop-parameter-preserved t c =
    let b = c.args.at.now.names.now in
    let ns = c.args.at.now.within.now in
    let x : Parameter = c.parameter-item.result in
    let k = c.loop-parameter.parameter-index in
    let ps = c.args.parameters.now in
    let formals : List Parameter → Formals = λ qs. chained S.no_formals (map formal_of qs) in
    let left : drop k ps ≡ x ∷ drop (k + 1) ps = drop_more ps k x c.loop-parameter-test.true ∙ ap (λ y. y ∷ drop (k + 1) ps) (sym c.parameter-item.is) in
    let step = c.in_ok-given.ensures (formals (drop (k + 1) ps)) in
    let more : defaults_count (formals (drop k ps)) ≡ c.in_ok-given.given + defaults_count (formals (drop (k + 1) ps)) = ap (λ qs. defaults_count (formals qs)) left ∙ step.0 in
    record {
      code = default-left b ns (formals (drop (k + 1) ps)) (formal_of x (formals (drop (k + 1) ps))) c.still_due-due.result c.loop-parameter.due c.in_ok-given.given c.loop-parameter.w _ step.1 c.still_due-due.ensures
          ∙ sym (ap (λ qs. behind_defaults b ns (formals qs) c.loop-parameter.due c.loop-parameter.w) left) ∙ c.loop-parameter.invariant.code;
      count = grind (arith, more);
    }

pub strings::parts-loop-piece-preserved : goal.strings::parts-loop-piece-preserved
strings::parts-loop-piece-preserved t c =
    let b = c.args.at.now.names.now in
    let ns = c.args.at.now.within.now in
    let x : Piece = c.piece-item.result in
    let k = c.loop-piece.piece-index in
    let ps = c.args.pieces.now in
    let rest : Pieces = chained S.no_pieces (map piece_of (drop (k + 1) ps)) in
    let left : drop k ps ≡ x ∷ drop (k + 1) ps = drop_more ps k x c.loop-piece-test.true ∙ ap (λ y. y ∷ drop (k + 1) ps) (sym c.piece-item.is) in
    sym (c.in_ok-part.ensures rest)
    ∙ sym (ap (λ qs. behind_pieces b ns (chained S.no_pieces (map piece_of qs)) c.loop-piece.due c.loop-piece.w) left) ∙ c.loop-piece.invariant

pub strings::part-returns-in-Literal : goal.strings::part-returns-in-Literal
strings::part-returns-in-Literal t c =
    let b = c.args.at.now.names.now in
    let ns = c.args.at.now.within.now in
    on_ok_weaker c.text.result (λ is r. ap (λ ps. behind_pieces b ns ps c.args.again c.args.w.now) (piece_of-Literal c.args.piece.now r _ _ c.in-Literal.is)
    ∙ ap (λ u. behind_pieces b ns r false u) (ap (λ x. behind_literal c.in-Literal.line.0 x c.args.again c.args.w.now) (sym c.as_str.ensures) ∙ sym is)) c.text.ensures.code

pub operands::arguments-loop-each-preserved : goal.operands::arguments-loop-each-preserved
operands::arguments-loop-each-preserved t c =
    let b = c.args.at.now.names.now in
    let ns = c.args.at.now.within.now in
    let x : Argument = c.each-item.result in
    let k = c.loop-each.each-index in
    let as' = c.args.arguments.now in
    let rest : Args = chained S.no_args (map argument_of (drop (k + 1) as')) in
    let left : drop k as' ≡ x ∷ drop (k + 1) as' = drop_more as' k x c.loop-each-test.true ∙ ap (λ y. y ∷ drop (k + 1) as') (sym c.each-item.is) in
    sym (c.in_ok-argument.ensures rest)
    ∙ sym (ap (λ qs. behind_args b ns (chained S.no_args (map argument_of qs)) c.args.line.0 c.loop-each.w) left) ∙ c.loop-each.invariant

pub operands::display_code-loop-item-preserved : goal.operands::display_code-loop-item-preserved
operands::display_code-loop-item-preserved t c =
    let b = c.args.at.now.names.now in
    let ns = c.args.at.now.within.now in
    let x : Expr = c.item-item.result in
    let k = c.loop-item.item-index in
    let es = c.args.items.now in
    let left : drop k es ≡ x ∷ drop (k + 1) es = drop_more es k x c.loop-item-test.true ∙ ap (λ y. y ∷ drop (k + 1) es) (sym c.item-item.is) in
    ap (λ u. behind_all b ns (all_of (map exp_of (drop (k + 1) es))) false u) c.in_ok-expression.ensures
    ∙ sym (ap (λ qs. behind_all b ns (all_of (map exp_of qs)) c.loop-item.due c.loop-item.w) left) ∙ c.loop-item.invariant

pub operands::dictionary-loop-entry-preserved : goal.operands::dictionary-loop-entry-preserved
operands::dictionary-loop-entry-preserved t c =
    let b = c.args.at.now.names.now in
    let ns = c.args.at.now.within.now in
    let x : Entry = c.entry-item.result in
    let k = c.loop-entry.entry-index in
    let es = c.args.entries.now in
    let entries : List Entry → Entries = λ qs. chained S.no_entries (map entry_of qs) in
    let left : drop k es ≡ x ∷ drop (k + 1) es = drop_more es k x c.loop-entry-test.true ∙ ap (λ y. y ∷ drop (k + 1) es) (sym c.entry-item.is) in
    ap (λ u. behind_entries b ns (entries (drop (k + 1) es)) false u)
    (c.in_ok-expression-2.ensures ∙ ap (λ u. behind_exp b ns (exp_of x.value) false u) c.in_ok-expression.ensures)
    ∙ sym (ap (λ f. behind_entries b ns f c.loop-entry.due c.loop-entry.w) (entry_of-parts x (entries (drop (k + 1) es))))
    ∙ sym (ap (λ qs. behind_entries b ns (entries qs) c.loop-entry.due c.loop-entry.w) left) ∙ c.loop-entry.invariant

pub operands::operands-loop-operand-preserved : goal.operands::operands-loop-operand-preserved
operands::operands-loop-operand-preserved t c =
    let b = c.args.at.now.names.now in
    let ns = c.args.at.now.within.now in
    let l = c.args.line.0 in
    let x : Expr = c.operand-item.result in
    let k = c.loop-operand.operand-index in
    let es = c.args.rest.now in
    let left : drop k es ≡ x ∷ drop (k + 1) es = drop_more es k x c.loop-operand-test.true ∙ ap (λ y. y ∷ drop (k + 1) es) (sym c.operand-item.is) in
    ap (λ u. behind_operands b ns c.args.jump (all_of (map exp_of (drop (k + 1) es))) c.args.end l u)
    (c.in_ok-expression.ensures ∙ ap (λ u. behind_exp b ns (exp_of x) false u) c.in_ok-act.ensures.is)
    ∙ sym (ap (λ qs. behind_operands b ns c.args.jump (all_of (map exp_of qs)) c.args.end l c.loop-operand.w) left) ∙ c.loop-operand.invariant

pub operands::display_code-returns : goal.operands::display_code-returns
operands::display_code-returns t c =
    let b = c.args.at.now.names.now in
    let ns = c.args.at.now.within.now in
    let es = c.args.items.now in
    let last = sym (ap (λ qs. behind_all b ns (all_of (map exp_of qs)) c.loop-item.due c.loop-item.w) (drop_all c.loop-item.item-index es c.loop-item-test.false))
    ∙ c.loop-item.invariant in
    let count : c.in_ok-count.count ≡ exps_count (all_of (map exp_of es)) = grind (arith, exps_count-all es) in
    on_ok_weaker c.plain.result (λ is. display-written b ns c.args.display c.args.line.0 (all_of (map exp_of es)) c.args.again c.args.w.now c.loop-item.w _ c.instr.result
    c.still_due.result c.in_ok-count.count last count c.instr.ensures c.still_due.ensures is) c.plain.ensures.code

pub operands::dictionary-returns : goal.operands::dictionary-returns
operands::dictionary-returns t c =
    let b = c.args.at.now.names.now in
    let ns = c.args.at.now.within.now in
    let es = c.args.entries.now in
    let entries : List Entry → Entries = λ qs. chained S.no_entries (map entry_of qs) in
    let last = sym (ap (λ qs. behind_entries b ns (entries qs) c.loop-entry.due c.loop-entry.w) (drop_all c.loop-entry.entry-index es c.loop-entry-test.false))
    ∙ c.loop-entry.invariant in
    let count : c.in_ok-count.count ≡ entries_count (entries es) = grind (arith, entries_count-all es) in
    on_ok_weaker c.plain.result (λ is. dictionary-written b ns c.args.line.0 (entries es) c.args.again c.args.w.now c.loop-entry.w _ c.still_due.result c.in_ok-count.count
    last count c.still_due.ensures is) c.plain.ensures.code

pub strings::parts-returns : goal.strings::parts-returns
strings::parts-returns t c =
    let b = c.args.at.now.names.now in
    let ns = c.args.at.now.within.now in
    let ps = c.args.pieces.now in
    let count : c.in_ok-count.count ≡ pieces_count (chained S.no_pieces (map piece_of ps)) = grind (arith, pieces_count-all ps) in (
      count,
      sym (ap (λ qs. behind_pieces b ns (chained S.no_pieces (map piece_of qs)) c.loop-piece.due c.loop-piece.w) (drop_all c.loop-piece.piece-index ps c.loop-piece-test.false))
          ∙ c.loop-piece.invariant,
    )

pub targets::each_target-loop-each-preserved : goal.targets::each_target-loop-each-preserved
targets::each_target-loop-each-preserved t c =
    let b = c.args.at.now.names.now in
    let ns = c.args.at.now.within.now in
    let x : Target = c.each-item.result in
    let k = c.loop-each.each-index in
    let ts = c.args.targets.now in
    let left : drop k ts ≡ x ∷ drop (k + 1) ts = drop_more ts k x c.loop-each-test.true ∙ ap (λ y. y ∷ drop (k + 1) ts) (sym c.each-item.is) in
    ap (λ u. behind_targets b ns (targets_of (map target_of (drop (k + 1) ts))) u) c.in_ok-target.ensures
    ∙ sym (ap (λ qs. behind_targets b ns (targets_of (map target_of qs)) c.loop-each.w) left) ∙ c.loop-each.invariant

pub targets::place-returns-in-Name : goal.targets::place-returns-in-Name
targets::place-returns-in-Name t c =
    let b = c.args.at.now.names.now in
    let ns = c.args.at.now.within.now in
    let l = c.args.line.0 in
    on_ok_weaker c.bind_name.result (λ is. is ∙ sym (name_at-form b ns l c.as_str.result.now c.args.w.now)
    ∙ ap (λ x. behind_target b ns (S.single (S.name_at l x)) c.args.w.now) c.as_str.ensures
    ∙ sym (ap (λ (p : Place). behind_target b ns (S.single p) c.args.w.now) (place_node_of-Name c.args.node.now l c.in-Name.name c.in-Name.is))) c.bind_name.ensures

pub links::links-loop-link-preserved : goal.links::links-loop-link-preserved
links::links-loop-link-preserved t c = grind (arith, common_steps, link_of-parts c.link-item.result)
