use Rattle.std.proofs.Common.{◌+◌, arith, drop, map}
use Rattle.std.proofs.lemmas.Grind.{common_steps}
use Rattle.pt_tree.specs.Syntax.{no_pieces}
use Rattle.pt_tree.specs.Fold.{chained, piece_of}
use Rattle.pt_tree.proofs.Folds.{exp_of-Constant, exp_of-Name, exp_of-Attribute, exp_of-Item, exp_of-Slice, exp_of-Unary, exp_of-Binary, exp_of-Compare, exp_of-And, exp_of-Or, exp_of-Conditional, exp_of-Call, exp_of-Lambda, exp_of-ListComprehension, exp_of-SetComprehension, exp_of-DictComprehension, exp_of-Generator, exp_of-Yield, exp_of-YieldFrom, entry_of-parts, link_of-parts, piece_of-Field, piece_of-Literal}
use Rattle.pt_eval.proofs.Walk.{pieces-next}
use Rattle.pt_eval.proofs.evaluation.+evaluation.Goals as goal

pub value-returns-in-Constant-clause-came : goal.value-returns-in-Constant-clause-came
value-returns-in-Constant-clause-came t c = grind (arith, exp_of-Constant c.args.e.now _ c.in-Constant.is)

pub value-returns-in-Name-clause-came : goal.value-returns-in-Name-clause-came
value-returns-in-Name-clause-came t c = grind (arith, exp_of-Name c.args.e.now _ c.in-Name.is)

pub value-returns-in-Unary-clause-came : goal.value-returns-in-Unary-clause-came
value-returns-in-Unary-clause-came t c = grind (arith, exp_of-Unary c.args.e.now _ _ c.in-Unary.is)

pub value-returns-in-Call-clause-came : goal.value-returns-in-Call-clause-came
value-returns-in-Call-clause-came t c = grind (arith, exp_of-Call c.args.e.now _ _ c.in-Call.is)

pub value-returns-in-Lambda-clause-came : goal.value-returns-in-Lambda-clause-came
value-returns-in-Lambda-clause-came t c = grind (arith, exp_of-Lambda c.args.e.now _ _ _ c.in-Lambda.is)

pub value-returns-in-ListComprehension-clause-came : goal.value-returns-in-ListComprehension-clause-came
value-returns-in-ListComprehension-clause-came t c = grind (arith, exp_of-ListComprehension c.args.e.now _ _ _ c.in-ListComprehension.is)

pub value-returns-in-SetComprehension-clause-came : goal.value-returns-in-SetComprehension-clause-came
value-returns-in-SetComprehension-clause-came t c = grind (arith, exp_of-SetComprehension c.args.e.now _ _ _ c.in-SetComprehension.is)

pub value-returns-in-DictComprehension-clause-came : goal.value-returns-in-DictComprehension-clause-came
value-returns-in-DictComprehension-clause-came t c = grind (arith, exp_of-DictComprehension c.args.e.now _ _ _ _ c.in-DictComprehension.is)

pub value-returns-in-Generator-clause-came : goal.value-returns-in-Generator-clause-came
value-returns-in-Generator-clause-came t c = grind (arith, exp_of-Generator c.args.e.now _ _ _ _ c.in-Generator.is)

pub value-returns-in-Yield-clause-came : goal.value-returns-in-Yield-clause-came
value-returns-in-Yield-clause-came t c = grind (arith, exp_of-Yield c.args.e.now _ c.in-Yield.is)

pub value-returns-in-YieldFrom-clause-came : goal.value-returns-in-YieldFrom-clause-came
value-returns-in-YieldFrom-clause-came t c = grind (arith, exp_of-YieldFrom c.args.e.now _ c.in-YieldFrom.is)

pub value-returns-in_err-object-in-Attribute-clause-came : goal.value-returns-in_err-object-in-Attribute-clause-came
value-returns-in_err-object-in-Attribute-clause-came t c = grind (arith, exp_of-Attribute c.args.e.now _ _ c.in-Attribute.is)

pub value-returns-in_ok-object-in-Attribute-clause-came : goal.value-returns-in_ok-object-in-Attribute-clause-came
value-returns-in_ok-object-in-Attribute-clause-came t c = grind (arith, exp_of-Attribute c.args.e.now _ _ c.in-Attribute.is)

pub value-returns-in_err-object-in-Item-clause-came : goal.value-returns-in_err-object-in-Item-clause-came
value-returns-in_err-object-in-Item-clause-came t c = grind (arith, exp_of-Item c.args.e.now _ _ c.in-Item.is)

pub value-returns-in_ok-object-in-Item-clause-came : goal.value-returns-in_ok-object-in-Item-clause-came
value-returns-in_ok-object-in-Item-clause-came t c = grind (arith, exp_of-Item c.args.e.now _ _ c.in-Item.is)

pub value-returns-in_err-start-in-Slice-clause-came : goal.value-returns-in_err-start-in-Slice-clause-came
value-returns-in_err-start-in-Slice-clause-came t c = grind (arith, exp_of-Slice c.args.e.now _ _ _ c.in-Slice.is)

pub value-returns-in_err-stop-in-Slice-clause-came : goal.value-returns-in_err-stop-in-Slice-clause-came
value-returns-in_err-stop-in-Slice-clause-came t c = grind (arith, exp_of-Slice c.args.e.now _ _ _ c.in-Slice.is)

pub value-returns-in_err-step-in-Slice-clause-came : goal.value-returns-in_err-step-in-Slice-clause-came
value-returns-in_err-step-in-Slice-clause-came t c = grind (arith, exp_of-Slice c.args.e.now _ _ _ c.in-Slice.is)

pub value-returns-in_ok-step-in-Slice-clause-came : goal.value-returns-in_ok-step-in-Slice-clause-came
value-returns-in_ok-step-in-Slice-clause-came t c = grind (arith, exp_of-Slice c.args.e.now _ _ _ c.in-Slice.is)

pub value-returns-in_err-left-in-Binary-clause-came : goal.value-returns-in_err-left-in-Binary-clause-came
value-returns-in_err-left-in-Binary-clause-came t c = grind (arith, exp_of-Binary c.args.e.now _ _ _ c.in-Binary.is)

pub value-returns-in_ok-left-in-Binary-clause-came : goal.value-returns-in_ok-left-in-Binary-clause-came
value-returns-in_ok-left-in-Binary-clause-came t c = grind (arith, exp_of-Binary c.args.e.now _ _ _ c.in-Binary.is)

pub value-returns-in_err-left-in-Compare-clause-came : goal.value-returns-in_err-left-in-Compare-clause-came
value-returns-in_err-left-in-Compare-clause-came t c = grind (arith, exp_of-Compare c.args.e.now _ _ _ _ c.in-Compare.is)

pub value-returns-in_err-right-in-Compare-clause-came : goal.value-returns-in_err-right-in-Compare-clause-came
value-returns-in_err-right-in-Compare-clause-came t c = grind (arith, exp_of-Compare c.args.e.now _ _ _ _ c.in-Compare.is)

pub value-returns-in_err-first-in-Compare-clause-came : goal.value-returns-in_err-first-in-Compare-clause-came
value-returns-in_err-first-in-Compare-clause-came t c = grind (arith, exp_of-Compare c.args.e.now _ _ _ _ c.in-Compare.is)

pub value-returns-in_ok-first-in-Compare-clause-came : goal.value-returns-in_ok-first-in-Compare-clause-came
value-returns-in_ok-first-in-Compare-clause-came t c = grind (arith, exp_of-Compare c.args.e.now _ _ _ _ c.in-Compare.is)

pub value-returns-in_err-first-in-And-clause-came : goal.value-returns-in_err-first-in-And-clause-came
value-returns-in_err-first-in-And-clause-came t c = grind (arith, exp_of-And c.args.e.now _ _ c.in-And.is)

pub value-returns-in_err-first-in-Or-clause-came : goal.value-returns-in_err-first-in-Or-clause-came
value-returns-in_err-first-in-Or-clause-came t c = grind (arith, exp_of-Or c.args.e.now _ _ c.in-Or.is)

pub keys_and_values-returns-in_err-key-clause-came : goal.keys_and_values-returns-in_err-key-clause-came
keys_and_values-returns-in_err-key-clause-came t c = grind (arith, common_steps, entry_of-parts c.entry-item.result)

pub keys_and_values-returns-in_err-given-clause-came : goal.keys_and_values-returns-in_err-given-clause-came
keys_and_values-returns-in_err-given-clause-came t c = grind (arith, common_steps, entry_of-parts c.entry-item.result)

pub keys_and_values-loop-entry-preserved : goal.keys_and_values-loop-entry-preserved
keys_and_values-loop-entry-preserved t c = grind (arith, common_steps, entry_of-parts c.entry-item.result)

pub linked-returns-in_err-truth-clause-came : goal.linked-returns-in_err-truth-clause-came
linked-returns-in_err-truth-clause-came t c = grind (arith, common_steps, link_of-parts c.link-item.result)

pub linked-returns-then-not-branch-clause-came : goal.linked-returns-then-not-branch-clause-came
linked-returns-then-not-branch-clause-came t c = grind (arith, common_steps, link_of-parts c.link-item.result)

pub linked-returns-in_err-right-clause-came : goal.linked-returns-in_err-right-clause-came
linked-returns-in_err-right-clause-came t c = grind (arith, common_steps, link_of-parts c.link-item.result)

pub linked-returns-in_err-last-clause-came : goal.linked-returns-in_err-last-clause-came
linked-returns-in_err-last-clause-came t c = grind (arith, common_steps, link_of-parts c.link-item.result)

pub linked-loop-link-preserved : goal.linked-loop-link-preserved
linked-loop-link-preserved t c = grind (arith, common_steps, link_of-parts c.link-item.result)

pub text-returns-in-Literal-clause-came : goal.text-returns-in-Literal-clause-came
text-returns-in-Literal-clause-came t c = grind (arith, piece_of-Literal c.args.piece.now no_pieces _ _ c.in-Literal.is)

pub value-returns-in_err-test-in-Conditional-clause-came : goal.value-returns-in_err-test-in-Conditional-clause-came
value-returns-in_err-test-in-Conditional-clause-came t c = grind (arith, exp_of-Conditional c.args.e.now _ _ _ c.in-Conditional.is)

pub value-returns-in_err-truth-in-Conditional-clause-came : goal.value-returns-in_err-truth-in-Conditional-clause-came
value-returns-in_err-truth-in-Conditional-clause-came t c = grind (arith, exp_of-Conditional c.args.e.now _ _ _ c.in-Conditional.is)

pub value-returns-then-branch-clause-came : goal.value-returns-then-branch-clause-came
value-returns-then-branch-clause-came t c = grind (arith, exp_of-Conditional c.args.e.now _ _ _ c.in-Conditional.is)

pub value-returns-else-branch-clause-came : goal.value-returns-else-branch-clause-came
value-returns-else-branch-clause-came t c = grind (arith, exp_of-Conditional c.args.e.now _ _ _ c.in-Conditional.is)

pub text-returns-in_err-given-in-Field-clause-came : goal.text-returns-in_err-given-in-Field-clause-came
text-returns-in_err-given-in-Field-clause-came t c = grind (arith, piece_of-Field c.args.piece.now no_pieces _ _ _ _ c.in-Field.is)

pub text-returns-in_ok-spec-in-Field-clause-came : goal.text-returns-in_ok-spec-in-Field-clause-came
text-returns-in_ok-spec-in-Field-clause-came t c = grind (arith, piece_of-Field c.args.piece.now no_pieces _ _ _ _ c.in-Field.is)

pub all_texts-returns-in_err-given-clause-came : goal.all_texts-returns-in_err-given-clause-came
all_texts-returns-in_err-given-clause-came t c = grind (arith, common_steps, pieces-next c.args.names.now.locals.now c.args.names.now.globals.now c.piece-item.result (chained no_pieces (map piece_of (drop (c.loop-piece.piece-index + 1) c.args.pieces.now))) c.loop-piece.texts c.loop-piece.scratch.objects)

pub all_texts-loop-piece-preserved : goal.all_texts-loop-piece-preserved
all_texts-loop-piece-preserved t c = grind (arith, common_steps, pieces-next c.args.names.now.locals.now c.args.names.now.globals.now c.piece-item.result (chained no_pieces (map piece_of (drop (c.loop-piece.piece-index + 1) c.args.pieces.now))) c.loop-piece.texts c.loop-piece.scratch.objects)
