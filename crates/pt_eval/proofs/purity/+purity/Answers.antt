use Rattle.std.proofs.Common.{arith}
use Rattle.std.proofs.lemmas.Grind.{common_steps}
use Rattle.pt_tree.proofs.Folds.{exp_of-Slice, exp_of-Call, exp_of-Lambda, exp_of-ListComprehension, exp_of-SetComprehension, exp_of-DictComprehension, exp_of-Generator, exp_of-Yield, exp_of-YieldFrom}
use Rattle.pt_eval.proofs.Walk.{or-assoc, entries-first, links-first, pieces-first}
use Rattle.pt_eval.proofs.purity.+purity.Goals as goal

pub run_in-returns-in-Slice : goal.run_in-returns-in-Slice
run_in-returns-in-Slice t c = grind (arith, exp_of-Slice c.args.e.now _ _ _ c.in-Slice.is)

pub run_in_pieces-returns-then-is_some : goal.run_in_pieces-returns-then-is_some
run_in_pieces-returns-then-is_some t c = grind (arith, common_steps, or-assoc, pieces-first c.piece-item.result)

pub run_in_pieces-loop-piece-preserved : goal.run_in_pieces-loop-piece-preserved
run_in_pieces-loop-piece-preserved t c = grind (arith, common_steps, or-assoc, pieces-first c.piece-item.result)

pub run_in_entries-returns-then-is_some : goal.run_in_entries-returns-then-is_some
run_in_entries-returns-then-is_some t c = grind (arith, common_steps, or-assoc, entries-first c.entry-item.result)

pub run_in_entries-loop-entry-preserved : goal.run_in_entries-loop-entry-preserved
run_in_entries-loop-entry-preserved t c = grind (arith, common_steps, or-assoc, entries-first c.entry-item.result)

pub run_in_links-returns-then-is_some : goal.run_in_links-returns-then-is_some
run_in_links-returns-then-is_some t c = grind (arith, common_steps, or-assoc, links-first c.link-item.result)

pub run_in_links-loop-link-preserved : goal.run_in_links-loop-link-preserved
run_in_links-loop-link-preserved t c = grind (arith, common_steps, or-assoc, links-first c.link-item.result)

pub run_in-returns-in-Call : goal.run_in-returns-in-Call
run_in-returns-in-Call t c = grind (arith, exp_of-Call c.args.e.now _ _ c.in-Call.is)

pub run_in-returns-in-Lambda : goal.run_in-returns-in-Lambda
run_in-returns-in-Lambda t c = grind (arith, exp_of-Lambda c.args.e.now _ _ _ c.in-Lambda.is)

pub run_in-returns-in-ListComprehension : goal.run_in-returns-in-ListComprehension
run_in-returns-in-ListComprehension t c = grind (arith, exp_of-ListComprehension c.args.e.now _ _ _ c.in-ListComprehension.is)

pub run_in-returns-in-SetComprehension : goal.run_in-returns-in-SetComprehension
run_in-returns-in-SetComprehension t c = grind (arith, exp_of-SetComprehension c.args.e.now _ _ _ c.in-SetComprehension.is)

pub run_in-returns-in-DictComprehension : goal.run_in-returns-in-DictComprehension
run_in-returns-in-DictComprehension t c = grind (arith, exp_of-DictComprehension c.args.e.now _ _ _ _ c.in-DictComprehension.is)

pub run_in-returns-in-Generator : goal.run_in-returns-in-Generator
run_in-returns-in-Generator t c = grind (arith, exp_of-Generator c.args.e.now _ _ _ _ c.in-Generator.is)

pub run_in-returns-in-Yield : goal.run_in-returns-in-Yield
run_in-returns-in-Yield t c = grind (arith, exp_of-Yield c.args.e.now _ c.in-Yield.is)

pub run_in-returns-in-YieldFrom : goal.run_in-returns-in-YieldFrom
run_in-returns-in-YieldFrom t c = grind (arith, exp_of-YieldFrom c.args.e.now _ c.in-YieldFrom.is)
