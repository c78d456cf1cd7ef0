use Rattle.std.proofs.Common.{◌≡◌, ◌++◌, drop, map}
use Rattle.pt_tree.specs.Syntax as S
use Rattle.pt_tree.specs.Fold.{all_of, exp_of, chained, link_of, entry_of, piece_of, argument_of, clauses_of, clause_of, targets_of, target_of, formal_of}
use Rattle.pt_tree.specs.Acts.{acts_all, acts_args, acts_clauses, acts_entries, acts_formals, acts_links, acts_operands, acts_pieces, acts_targets}
use Rattle.pt_acts.specs.Parts.{acts_conditions}
use Rattle.pt_acts.proofs.rows.+rows.Given as goal

abbrev pub invariant-push_all-loop-item : goal.invariant-push_all-loop-item
invariant-push_all-loop-item l = l.rows ++ acts_all (all_of (map exp_of (drop l.item-index l.items))) ≡ l.fn.rows ++ acts_all (all_of (map exp_of l.items))

abbrev pub invariant-push_operands-loop-operand : goal.invariant-push_operands-loop-operand
invariant-push_operands-loop-operand l = l.rows ++ acts_operands l.line.0 (all_of (map exp_of (drop l.operand-index l.rest))) ≡ l.fn.rows ++ acts_operands l.line.0 (all_of (map exp_of l.rest))

abbrev pub invariant-push_links-loop-link : goal.invariant-push_links-loop-link
invariant-push_links-loop-link l = l.rows ++ acts_links l.line.0 (chained S.no_links (map link_of (drop l.link-index l.rest))) ≡ l.fn.rows ++ acts_links l.line.0 (chained S.no_links (map link_of l.rest))

abbrev pub invariant-push_entries-loop-entry : goal.invariant-push_entries-loop-entry
invariant-push_entries-loop-entry l = l.rows ++ acts_entries (chained S.no_entries (map entry_of (drop l.entry-index l.entries))) ≡ l.fn.rows ++ acts_entries (chained S.no_entries (map entry_of l.entries))

abbrev pub invariant-push_pieces-loop-piece : goal.invariant-push_pieces-loop-piece
invariant-push_pieces-loop-piece l = l.rows ++ acts_pieces (chained S.no_pieces (map piece_of (drop l.piece-index l.pieces))) ≡ l.fn.rows ++ acts_pieces (chained S.no_pieces (map piece_of l.pieces))

abbrev pub invariant-push_arguments-loop-argument : goal.invariant-push_arguments-loop-argument
invariant-push_arguments-loop-argument l = l.rows ++ acts_args l.line.0 (chained S.no_args (map argument_of (drop l.argument-index l.arguments))) ≡ l.fn.rows ++ acts_args l.line.0 (chained S.no_args (map argument_of l.arguments))

abbrev pub invariant-push_conditions-loop-condition : goal.invariant-push_conditions-loop-condition
invariant-push_conditions-loop-condition l = l.rows ++ acts_conditions l.line.0 (map exp_of (drop l.condition-index l.conditions)) ≡ l.fn.rows ++ acts_conditions l.line.0 (map exp_of l.conditions)

abbrev pub invariant-push_clauses-loop-clause : goal.invariant-push_clauses-loop-clause
invariant-push_clauses-loop-clause l = l.rows ++ acts_clauses l.line.0 (clauses_of (map clause_of (drop l.clause-index l.clauses))) ≡ l.fn.rows ++ acts_clauses l.line.0 (clauses_of (map clause_of l.clauses))

abbrev pub invariant-push_targets-loop-target : goal.invariant-push_targets-loop-target
invariant-push_targets-loop-target l = l.rows ++ acts_targets (targets_of (map target_of (drop l.target-index l.targets))) ≡ l.fn.rows ++ acts_targets (targets_of (map target_of l.targets))

abbrev pub invariant-push_defaults-loop-parameter : goal.invariant-push_defaults-loop-parameter
invariant-push_defaults-loop-parameter l = l.rows ++ acts_formals (chained S.no_formals (map formal_of (drop l.parameter-index l.parameters))) ≡ l.fn.rows ++ acts_formals (chained S.no_formals (map formal_of l.parameters))
