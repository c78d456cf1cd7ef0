use Rattle.std.proofs.Common.{◌≡◌, ◌+◌, drop, map}
use Rattle.pt_tree.specs.Syntax as S
use Rattle.pt_tree.specs.Fold.{all_of, argument_of, chained, clause_of, clauses_of, entry_of, exp_of, formal_of, link_of, piece_of, target_of, targets_of}
use Rattle.pt_tree.specs.Sizes.{all_size, args_size, clauses_size, entries_size, formals_size, links_size, operands_size, pieces_size, targets_size}
use Rattle.pt_act_counts.specs.Parts.{conditions_size}
use Rattle.pt_act_counts.proofs.expressions.+counts.Given as goal

abbrev pub invariant-count_all-loop-item : goal.invariant-count_all-loop-item
invariant-count_all-loop-item l = l.acts + all_size (all_of (map exp_of (drop l.item-index l.items))) ≡ l.fn.acts + all_size (all_of (map exp_of l.items))

abbrev pub invariant-count_operands-loop-operand : goal.invariant-count_operands-loop-operand
invariant-count_operands-loop-operand l =
    l.acts + operands_size (all_of (map exp_of (drop l.operand-index l.rest))) ≡ l.fn.acts + operands_size (all_of (map exp_of l.rest))

abbrev pub invariant-count_links-loop-link : goal.invariant-count_links-loop-link
invariant-count_links-loop-link l =
    l.acts + links_size (chained S.no_links (map link_of (drop l.link-index l.rest))) ≡ l.fn.acts + links_size (chained S.no_links (map link_of l.rest))

abbrev pub invariant-count_entries-loop-entry : goal.invariant-count_entries-loop-entry
invariant-count_entries-loop-entry l = l.acts + entries_size (chained S.no_entries (map entry_of (drop l.entry-index l.entries)))
    ≡ l.fn.acts + entries_size (chained S.no_entries (map entry_of l.entries))

abbrev pub invariant-count_pieces-loop-piece : goal.invariant-count_pieces-loop-piece
invariant-count_pieces-loop-piece l = l.acts + pieces_size (chained S.no_pieces (map piece_of (drop l.piece-index l.pieces)))
    ≡ l.fn.acts + pieces_size (chained S.no_pieces (map piece_of l.pieces))

abbrev pub invariant-count_arguments-loop-argument : goal.invariant-count_arguments-loop-argument
invariant-count_arguments-loop-argument l = l.acts + args_size (chained S.no_args (map argument_of (drop l.argument-index l.arguments)))
    ≡ l.fn.acts + args_size (chained S.no_args (map argument_of l.arguments))

abbrev pub invariant-count_conditions-loop-condition : goal.invariant-count_conditions-loop-condition
invariant-count_conditions-loop-condition l =
    l.acts + conditions_size (map exp_of (drop l.condition-index l.conditions)) ≡ l.fn.acts + conditions_size (map exp_of l.conditions)

abbrev pub invariant-count_clauses-loop-clause : goal.invariant-count_clauses-loop-clause
invariant-count_clauses-loop-clause l =
    l.acts + clauses_size (clauses_of (map clause_of (drop l.clause-index l.clauses))) ≡ l.fn.acts + clauses_size (clauses_of (map clause_of l.clauses))

abbrev pub invariant-count_targets-loop-target : goal.invariant-count_targets-loop-target
invariant-count_targets-loop-target l =
    l.acts + targets_size (targets_of (map target_of (drop l.target-index l.targets))) ≡ l.fn.acts + targets_size (targets_of (map target_of l.targets))

abbrev pub invariant-count_defaults-loop-parameter : goal.invariant-count_defaults-loop-parameter
invariant-count_defaults-loop-parameter l = l.acts + formals_size (chained S.no_formals (map formal_of (drop l.parameter-index l.parameters)))
    ≡ l.fn.acts + formals_size (chained S.no_formals (map formal_of l.parameters))
