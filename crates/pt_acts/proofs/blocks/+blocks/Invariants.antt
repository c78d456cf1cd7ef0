use Rattle.std.proofs.Common.{◌≡◌, ◌++◌, drop, map}
use Rattle.pt_tree.specs.Syntax as S
use Rattle.pt_tree.specs.Fold.{all_of, argument_of, chained, clause_of, clauses_of, entry_of, exp_of, formal_of, link_of, piece_of, target_of, targets_of}
use Rattle.pt_tree.specs.Blocks.{acts_of, blocks_all, blocks_args, blocks_clauses, blocks_entries, blocks_formals, blocks_links, blocks_pieces, blocks_targets}
use Rattle.pt_acts.proofs.blocks.+blocks.Given as goal

abbrev pub invariant-collect_all-loop-item : goal.invariant-collect_all-loop-item
invariant-collect_all-loop-item l = l.table ++ map acts_of (blocks_all (all_of (map exp_of (drop l.item-index l.items)))) ≡ l.fn.table ++ map acts_of (blocks_all (all_of (map exp_of l.items)))

abbrev pub invariant-collect_links-loop-link : goal.invariant-collect_links-loop-link
invariant-collect_links-loop-link l = l.table ++ map acts_of (blocks_links (chained S.no_links (map link_of (drop l.link-index l.rest)))) ≡ l.fn.table ++ map acts_of (blocks_links (chained S.no_links (map link_of l.rest)))

abbrev pub invariant-collect_entries-loop-entry : goal.invariant-collect_entries-loop-entry
invariant-collect_entries-loop-entry l = l.table ++ map acts_of (blocks_entries (chained S.no_entries (map entry_of (drop l.entry-index l.entries)))) ≡ l.fn.table ++ map acts_of (blocks_entries (chained S.no_entries (map entry_of l.entries)))

abbrev pub invariant-collect_pieces-loop-piece : goal.invariant-collect_pieces-loop-piece
invariant-collect_pieces-loop-piece l = l.table ++ map acts_of (blocks_pieces (chained S.no_pieces (map piece_of (drop l.piece-index l.pieces)))) ≡ l.fn.table ++ map acts_of (blocks_pieces (chained S.no_pieces (map piece_of l.pieces)))

abbrev pub invariant-collect_arguments-loop-argument : goal.invariant-collect_arguments-loop-argument
invariant-collect_arguments-loop-argument l = l.table ++ map acts_of (blocks_args (chained S.no_args (map argument_of (drop l.argument-index l.arguments)))) ≡ l.fn.table ++ map acts_of (blocks_args (chained S.no_args (map argument_of l.arguments)))

abbrev pub invariant-collect_clauses-loop-clause : goal.invariant-collect_clauses-loop-clause
invariant-collect_clauses-loop-clause l = l.table ++ map acts_of (blocks_clauses (clauses_of (map clause_of (drop l.clause-index l.clauses)))) ≡ l.fn.table ++ map acts_of (blocks_clauses (clauses_of (map clause_of l.clauses)))

abbrev pub invariant-collect_targets-loop-target : goal.invariant-collect_targets-loop-target
invariant-collect_targets-loop-target l = l.table ++ map acts_of (blocks_targets (targets_of (map target_of (drop l.target-index l.targets)))) ≡ l.fn.table ++ map acts_of (blocks_targets (targets_of (map target_of l.targets)))

abbrev pub invariant-collect_defaults-loop-parameter : goal.invariant-collect_defaults-loop-parameter
invariant-collect_defaults-loop-parameter l = l.table ++ map acts_of (blocks_formals (chained S.no_formals (map formal_of (drop l.parameter-index l.parameters)))) ≡ l.fn.table ++ map acts_of (blocks_formals (chained S.no_formals (map formal_of l.parameters)))
