use Rattle.std.proofs.Common.{◌≡◌, drop, map}
use Rattle.pt_tree.specs.Fold.{chained}
use Rattle.pt_wide.specs.Fold.{all_of, argument_of, clause_of, entries_of, entry_of, exp_of, formal_of, link_of, piece_of}
use Rattle.pt_wide.specs.Syntax as W
use Rattle.pt_refine_expr.specs.Faults.{faults_all, faults_args, faults_clauses, faults_entries, faults_formals, faults_links, faults_pieces, faults_targets}
use Rattle.pt_refine_expr.specs.First.{first_of}
use Rattle.pt_refine_expr.proofs.expression_faults.+expressions.Given as goal

abbrev pub invariant-check_all-loop-item : goal.invariant-check_all-loop-item
invariant-check_all-loop-item l = first_of (faults_all (all_of (map exp_of (drop l.item-index l.items)))) ≡ first_of (faults_all (all_of (map exp_of l.items)))

abbrev pub invariant-check_pieces-loop-piece : goal.invariant-check_pieces-loop-piece
invariant-check_pieces-loop-piece l = first_of (faults_pieces (chained W.no_pieces (map piece_of (drop l.piece-index l.pieces)))) ≡ first_of (faults_pieces (chained W.no_pieces (map piece_of l.pieces)))

abbrev pub invariant-check_entries-loop-entry : goal.invariant-check_entries-loop-entry
invariant-check_entries-loop-entry l = first_of (faults_entries (entries_of (map entry_of (drop l.entry-index l.entries)))) ≡ first_of (faults_entries (entries_of (map entry_of l.entries)))

abbrev pub invariant-check_links-loop-link : goal.invariant-check_links-loop-link
invariant-check_links-loop-link l = first_of (faults_links (chained W.no_links (map link_of (drop l.link-index l.rest)))) ≡ first_of (faults_links (chained W.no_links (map link_of l.rest)))

abbrev pub invariant-check_arguments-loop-argument : goal.invariant-check_arguments-loop-argument
invariant-check_arguments-loop-argument l = first_of (faults_args (chained W.no_args (map argument_of (drop l.argument-index l.arguments)))) ≡ first_of (faults_args (chained W.no_args (map argument_of l.arguments)))

abbrev pub invariant-check_clauses-loop-clause : goal.invariant-check_clauses-loop-clause
invariant-check_clauses-loop-clause l = first_of (faults_clauses (chained W.no_clauses (map clause_of (drop l.clause-index l.clauses)))) ≡ first_of (faults_clauses (chained W.no_clauses (map clause_of l.clauses)))

abbrev pub invariant-check_formals-loop-parameter : goal.invariant-check_formals-loop-parameter
invariant-check_formals-loop-parameter l = first_of (faults_formals (chained W.no_formals (map formal_of (drop l.parameter-index l.parameters)))) ≡ first_of (faults_formals (chained W.no_formals (map formal_of l.parameters)))

abbrev pub invariant-check_targets-loop-item : goal.invariant-check_targets-loop-item
invariant-check_targets-loop-item l = first_of (faults_targets l.stars (all_of (map exp_of (drop l.item-index l.items)))) ≡ first_of (faults_targets l.fn.stars (all_of (map exp_of l.items)))
