use Rattle.std.proofs.Common.{◌≡◌, drop, map}
use Rattle.pt_tree.specs.Syntax as S
use Rattle.pt_tree.specs.Fold.{all_of, argument_of, chained, clause_of, clauses_of, entry_of, exp_of, formal_of, link_of, piece_of, target_of, targets_of}
use Rattle.pt_supported.specs.Built.{unbuilt_all, unbuilt_args, unbuilt_clauses, unbuilt_entries, unbuilt_formals, unbuilt_links, unbuilt_pieces, unbuilt_targets}
use Rattle.pt_supported.proofs.expressions.+expressions.Given as goal

abbrev pub invariant-unbuilt_all-loop-item : goal.invariant-unbuilt_all-loop-item
invariant-unbuilt_all-loop-item l = unbuilt_all (all_of (map exp_of (drop l.item-index l.items))) ≡ unbuilt_all (all_of (map exp_of l.items))

abbrev pub invariant-unbuilt_pieces-loop-piece : goal.invariant-unbuilt_pieces-loop-piece
invariant-unbuilt_pieces-loop-piece l =
    unbuilt_pieces (chained S.no_pieces (map piece_of (drop l.piece-index l.pieces))) ≡ unbuilt_pieces (chained S.no_pieces (map piece_of l.pieces))

abbrev pub invariant-unbuilt_entries-loop-entry : goal.invariant-unbuilt_entries-loop-entry
invariant-unbuilt_entries-loop-entry l =
    unbuilt_entries (chained S.no_entries (map entry_of (drop l.entry-index l.entries))) ≡ unbuilt_entries (chained S.no_entries (map entry_of l.entries))

abbrev pub invariant-unbuilt_links-loop-link : goal.invariant-unbuilt_links-loop-link
invariant-unbuilt_links-loop-link l =
    unbuilt_links (chained S.no_links (map link_of (drop l.link-index l.rest))) ≡ unbuilt_links (chained S.no_links (map link_of l.rest))

abbrev pub invariant-unbuilt_arguments-loop-argument : goal.invariant-unbuilt_arguments-loop-argument
invariant-unbuilt_arguments-loop-argument l =
    unbuilt_args (chained S.no_args (map argument_of (drop l.argument-index l.arguments))) ≡ unbuilt_args (chained S.no_args (map argument_of l.arguments))

abbrev pub invariant-unbuilt_formals-loop-parameter : goal.invariant-unbuilt_formals-loop-parameter
invariant-unbuilt_formals-loop-parameter l =
    unbuilt_formals (chained S.no_formals (map formal_of (drop l.parameter-index l.parameters))) ≡ unbuilt_formals (chained S.no_formals (map formal_of l.parameters))

abbrev pub invariant-unbuilt_clauses-loop-clause : goal.invariant-unbuilt_clauses-loop-clause
invariant-unbuilt_clauses-loop-clause l =
    unbuilt_clauses (clauses_of (map clause_of (drop l.clause-index l.clauses))) ≡ unbuilt_clauses (clauses_of (map clause_of l.clauses))

abbrev pub invariant-unbuilt_targets-loop-target : goal.invariant-unbuilt_targets-loop-target
invariant-unbuilt_targets-loop-target l =
    unbuilt_targets (targets_of (map target_of (drop l.target-index l.targets))) ≡ unbuilt_targets (targets_of (map target_of l.targets))
