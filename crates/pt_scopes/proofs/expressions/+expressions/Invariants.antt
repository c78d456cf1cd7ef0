use Rattle.std.proofs.Common.{◌≡◌, drop, map}
use Rattle.pt_scopes.specs.Behind.{behind}
use Rattle.pt_scopes.specs.Mentions.{places_all, places_args, places_clauses, places_conditions, places_entries, places_formals, places_links, places_pieces, places_targets}
use Rattle.pt_tree.specs.Fold.{all_of, argument_of, chained, clause_of, clauses_of, entry_of, exp_of, formal_of, link_of, piece_of, target_of, targets_of}
use Rattle.pt_tree.specs.Syntax as S
use Rattle.pt_scopes.proofs.expressions.+expressions.Given as goal

abbrev pub invariant-all-loop-item : goal.invariant-all-loop-item
invariant-all-loop-item l = behind l.g (places_all l.at l.class (all_of (map exp_of (drop l.item-index l.items)))) ≡ behind l.fn.g (places_all l.at l.class (all_of (map exp_of l.items)))

abbrev pub invariant-links-loop-link : goal.invariant-links-loop-link
invariant-links-loop-link l = behind l.g (places_links l.at l.class (chained S.no_links (map link_of (drop l.link-index l.rest)))) ≡ behind l.fn.g (places_links l.at l.class (chained S.no_links (map link_of l.rest)))

abbrev pub invariant-entries-loop-entry : goal.invariant-entries-loop-entry
invariant-entries-loop-entry l = behind l.g (places_entries l.at l.class (chained S.no_entries (map entry_of (drop l.entry-index l.items)))) ≡ behind l.fn.g (places_entries l.at l.class (chained S.no_entries (map entry_of l.items)))

abbrev pub invariant-pieces-loop-part : goal.invariant-pieces-loop-part
invariant-pieces-loop-part l = behind l.g (places_pieces l.at l.class (chained S.no_pieces (map piece_of (drop l.part-index l.parts)))) ≡ behind l.fn.g (places_pieces l.at l.class (chained S.no_pieces (map piece_of l.parts)))

abbrev pub invariant-arguments-loop-value : goal.invariant-arguments-loop-value
invariant-arguments-loop-value l = behind l.g (places_args l.at l.class (chained S.no_args (map argument_of (drop l.value-index l.values)))) ≡ behind l.fn.g (places_args l.at l.class (chained S.no_args (map argument_of l.values)))

abbrev pub invariant-conditions-loop-test : goal.invariant-conditions-loop-test
invariant-conditions-loop-test l = behind l.g (places_conditions l.at l.class (map exp_of (drop l.test-index l.tests))) ≡ behind l.fn.g (places_conditions l.at l.class (map exp_of l.tests))

abbrev pub invariant-clauses-loop-clause : goal.invariant-clauses-loop-clause
invariant-clauses-loop-clause l = behind l.g (places_clauses l.at l.class (clauses_of (map clause_of (drop l.clause-index l.rest)))) ≡ behind l.fn.g (places_clauses l.at l.class (clauses_of (map clause_of l.rest)))

abbrev pub invariant-targets-loop-part : goal.invariant-targets-loop-part
invariant-targets-loop-part l = behind l.g (places_targets l.at l.class (targets_of (map target_of (drop l.part-index l.parts)))) ≡ behind l.fn.g (places_targets l.at l.class (targets_of (map target_of l.parts)))

abbrev pub invariant-formals-loop-p : goal.invariant-formals-loop-p
invariant-formals-loop-p l = behind l.g (places_formals l.at l.inside l.class (chained S.no_formals (map formal_of (drop l.p-index l.names)))) ≡ behind l.fn.g (places_formals l.at l.inside l.class (chained S.no_formals (map formal_of l.names)))
