use Rattle.std.proofs.Common.{◌≡◌, drop, map}
use Rattle.pt_block_shapes.specs.outliner.Outline.{behind}
use Rattle.pt_block_shapes.specs.outliner.Parts.{outline_all, outline_args, outline_clauses, outline_conditions, outline_entries, outline_formals, outline_links, outline_operands, outline_pieces, outline_targets}
use Rattle.pt_tree.specs.Fold.{all_of, argument_of, chained, clause_of, clauses_of, entry_of, exp_of, formal_of, link_of, piece_of, target_of, targets_of}
use Rattle.pt_tree.specs.Syntax as S
use Rattle.pt_block_shapes.proofs.outliner.expressions.+expressions.Given as goal

abbrev pub invariant-all-loop-item : goal.invariant-all-loop-item
invariant-all-loop-item l = behind l.o (outline_all l.evaluated l.class (all_of (map exp_of (drop l.item-index l.items)))) ≡ behind l.fn.o (outline_all l.evaluated l.class (all_of (map exp_of l.items)))

abbrev pub invariant-operands-loop-item : goal.invariant-operands-loop-item
invariant-operands-loop-item l = behind l.o (outline_operands l.evaluated l.class (all_of (map exp_of (drop l.item-index l.items)))) ≡ behind l.fn.o (outline_operands l.evaluated l.class (all_of (map exp_of l.items)))

abbrev pub invariant-conditions-loop-test : goal.invariant-conditions-loop-test
invariant-conditions-loop-test l = behind l.o (outline_conditions l.evaluated l.class (map exp_of (drop l.test-index l.tests))) ≡ behind l.fn.o (outline_conditions l.evaluated l.class (map exp_of l.tests))

abbrev pub invariant-links-loop-link : goal.invariant-links-loop-link
invariant-links-loop-link l = behind l.o (outline_links l.evaluated l.class (chained S.no_links (map link_of (drop l.link-index l.rest)))) ≡ behind l.fn.o (outline_links l.evaluated l.class (chained S.no_links (map link_of l.rest)))

abbrev pub invariant-entries-loop-entry : goal.invariant-entries-loop-entry
invariant-entries-loop-entry l = behind l.o (outline_entries l.evaluated l.class (chained S.no_entries (map entry_of (drop l.entry-index l.items)))) ≡ behind l.fn.o (outline_entries l.evaluated l.class (chained S.no_entries (map entry_of l.items)))

abbrev pub invariant-pieces-loop-part : goal.invariant-pieces-loop-part
invariant-pieces-loop-part l = behind l.o (outline_pieces l.evaluated l.class (chained S.no_pieces (map piece_of (drop l.part-index l.parts)))) ≡ behind l.fn.o (outline_pieces l.evaluated l.class (chained S.no_pieces (map piece_of l.parts)))

abbrev pub invariant-passed-loop-value : goal.invariant-passed-loop-value
invariant-passed-loop-value l = behind l.o (outline_args l.evaluated l.class (chained S.no_args (map argument_of (drop l.value-index l.values)))) ≡ behind l.fn.o (outline_args l.evaluated l.class (chained S.no_args (map argument_of l.values)))

abbrev pub invariant-clauses-loop-clause : goal.invariant-clauses-loop-clause
invariant-clauses-loop-clause l = behind l.o (outline_clauses l.evaluated l.class (clauses_of (map clause_of (drop l.clause-index l.list)))) ≡ behind l.fn.o (outline_clauses l.evaluated l.class (clauses_of (map clause_of l.list)))

abbrev pub invariant-targets-loop-part : goal.invariant-targets-loop-part
invariant-targets-loop-part l = behind l.o (outline_targets l.evaluated l.class (targets_of (map target_of (drop l.part-index l.parts)))) ≡ behind l.fn.o (outline_targets l.evaluated l.class (targets_of (map target_of l.parts)))

abbrev pub invariant-formals-loop-p : goal.invariant-formals-loop-p
invariant-formals-loop-p l = behind l.o (outline_formals l.evaluated l.class (chained S.no_formals (map formal_of (drop l.p-index l.names)))) ≡ behind l.fn.o (outline_formals l.evaluated l.class (chained S.no_formals (map formal_of l.names)))
