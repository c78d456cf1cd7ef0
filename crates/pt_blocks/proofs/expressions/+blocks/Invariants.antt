use Rattle.std.proofs.Common.{◌≡◌, drop, map}
use Rattle.pt_tree.specs.Syntax as S
use Rattle.pt_tree.specs.Fold.{all_of, argument_of, chained, clause_of, clauses_of, entry_of, exp_of, formal_of, link_of, piece_of, target_of, targets_of}
use Rattle.pt_tree.specs.Blocks.{blocks_all, blocks_args, blocks_clauses, blocks_entries, blocks_formals, blocks_links, blocks_pieces, blocks_targets}
use Rattle.pt_blocks.specs.Visits.{behind_blocks}
use Rattle.pt_blocks.proofs.expressions.+blocks.Given as goal

abbrev pub invariant-visit_all-loop-item : goal.invariant-visit_all-loop-item
invariant-visit_all-loop-item g l = behind_blocks g.V.BlockVisitor.behind (blocks_all (all_of (map exp_of (drop l.item-index l.items)))) l.visitor ≡ behind_blocks g.V.BlockVisitor.behind (blocks_all (all_of (map exp_of l.items))) l.fn.visitor

abbrev pub invariant-visit_links-loop-link : goal.invariant-visit_links-loop-link
invariant-visit_links-loop-link g l = behind_blocks g.V.BlockVisitor.behind (blocks_links (chained S.no_links (map link_of (drop l.link-index l.rest)))) l.visitor ≡ behind_blocks g.V.BlockVisitor.behind (blocks_links (chained S.no_links (map link_of l.rest))) l.fn.visitor

abbrev pub invariant-visit_entries-loop-entry : goal.invariant-visit_entries-loop-entry
invariant-visit_entries-loop-entry g l = behind_blocks g.V.BlockVisitor.behind (blocks_entries (chained S.no_entries (map entry_of (drop l.entry-index l.entries)))) l.visitor ≡ behind_blocks g.V.BlockVisitor.behind (blocks_entries (chained S.no_entries (map entry_of l.entries))) l.fn.visitor

abbrev pub invariant-visit_pieces-loop-piece : goal.invariant-visit_pieces-loop-piece
invariant-visit_pieces-loop-piece g l = behind_blocks g.V.BlockVisitor.behind (blocks_pieces (chained S.no_pieces (map piece_of (drop l.piece-index l.pieces)))) l.visitor ≡ behind_blocks g.V.BlockVisitor.behind (blocks_pieces (chained S.no_pieces (map piece_of l.pieces))) l.fn.visitor

abbrev pub invariant-visit_arguments-loop-argument : goal.invariant-visit_arguments-loop-argument
invariant-visit_arguments-loop-argument g l = behind_blocks g.V.BlockVisitor.behind (blocks_args (chained S.no_args (map argument_of (drop l.argument-index l.arguments)))) l.visitor ≡ behind_blocks g.V.BlockVisitor.behind (blocks_args (chained S.no_args (map argument_of l.arguments))) l.fn.visitor

abbrev pub invariant-visit_clauses-loop-clause : goal.invariant-visit_clauses-loop-clause
invariant-visit_clauses-loop-clause g l = behind_blocks g.V.BlockVisitor.behind (blocks_clauses (clauses_of (map clause_of (drop l.clause-index l.clauses)))) l.visitor ≡ behind_blocks g.V.BlockVisitor.behind (blocks_clauses (clauses_of (map clause_of l.clauses))) l.fn.visitor

abbrev pub invariant-visit_targets-loop-target : goal.invariant-visit_targets-loop-target
invariant-visit_targets-loop-target g l = behind_blocks g.V.BlockVisitor.behind (blocks_targets (targets_of (map target_of (drop l.target-index l.targets)))) l.visitor ≡ behind_blocks g.V.BlockVisitor.behind (blocks_targets (targets_of (map target_of l.targets))) l.fn.visitor

abbrev pub invariant-visit_defaults-loop-parameter : goal.invariant-visit_defaults-loop-parameter
invariant-visit_defaults-loop-parameter g l = behind_blocks g.V.BlockVisitor.behind (blocks_formals (chained S.no_formals (map formal_of (drop l.parameter-index l.parameters)))) l.visitor ≡ behind_blocks g.V.BlockVisitor.behind (blocks_formals (chained S.no_formals (map formal_of l.parameters))) l.fn.visitor
