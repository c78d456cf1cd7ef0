use Rattle.std.proofs.Common.{drop}
use Rattle.pt_refine_expr.specs.Blocks.{blocks_all, blocks_args, blocks_clauses, blocks_entries, blocks_formals, blocks_links, blocks_pieces}
use Rattle.pt_refine_expr.specs.Narrow.{narrow_all, narrow_args, narrow_clauses, narrow_entries, narrow_formals, narrow_links, narrow_pieces, narrow_targets}
use Rattle.pt_refine_expr.specs.Narrowed.{put_clause, wide_args, wide_clauses, wide_entries, wide_exps, wide_formals, wide_links, wide_pieces}
use Rattle.pt_tree.specs.Fold as T
use Rattle.pt_tree.specs.Syntax as P
use Rattle.pt_refine_expr.proofs.Building.{Walk}
use Rattle.pt_refine_expr.proofs.expression_trees.+trees.Given as goal

abbrev pub invariant-all-loop-item : goal.invariant-all-loop-item
invariant-all-loop-item l = Walk (λ e. P.more_exps (T.exp_of e)) l.made (narrow_all l.fn.n (wide_exps l.items)) (narrow_all l.n (wide_exps (drop l.item-index l.items))) l.fn.n (blocks_all (wide_exps l.items)) l.n (blocks_all (wide_exps (drop l.item-index l.items)))

abbrev pub invariant-pieces-loop-part : goal.invariant-pieces-loop-part
invariant-pieces-loop-part l = Walk T.piece_of l.made (narrow_pieces l.fn.n (wide_pieces l.parts)) (narrow_pieces l.n (wide_pieces (drop l.part-index l.parts))) l.fn.n (blocks_pieces (wide_pieces l.parts)) l.n (blocks_pieces (wide_pieces (drop l.part-index l.parts)))

abbrev pub invariant-entries-loop-item : goal.invariant-entries-loop-item
invariant-entries-loop-item l = Walk T.entry_of l.made (narrow_entries l.fn.n (wide_entries l.items)) (narrow_entries l.n (wide_entries (drop l.item-index l.items))) l.fn.n (blocks_entries (wide_entries l.items)) l.n (blocks_entries (wide_entries (drop l.item-index l.items)))

abbrev pub invariant-links-loop-link : goal.invariant-links-loop-link
invariant-links-loop-link l = Walk T.link_of l.made (narrow_links l.fn.n (wide_links l.rest)) (narrow_links l.n (wide_links (drop l.link-index l.rest))) l.fn.n (blocks_links (wide_links l.rest)) l.n (blocks_links (wide_links (drop l.link-index l.rest)))

abbrev pub invariant-arguments-loop-value : goal.invariant-arguments-loop-value
invariant-arguments-loop-value l = Walk T.argument_of l.made (narrow_args l.fn.n (wide_args l.values)) (narrow_args l.n (wide_args (drop l.value-index l.values))) l.fn.n (blocks_args (wide_args l.values)) l.n (blocks_args (wide_args (drop l.value-index l.values)))

abbrev pub invariant-clauses-loop-one : goal.invariant-clauses-loop-one
invariant-clauses-loop-one l = Walk put_clause l.made (narrow_clauses l.fn.n (wide_clauses l.rest)) (narrow_clauses l.n (wide_clauses (drop l.one-index l.rest))) l.fn.n (blocks_clauses (wide_clauses l.rest)) l.n (blocks_clauses (wide_clauses (drop l.one-index l.rest)))

abbrev pub invariant-formals-loop-one : goal.invariant-formals-loop-one
invariant-formals-loop-one l = Walk T.formal_of l.made (narrow_formals l.fn.n (wide_formals l.names)) (narrow_formals l.n (wide_formals (drop l.one-index l.names))) l.fn.n (blocks_formals (wide_formals l.names)) l.n (blocks_formals (wide_formals (drop l.one-index l.names)))

abbrev pub invariant-targets-loop-item : goal.invariant-targets-loop-item
invariant-targets-loop-item l = Walk (λ t. P.more_targets (T.target_of t)) l.made (narrow_targets l.fn.n l.fn.stars (wide_exps l.items)) (narrow_targets l.n l.stars (wide_exps (drop l.item-index l.items))) l.fn.n (blocks_all (wide_exps l.items)) l.n (blocks_all (wide_exps (drop l.item-index l.items)))
