use Rattle.std.proofs.Common.{◌≡◌, drop, map}
use Rattle.pt_tree.specs.Syntax as S
use Rattle.pt_tree.specs.Fold.{all_of, chained, entry_of, exp_of, link_of, piece_of}
use Rattle.pt_eval.specs.Purity.{run_in_all, run_in_entries, run_in_links, run_in_pieces}
use Rattle.pt_eval.proofs.purity.+purity.Given as goal

abbrev pub invariant-run_in_all-loop-item : goal.invariant-run_in_all-loop-item
invariant-run_in_all-loop-item l = run_in_all (all_of (map exp_of (drop l.item-index l.items))) ≡ run_in_all (all_of (map exp_of l.items))

abbrev pub invariant-run_in_pieces-loop-piece : goal.invariant-run_in_pieces-loop-piece
invariant-run_in_pieces-loop-piece l = run_in_pieces (chained S.no_pieces (map piece_of (drop l.piece-index l.pieces))) ≡ run_in_pieces (chained S.no_pieces (map piece_of l.pieces))

abbrev pub invariant-run_in_entries-loop-entry : goal.invariant-run_in_entries-loop-entry
invariant-run_in_entries-loop-entry l = run_in_entries (chained S.no_entries (map entry_of (drop l.entry-index l.entries))) ≡ run_in_entries (chained S.no_entries (map entry_of l.entries))

abbrev pub invariant-run_in_links-loop-link : goal.invariant-run_in_links-loop-link
invariant-run_in_links-loop-link l = run_in_links (chained S.no_links (map link_of (drop l.link-index l.rest))) ≡ run_in_links (chained S.no_links (map link_of l.rest))
