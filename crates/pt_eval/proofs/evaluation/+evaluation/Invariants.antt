use Rattle.std.proofs.Common.{◌≡◌, [], drop, map}
use Rattle.pt_tree.specs.Syntax as S
use Rattle.pt_tree.specs.Fold.{all_of, chained, entry_of, exp_of, link_of, piece_of}
use Rattle.pt_eval.specs.Evaluation.{anded, entries_of, linked, ored, texts_of, values_of}
use Rattle.pt_eval.proofs.evaluation.+evaluation.Given as goal

abbrev pub invariant-values-loop-item : goal.invariant-values-loop-item
invariant-values-loop-item l = record {
  came : values_of l.names.locals.now l.names.globals.now (all_of (map exp_of (drop l.item-index l.items))) l.values l.scratch.objects
      ≡ values_of l.names.locals.now l.names.globals.now (all_of (map exp_of l.items)) [] l.fn.scratch.objects;
  below : l.scratch.below ≡ l.fn.scratch.below;
}

abbrev pub invariant-keys_and_values-loop-entry : goal.invariant-keys_and_values-loop-entry
invariant-keys_and_values-loop-entry l = record {
  came : entries_of l.names.locals.now l.names.globals.now (chained S.no_entries (map entry_of (drop l.entry-index l.entries))) l.values l.scratch.objects
      ≡ entries_of l.names.locals.now l.names.globals.now (chained S.no_entries (map entry_of l.entries)) [] l.fn.scratch.objects;
  below : l.scratch.below ≡ l.fn.scratch.below;
}

abbrev pub invariant-all_texts-loop-piece : goal.invariant-all_texts-loop-piece
invariant-all_texts-loop-piece l = record {
  came : texts_of l.names.locals.now l.names.globals.now (chained S.no_pieces (map piece_of (drop l.piece-index l.pieces))) l.texts l.scratch.objects
      ≡ texts_of l.names.locals.now l.names.globals.now (chained S.no_pieces (map piece_of l.pieces)) [] l.fn.scratch.objects;
  below : l.scratch.below ≡ l.fn.scratch.below;
}

abbrev pub invariant-linked-loop-link : goal.invariant-linked-loop-link
invariant-linked-loop-link l = record {
  came : linked l.names.locals.now l.names.globals.now (chained S.no_links (map link_of (drop l.link-index l.rest))) l.left l.last l.scratch.objects
      ≡ linked l.names.locals.now l.names.globals.now (chained S.no_links (map link_of l.rest)) l.fn.left l.fn.first l.fn.scratch.objects;
  below : l.scratch.below ≡ l.fn.scratch.below;
}

abbrev pub invariant-anded-loop-operand : goal.invariant-anded-loop-operand
invariant-anded-loop-operand l = record {
  came : anded l.names.locals.now l.names.globals.now (all_of (map exp_of (drop l.operand-index l.rest))) l.last l.scratch.objects
      ≡ anded l.names.locals.now l.names.globals.now (all_of (map exp_of l.rest)) l.fn.first l.fn.scratch.objects;
  below : l.scratch.below ≡ l.fn.scratch.below;
}

abbrev pub invariant-ored-loop-operand : goal.invariant-ored-loop-operand
invariant-ored-loop-operand l = record {
  came : ored l.names.locals.now l.names.globals.now (all_of (map exp_of (drop l.operand-index l.rest))) l.last l.scratch.objects
      ≡ ored l.names.locals.now l.names.globals.now (all_of (map exp_of l.rest)) l.fn.first l.fn.scratch.objects;
  below : l.scratch.below ≡ l.fn.scratch.below;
}
