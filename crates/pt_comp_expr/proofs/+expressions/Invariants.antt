use Rattle.std.proofs.Common.{◌≡◌, ◌+◌, drop, map}
use Rattle.pt_tree.specs.Syntax as S
use Rattle.pt_tree.specs.Fold.{all_of, argument_of, chained, clause_of, entry_of, exp_of, formal_of, link_of, piece_of, target_of, targets_of}
use Rattle.pt_write_leaves.specs.pt_expr_forms.Behind.{behind_all, behind_args, behind_defaults, behind_entries, behind_links, behind_operands, behind_pieces, behind_targets, defaults_count, links_ended}
use Rattle.pt_write_leaves.specs.pt_expr_forms.Loops.{behind_clauses, behind_conditions, last_loop}
use Rattle.pt_comp_expr.proofs.+expressions.Given as goal

abbrev pub invariant-operands::display_code-loop-item : goal.invariant-operands::display_code-loop-item
invariant-operands::display_code-loop-item l = behind_all l.at.names.now l.at.within.now (all_of (map exp_of (drop l.item-index l.items))) l.due l.w
    ≡ behind_all l.at.names.now l.at.within.now (all_of (map exp_of l.items)) l.fn.again l.fn.w

abbrev pub invariant-operands::dictionary-loop-entry : goal.invariant-operands::dictionary-loop-entry
invariant-operands::dictionary-loop-entry l = behind_entries l.at.names.now l.at.within.now (chained S.no_entries (map entry_of (drop l.entry-index l.entries))) l.due l.w
    ≡ behind_entries l.at.names.now l.at.within.now (chained S.no_entries (map entry_of l.entries)) l.fn.again l.fn.w

abbrev pub invariant-strings::parts-loop-piece : goal.invariant-strings::parts-loop-piece
invariant-strings::parts-loop-piece l = behind_pieces l.at.names.now l.at.within.now (chained S.no_pieces (map piece_of (drop l.piece-index l.pieces))) l.due l.w
    ≡ behind_pieces l.at.names.now l.at.within.now (chained S.no_pieces (map piece_of l.pieces)) l.fn.again l.fn.w

abbrev pub invariant-operands::operands-loop-operand : goal.invariant-operands::operands-loop-operand
invariant-operands::operands-loop-operand l = behind_operands l.at.names.now l.at.within.now l.jump (all_of (map exp_of (drop l.operand-index l.rest))) l.end l.line.0 l.w
    ≡ behind_operands l.at.names.now l.at.within.now l.jump (all_of (map exp_of l.rest)) l.end l.line.0 l.fn.w

abbrev pub invariant-operands::arguments-loop-each : goal.invariant-operands::arguments-loop-each
invariant-operands::arguments-loop-each l = behind_args l.at.names.now l.at.within.now (chained S.no_args (map argument_of (drop l.each-index l.arguments))) l.line.0 l.w
    ≡ behind_args l.at.names.now l.at.within.now (chained S.no_args (map argument_of l.arguments)) l.line.0 l.fn.w

abbrev pub invariant-functions::defaults-loop-parameter : goal.invariant-functions::defaults-loop-parameter
invariant-functions::defaults-loop-parameter l = record {
  code : behind_defaults l.at.names.now l.at.within.now (chained S.no_formals (map formal_of (drop l.parameter-index l.parameters))) l.due l.w
      ≡ behind_defaults l.at.names.now l.at.within.now (chained S.no_formals (map formal_of l.parameters)) l.fn.again l.fn.w;
  count : l.count + defaults_count (chained S.no_formals (map formal_of (drop l.parameter-index l.parameters)))
      ≡ defaults_count (chained S.no_formals (map formal_of l.parameters));
}

abbrev pub invariant-targets::each_target-loop-each : goal.invariant-targets::each_target-loop-each
invariant-targets::each_target-loop-each l = behind_targets l.at.names.now l.at.within.now (targets_of (map target_of (drop l.each-index l.targets))) l.w
    ≡ behind_targets l.at.names.now l.at.within.now (targets_of (map target_of l.targets)) l.fn.w

abbrev pub invariant-links::links-loop-link : goal.invariant-links::links-loop-link
invariant-links::links-loop-link l =
    links_ended l.ends (behind_links l.at.names.now l.at.within.now (chained S.no_links (map link_of (drop l.link-index l.rest))) l.operator l.line.0 l.w)
    ≡ behind_links l.at.names.now l.at.within.now (chained S.no_links (map link_of l.rest)) l.fn.operator l.line.0 l.fn.w

abbrev pub invariant-comprehensions::turn-loop-test : goal.invariant-comprehensions::turn-loop-test
invariant-comprehensions::turn-loop-test l = behind_conditions l.at.names.now l.at.within.now (map exp_of (drop l.test-index l.test-items)) l.head l.line.0 l.w
    ≡ behind_conditions l.at.names.now l.at.within.now (map exp_of l.test-items) l.head l.line.0 l.initial.w

abbrev pub invariant-comprehensions::clauses-loop-clause : goal.invariant-comprehensions::clauses-loop-clause
invariant-comprehensions::clauses-loop-clause l = record {
  innermost : last_loop l.at.names.now l.at.within.now (map clause_of (drop l.clause-index l.rest)) l.line.0 l.innermost l.w
      ≡ last_loop l.at.names.now l.at.within.now (map clause_of l.rest) l.line.0 (record { head = l.fn.head; loops = 1 }) l.fn.w;
  code : behind_clauses l.at.names.now l.at.within.now (map clause_of (drop l.clause-index l.rest)) l.line.0 l.innermost l.w
      ≡ behind_clauses l.at.names.now l.at.within.now (map clause_of l.rest) l.line.0 (record { head = l.fn.head; loops = 1 }) l.fn.w;
}
