use Rattle.std.proofs.Common.{◌∙◌, ap, arith}
use Rattle.pt_wide.specs.Syntax as S
use Rattle.pt_wide.specs.Fold.{entry_of}
use Rattle.pt_wide.specs.Measure.{depth_exp, depth_entry}
use Rattle.pt_grammar.specs.Nodes.{clauses_of}
use Rattle.pt_grammar.specs.Views.{clauses_in}
use Rattle.pt_grammar.proofs.brace_nodes.dict_comprehension.Goals as goal

pub invariant_of-result : goal.invariant_of-result
invariant_of-result c = record {
  exact = omega (arith, c.max-depth.ensures, c.args.entry.exact, c.args.clauses.exact, ap (λ g. depth_entry (entry_of g)) c.in_ok-held.ensures, ap depth_exp c.in_ok-tree.ensures);
}

pub returns : goal.returns
returns c = c.in_ok-tree.ensures ∙ ap (λ g. S.dict_comprehension c.args.line.0 (entry_of g) (clauses_of (clauses_in c.args.clauses.items))) c.in_ok-held.ensures
