use Rattle.std.proofs.Common.{sym, ap}
use Rattle.pt_wide.specs.Measure.{depth_params}
use Rattle.pt_grammar.specs.Nodes.{Gathered, plain, params_of}
use Rattle.pt_grammar.proofs.Gathering.{exact_of}
use Rattle.pt_grammar.proofs.deep.Parameters.new.Goals as goal

pub invariant_of-result : goal.invariant_of-result
invariant_of-result c = record { exact = exact_of plain c.no_tree-tree.result 0 (sym (ap (λ (g : Gathered). depth_params (params_of g)) (c.no_tree-tree.ensures plain))) }

pub returns : goal.returns
returns c = c.no_tree-tree.ensures plain
