use Rattle.std.proofs.Common.{ap, arith}
use Rattle.pt_wide.specs.Measure.{depth_args}
use Rattle.pt_grammar.proofs.CallLemmas.{arguments_same}
use Rattle.pt_grammar.proofs.call_nodes.Ordered.finish.Goals as goal

pub invariant_of-result : goal.invariant_of-result
invariant_of-result c = record { exact = omega (arith, c.args.self.exact, ap depth_args (arguments_same c.args.self.items)) }

pub returns : goal.returns
returns c = arguments_same c.args.self.items
