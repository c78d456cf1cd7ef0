use Rattle.std.proofs.Common.{arith}
use Rattle.pt_wide.specs.declared.expression.WideParameters.{out-WideParameters}
use Rattle.pt_grammar.proofs.Gathering.{count_length}
use Rattle.pt_grammar.proofs.deep.Parameters.count.Goals as goal

pub returns : goal.returns
returns c = omega (arith, count_length (out-WideParameters c.args.self.now.tree).positional_only, count_length (out-WideParameters c.args.self.now.tree).positional, count_length (out-WideParameters c.args.self.now.tree).keyword_only)

pub overflow_add-result : goal.overflow_add-result
overflow_add-result c = omega (arith, count_length (out-WideParameters c.args.self.now.tree).positional_only, count_length (out-WideParameters c.args.self.now.tree).positional, count_length (out-WideParameters c.args.self.now.tree).keyword_only)

pub overflow_add-result-2 : goal.overflow_add-result-2
overflow_add-result-2 c = omega (arith, count_length (out-WideParameters c.args.self.now.tree).positional_only, count_length (out-WideParameters c.args.self.now.tree).positional, count_length (out-WideParameters c.args.self.now.tree).keyword_only)

pub overflow_add-result-3 : goal.overflow_add-result-3
overflow_add-result-3 c = omega (arith, count_length (out-WideParameters c.args.self.now.tree).positional_only, count_length (out-WideParameters c.args.self.now.tree).positional, count_length (out-WideParameters c.args.self.now.tree).keyword_only)

pub overflow_add-result-4 : goal.overflow_add-result-4
overflow_add-result-4 c = omega (arith, count_length (out-WideParameters c.args.self.now.tree).positional_only, count_length (out-WideParameters c.args.self.now.tree).positional, count_length (out-WideParameters c.args.self.now.tree).keyword_only)
