-- Lists of what code reads, as plain data.
use Rattle.std.specs.Prelude.{ℕ, List, map}
use Rattle.pt_tree.specs.Fold.{chained}
use Rattle.pt_wide.specs.Syntax as S
use Rattle.pt_wide.specs.Syntax.{Args}
use Rattle.pt_wide.specs.declared.expression.WideArgument.{WideArgument}
use Rattle.pt_wide.specs.declared.expression.WideClause.{WideClause, out-WideClause}
use Rattle.pt_wide.specs.declared.expression.WideParameter.{WideParameter, out-WideParameter}
use Rattle.pt_wide.specs.declared.expression.WideComparison.{WideComparison}
use Rattle.pt_wide.specs.Fold.{exp_of, opt_exp, argument_of}
use Rattle.pt_wide.specs.Measure.{depth_links}
use Rattle.pt_grammar.specs.Nodes.{Link, links_of, OneClause, a_clause_of, Formal}

abbrev pub link_in : WideComparison → Link
link_in c = record { operator = c.operator; right = exp_of c.right }

abbrev pub links_in : List WideComparison → List Link
links_in cs = map link_in cs

abbrev pub depth_of_links : List Link → ℕ
depth_of_links cs = depth_links (links_of cs)

abbrev pub args_in : List WideArgument → Args
args_in xs = chained S.no_args (map argument_of xs)

abbrev pub clause_in : WideClause → OneClause
clause_in c = a_clause_of (out-WideClause c).line.0 (exp_of (out-WideClause c).target) (exp_of (out-WideClause c).iterable) (map exp_of (out-WideClause c).conditions)

abbrev pub clauses_in : List WideClause → List OneClause
clauses_in cs = map clause_in cs

abbrev pub formal_in : WideParameter → Formal
formal_in p = record { line = (out-WideParameter p).line.0; name = (out-WideParameter p).name; annotation = opt_exp (out-WideParameter p).annotation; default = opt_exp (out-WideParameter p).default }

abbrev pub formals_in : List WideParameter → List Formal
formals_in ps = map formal_in ps
