-- What readers hand around, as plain data.
use Rattle.std.specs.Prelude.{map, option_map}
use Rattle.pt_wide.specs.declared.expression.WideParameters.{out-WideParameters}
use Rattle.pt_grammar.specs.declared.deep.Arguments.{Arguments}
use Rattle.pt_grammar.specs.declared.deep.Clauses.{Clauses}
use Rattle.pt_grammar.specs.declared.deep.Parameters.{Parameters}
use Rattle.pt_grammar.specs.declared.deep.Stage as stage
use Rattle.pt_grammar.specs.declared.deep.Stage.TheVariants as stage_of
use Rattle.pt_wide.specs.Fold.{exp_of}
use Rattle.pt_grammar.specs.declared.deep.Linked.{Linked}
use Rattle.pt_grammar.specs.declared.deep.Listed.{Listed}
use Rattle.pt_grammar.specs.Nodes as L
use Rattle.pt_grammar.specs.Nodes.{Link, OneClause, Gathered}
use Rattle.pt_grammar.specs.Views.{args_in, clauses_in, formals_in}
use Rattle.pt_wide.specs.Syntax.{Args}
use Rattle.std.specs.Prelude.{List}

abbrev pub link_read : Linked → Link
link_read c = record { operator = c.operator; right = exp_of c.right.tree }

abbrev pub listed_read : Listed → L.Listed
listed_read x = L.listed (map exp_of x.items.items) x.comma

abbrev pub arguments_read : Arguments → Args
arguments_read x = args_in x.items

abbrev pub clauses_read : Clauses → List OneClause
clauses_read x = clauses_in x.items

abbrev pub stage_read : stage.Stage → L.Stage
stage_read stage_of.Plain = L.plain
stage_read stage_of.Defaulted = L.defaulted
stage_read stage_of.KeywordOnly = L.keyword_only
stage_read stage_of.Over = L.over

abbrev pub gathered_read : Parameters → Gathered
gathered_read x = record {
  stage = stage_read x.stage;
  positional_only = formals_in (out-WideParameters x.tree).positional_only;
  slash = option_map (λ l. l.0) (out-WideParameters x.tree).slash;
  positional = formals_in (out-WideParameters x.tree).positional;
  star = (out-WideParameters x.tree).star;
  keyword_only = formals_in (out-WideParameters x.tree).keyword_only;
  double_star = (out-WideParameters x.tree).double_star;
}
