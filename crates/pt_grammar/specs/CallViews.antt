-- What readers of indices and calls hand around, as plain data.
use Rattle.std.specs.Prelude.{ℕ, List, map, Option, Some, None}
use Rattle.pt_wide.specs.declared.expression.WideArgument.TheOpen as node
use Rattle.pt_wide.specs.declared.expression.WideArgument.{WideArgument, out-WideArgument}
use Rattle.pt_wide.specs.declared.expression.WideEntry.{WideEntry}
use Rattle.pt_wide.specs.declared.expression.WideNode.{WideNode}
use Rattle.pt_wide.specs.declared.expression.WidePiece.{WidePiece}
use Rattle.pt_wide.specs.declared.expression.WideClause.{WideClause}
use Rattle.pt_wide.specs.declared.expression.WideComparison.{WideComparison}
use Rattle.pt_wide.specs.declared.expression.WideExpr.{WideExpr}
use Rattle.pt_wide.specs.declared.expression.WideParameter.{WideParameter}
use Rattle.pt_wide.specs.declared.expression.WideParameters.{WideParameters}
use Rattle.pt_wide.specs.Syntax as S
use Rattle.pt_wide.specs.Syntax.{Exp, Opt}
use Rattle.pt_wide.specs.Fold.{exp_of}
use Rattle.pt_wide.specs.Measure.{depth_exp, depth_args}
use Rattle.pt_grammar.specs.declared.deep.Deep.{Deep}
use Rattle.pt_grammar.specs.declared.call_nodes.Trailer as trailer
use Rattle.pt_grammar.specs.declared.call_nodes.Trailer.TheVariants as trailer_of
use Rattle.pt_grammar.specs.declared.call_nodes.Argument as argument
use Rattle.pt_grammar.specs.declared.call_nodes.Argument.TheVariants as argument_of
use Rattle.pt_grammar.specs.declared.call_nodes.Order as order
use Rattle.pt_grammar.specs.declared.call_nodes.Order.TheVariants as order_of
use Rattle.pt_grammar.specs.Nodes as L
use Rattle.pt_grammar.specs.Nodes.{by_name, by_index, by_call, OneArg, positional, named, spread, spread_named}
use Rattle.pt_grammar.specs.ReadViews.{arguments_read}

abbrev pub trailer_read : trailer.Trailer → L.Trailer
trailer_read (trailer_of.Name x) = by_name x
trailer_read (trailer_of.Index i) = by_index (exp_of i.tree)
trailer_read (trailer_of.Call args) = by_call (arguments_read args)

-- how deep the nodes of what stands behind a primary are
abbrev pub depth_trailer : L.Trailer → ℕ
depth_trailer (by_name x) = 0
depth_trailer (by_index i) = depth_exp i
depth_trailer (by_call args) = depth_args args

abbrev pub argument_read : argument.Argument → OneArg
argument_read (argument_of.Positional e) = positional (exp_of e.tree)
argument_read (argument_of.Named l x e) = named l.0 x (exp_of e.tree)
argument_read (argument_of.Spread l e) = spread l.0 (exp_of e.tree)
argument_read (argument_of.SpreadNamed l e) = spread_named l.0 (exp_of e.tree)

abbrev pub exp_in : OneArg → Exp
exp_in (positional e) = e
exp_in (named l x e) = e
exp_in (spread l e) = e
exp_in (spread_named l e) = e

abbrev pub order_read : order.Order → L.Order
order_read order_of.Any = L.any_next
order_read order_of.Named = L.named_next
order_read order_of.SpreadNamed = L.spread_named_next

abbrev pub open_argument : node.WideArgument-F WideArgument WideEntry WideNode WidePiece WideClause WideComparison WideExpr WideParameter WideParameters → OneArg
open_argument (node.Positional e) = positional (exp_of e)
open_argument (node.Named l x e) = named l.0 x (exp_of e)
open_argument (node.WideArgument::Spread l e) = spread l.0 (exp_of e)
open_argument (node.SpreadNamed l e) = spread_named l.0 (exp_of e)

abbrev pub argument_in : WideArgument → OneArg
argument_in x = open_argument (out-WideArgument x)

abbrev pub arguments_in : List WideArgument → List OneArg
arguments_in xs = map argument_in xs

-- an expression that need not be there
abbrev pub opt_read : Option Deep → Opt
opt_read None = S.absent
opt_read (Some e) = S.given (exp_of e.tree)
