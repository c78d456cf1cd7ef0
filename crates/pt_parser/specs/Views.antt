-- Lists that code builds, as plain data.
use Rattle.std.specs.Prelude.{ℕ, List, map}
use Rattle.pt_wide.specs.declared.statement.WideBranch.{WideBranch, out-WideBranch}
use Rattle.pt_wide.specs.declared.statement.WideDecorator.{WideDecorator}
use Rattle.pt_wide.specs.declared.statement.WideHandler.{WideHandler, out-WideHandler}
use Rattle.pt_wide.specs.declared.statement.WideItem.{WideItem}
use Rattle.pt_wide.specs.Syntax.{Exp, Stm}
use Rattle.pt_wide.specs.Fold.{exp_of, opt_exp}
use Rattle.pt_wide.specs.StatementFold.{stm_of}
use Rattle.pt_grammar.specs.ReadViews.{gathered_read}
use Rattle.pt_grammar.specs.Views.{args_in}
use Rattle.pt_parser.specs.declared.heads.Signature.{Signature}
use Rattle.pt_parser.specs.declared.heads.Bases.{Bases}
use Rattle.pt_parser.specs.declared.heads.Catch.{Catch}
use Rattle.pt_parser.specs.Headings.{OneDecorator, a_decorator, OneSignature, signature_of, OneBases, bases_of, OneCatch, catch_of}
use Rattle.pt_parser.specs.declared.with_items.Held.{Held}
use Rattle.pt_parser.specs.declared.with_items.Held.TheVariants as held
use Rattle.pt_parser.specs.With.{OneItem, item_at}
use Rattle.pt_parser.specs.WithLeft.{Holding, targeted, plain, only}
use Rattle.pt_parser.specs.Grammar.{OneBranch, OneHandler, handler_at}

abbrev pub branch_parts : ℕ → Exp → List Stm → OneBranch
branch_parts l c body = record { line = l; test = c; body = body }

abbrev pub branch_in : WideBranch → OneBranch
branch_in b = branch_parts (out-WideBranch b).line.0 (exp_of (out-WideBranch b).test) (map stm_of (out-WideBranch b).body)

abbrev pub decorator_in : WideDecorator → OneDecorator
decorator_in d = a_decorator d.line.0 (exp_of d.value)

abbrev pub signature_in : Signature → OneSignature
signature_in h = signature_of h.name (gathered_read h.parameters) (opt_exp h.returns)

abbrev pub bases_in : Bases → OneBases
bases_in b = bases_of (args_in b.arguments) b.trailing_comma

abbrev pub catch_in : Catch → OneCatch
catch_in c = catch_of c.star (opt_exp c.class) c.name

abbrev pub handler_in : WideHandler → OneHandler
handler_in h = handler_at (out-WideHandler h).line.0 (catch_of (out-WideHandler h).star (opt_exp (out-WideHandler h).class) (out-WideHandler h).name) (map stm_of (out-WideHandler h).body)

abbrev pub item_in : WideItem → OneItem
item_in i = item_at i.line.0 (exp_of i.context) (opt_exp i.target)

abbrev pub held_in : Held → Holding
held_in (held.Targeted is) = targeted (map item_in is)
held_in (held.Plain l x) = plain l.0 (map exp_of x.items.items) x.comma
held_in (held.Only a) = only (exp_of a.tree)
