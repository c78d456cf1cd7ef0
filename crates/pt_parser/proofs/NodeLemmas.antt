-- The lists of nodes as data.
use Rattle.std.proofs.Common.{◌≡◌, ◌∙◌, ap, refl, sym, List, [], ◌∷◌, Option, Some, None, map, option_map, ℕ}
use Rattle.pt_base.specs.declared.numbers.Line.{Line}
use Rattle.pt_tree.specs.Fold.{chained}
use Rattle.pt_wide.specs.declared.statement.WideDecorator.{WideDecorator}
use Rattle.pt_wide.specs.declared.statement.WideHandler.{WideHandler, out-WideHandler}
use Rattle.pt_wide.specs.declared.expression.WideParameter.{WideParameter}
use Rattle.pt_wide.specs.declared.expression.WideParameters.{WideParameters, out-WideParameters}
use Rattle.pt_wide.specs.Syntax as S
use Rattle.pt_wide.specs.Fold.{exp_of, opt_exp, formal_of, parameters_of, line_of}
use Rattle.pt_wide.specs.StatementFold.{stm_of, stms_of, decorators_of, handler_of}
use Rattle.pt_wide.proofs.Folds.{formal_of-parts, parameters_of-parts}
use Rattle.pt_wide.proofs.StatementFolds.{handler_of-parts}
use Rattle.pt_grammar.specs.declared.deep.Parameters.{Parameters}
use Rattle.pt_grammar.specs.Nodes.{formals_of, params_of}
use Rattle.pt_grammar.specs.Views.{formal_in, formals_in}
use Rattle.pt_grammar.specs.ReadViews.{gathered_read}
use Rattle.pt_parser.specs.Headings.{decorators_from}
use Rattle.pt_parser.specs.Grammar.{handlers_from}
use Rattle.pt_parser.specs.Views.{decorator_in, handler_in}

pub decorators_same : (ds : List WideDecorator) → decorators_of ds ≡ decorators_from (map decorator_in ds)
decorators_same [] = refl
decorators_same (d ∷ ds) = ap (λ r. S.decorator d.line.0 (exp_of d.value) r) (decorators_same ds)

pub handlers_same : (hs : List WideHandler) → chained S.no_handlers (map handler_of hs) ≡ handlers_from (map handler_in hs)
handlers_same [] = refl
handlers_same (h ∷ hs) =
    handler_of-parts h (chained S.no_handlers (map handler_of hs))
    ∙ ap (λ r. S.handler (out-WideHandler h).line.0 (out-WideHandler h).star (opt_exp (out-WideHandler h).class) (out-WideHandler h).name (stms_of (out-WideHandler h).body) r) (handlers_same hs)

formals_same : (ps : List WideParameter) → chained S.no_formals (map formal_of ps) ≡ formals_of (formals_in ps)
formals_same [] = refl
formals_same (p ∷ ps) = formal_of-parts p _ ∙ ap (λ r. S.formal (formal_in p).line (formal_in p).name (formal_in p).annotation (formal_in p).default r) (formals_same ps)

line_same : (o : Option Line) → line_of o ≡ option_map (λ l. l.0) o
line_same None = refl
line_same (Some l) = refl

pub parameters_same : (ps : Parameters) → parameters_of ps.tree ≡ params_of (gathered_read ps)
parameters_same ps =
    let a = formals_same (out-WideParameters ps.tree).positional_only in
    let b = formals_same (out-WideParameters ps.tree).positional in
    let c = formals_same (out-WideParameters ps.tree).keyword_only in
    let l = line_same (out-WideParameters ps.tree).slash in
    parameters_of-parts ps.tree ∙ cc
