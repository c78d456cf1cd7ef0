-- A parameter that is read, as plain data.
use Rattle.std.specs.Prelude.{ℕ, ◌++◌, [], ◌∷◌, Option, Some, None, option_map, Bool, if◌then◌else◌}
use Rattle.pt_tree.specs.declared.expression.NamedParameter.{NamedParameter}
use Rattle.pt_wide.specs.declared.expression.WideParameters.{WideParameters, out-WideParameters}
use Rattle.pt_wide.specs.Syntax.{Opt}
use Rattle.pt_wide.specs.Fold.{exp_of, opt_of}
use Rattle.pt_grammar.specs.declared.deep.Deep.{Deep}
use Rattle.pt_grammar.specs.Nodes.{Formal, Stage, plain, defaulted, keyword_only, Gathered}
use Rattle.pt_grammar.specs.Views.{formals_in}

-- an expression that need not be there
abbrev pub given_read : Option Deep → Opt
given_read o = opt_of (option_map (λ e. exp_of e.tree) o)

abbrev pub formal_read : NamedParameter → Option Deep → Option Deep → Formal
formal_read p a d = record { line = p.line.0; name = p.name; annotation = given_read a; default = given_read d }

-- Parameters that have come so far.
abbrev pub tree_read : Stage → WideParameters → Gathered
tree_read s t = record {
  stage = s;
  positional_only = formals_in (out-WideParameters t).positional_only;
  slash = option_map (λ l. l.0) (out-WideParameters t).slash;
  positional = formals_in (out-WideParameters t).positional;
  star = (out-WideParameters t).star;
  keyword_only = formals_in (out-WideParameters t).keyword_only;
  double_star = (out-WideParameters t).double_star;
}

abbrev pub and_positional : Gathered → Formal → Gathered
and_positional g f = record { stage = g.stage; positional_only = g.positional_only; slash = g.slash; positional = g.positional ++ (f ∷ []); star = g.star; keyword_only = g.keyword_only; double_star = g.double_star }

abbrev pub and_keyword_only : Gathered → Formal → Gathered
and_keyword_only g f = record { stage = g.stage; positional_only = g.positional_only; slash = g.slash; positional = g.positional; star = g.star; keyword_only = g.keyword_only ++ (f ∷ []); double_star = g.double_star }

-- one more that a named argument may reach, before "*" or behind it
abbrev pub and_formal : Stage → Gathered → Formal → Gathered
and_formal keyword_only g f = and_keyword_only g f
and_formal s g f = and_positional g f

abbrev pub and_slash : Gathered → ℕ → Gathered
and_slash g l = record { stage = g.stage; positional_only = g.positional; slash = Some l; positional = []; star = g.star; keyword_only = g.keyword_only; double_star = g.double_star }

abbrev pub and_star : Gathered → NamedParameter → Gathered
and_star g p = record { stage = g.stage; positional_only = g.positional_only; slash = g.slash; positional = g.positional; star = Some p; keyword_only = g.keyword_only; double_star = g.double_star }

abbrev pub and_double_star : Gathered → NamedParameter → Gathered
and_double_star g p = record { stage = g.stage; positional_only = g.positional_only; slash = g.slash; positional = g.positional; star = g.star; keyword_only = g.keyword_only; double_star = Some p }

abbrev pub nothing_read : Stage → Gathered
nothing_read s = record { stage = s; positional_only = []; slash = None; positional = []; star = None; keyword_only = []; double_star = None }

-- behind a parameter with a default or without
abbrev pub after : Stage → Bool → Stage
after plain b = if b then defaulted else plain
after s b = s
