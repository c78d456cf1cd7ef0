use Rattle.std.proofs.Common.{sym, ap, ◌∙◌, map, Option}
use Rattle.pt_base.specs.declared.numbers.Line.{Line}
use Rattle.pt_tree.specs.Fold.{chained}
use Rattle.pt_wide.specs.Fold.{formal_of, line_of}
use Rattle.pt_wide.specs.Syntax.{no_formals}
use Rattle.pt_refine_expr.specs.Faults.{faults_slash}
use Rattle.pt_refine_expr.specs.First.{first_of}
use Rattle.pt_refine_expr.proofs.Others.{slash-first}
use Rattle.pt_refine_expr.proofs.expression_faults.check_slash.Goals as goal

pub returns-in-Some-first : goal.returns-in-Some-first
returns-in-Some-first c =
    sym (ap (λ (s : Option Line). first_of (faults_slash (chained no_formals (map formal_of c.args.before.now)) (line_of s))) c.in-None.is ∙
    ap first_of (slash-first c.args.before.now c.in-Some-first.parameter.now c.in-Some-first.ensures.value))
