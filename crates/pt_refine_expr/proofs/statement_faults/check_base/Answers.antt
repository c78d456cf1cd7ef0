use Rattle.std.proofs.Common.{Bool, ap, sym, ◌∙◌}
use Rattle.pt_refine_expr.specs.First.{first_of}
use Rattle.pt_refine_expr.specs.StatementFaults.{faults_base}
use Rattle.pt_refine_expr.proofs.OtherStatements.{args, base-comma, base-fault, base-many, base-wrong}
use Rattle.pt_refine_expr.proofs.statement_faults.check_base.Goals as goal

pub returns-then-trailing_comma : goal.returns-then-trailing_comma
returns-then-trailing_comma c =
    sym (ap (λ (b : Bool). first_of (faults_base (args c.args.arguments.now) b)) c.if-trailing_comma.true ∙ ap first_of (base-fault c.args.arguments.now c.in-Some.first.now c.argument_line.result.0 _ c.in-Some.ensures.value c.argument_line.ensures (base-comma c.args.arguments.now c.in-Some.first.now c.in-Some.ensures.value)))

pub returns-then-arguments-gt1 : goal.returns-then-arguments-gt1
returns-then-arguments-gt1 c =
    sym (ap first_of (base-fault c.args.arguments.now c.in-Some.first.now c.argument_line.result.0 c.args.trailing_comma c.in-Some.ensures.value c.argument_line.ensures (base-many c.args.arguments.now c.args.trailing_comma c.if-arguments-gt1.true)))

pub returns-then-not-is_base : goal.returns-then-not-is_base
returns-then-not-is_base c =
    sym (ap (λ (b : Bool). first_of (faults_base (args c.args.arguments.now) b)) c.if-trailing_comma.false ∙ ap first_of (base-fault c.args.arguments.now c.in-Some.first.now c.argument_line.result.0 _ c.in-Some.ensures.value c.argument_line.ensures (base-wrong c.args.arguments.now c.in-Some.first.now c.in-Some.ensures.value c.if-arguments-gt1.false (sym c.is_base.ensures ∙ c.if-not-is_base.true))))
