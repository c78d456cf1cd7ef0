use Rattle.pt_tree.specs.Fold.{exp_of, parameters_of}
use Rattle.pt_blocks.specs.Visits.{lambda_block}
use Rattle.pt_compile.proofs.Steps.{of_kind, on_ok, whole_block}
use Rattle.pt_compile.proofs.compiler.CompilerBlockVisitor.lambda.Goals as goal

pub returns : goal.returns
returns c =
    on_ok c.close.result c.close.ensures (whole_block (lambda_block c.args.line.0 (parameters_of c.args.parameters.now) (exp_of c.args.body.now)) _ c.open.new.self _ _ _ _
    c.in_ok-block.ensures.open c.open.ensures.naming c.open.ensures.blocks c.in_ok-lambda_block.ensures (of_kind c.in_ok-heading.heading c.in_ok-block.block.name (lambda_block c.args.line.0 (parameters_of c.args.parameters.now) (exp_of c.args.body.now)) c.in_ok-kind.kind c.in_ok-kind.ensures c.in_ok-heading.ensures))
