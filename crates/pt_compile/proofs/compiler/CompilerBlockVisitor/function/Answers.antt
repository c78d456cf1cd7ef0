use Rattle.std.proofs.Common.{subst}
use Rattle.pt_tree.specs.Fold.{parameters_of}
use Rattle.pt_tree.specs.StatementFold.{stms_of}
use Rattle.pt_blocks.specs.Visits.{function_block}
use Rattle.pt_compile.specs.PartialCode.{IsOpen}
use Rattle.pt_compile.proofs.Steps.{of_kind, on_ok, whole_block}
use Rattle.pt_compile.proofs.compiler.CompilerBlockVisitor.function.Goals as goal

pub returns : goal.returns
returns c =
    on_ok c.close.result c.close.ensures (whole_block (function_block c.args.name.now c.args.first_line.0 (parameters_of c.args.parameters.now) (stms_of c.args.body.now)) _ c.open.new.self _ _ _ _
    (subst (λ x. IsOpen c.args.self.now x (parameters_of c.args.parameters.now) 0 c.in_ok-block.block) c.as_str.ensures c.in_ok-block.ensures.open) c.open.ensures.naming c.open.ensures.blocks c.in_ok-function_block.ensures (of_kind c.in_ok-heading.heading c.in_ok-block.block.name (function_block c.args.name.now c.args.first_line.0 (parameters_of c.args.parameters.now) (stms_of c.args.body.now)) c.in_ok-kind.kind c.in_ok-kind.ensures c.in_ok-heading.ensures))
