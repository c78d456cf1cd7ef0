use Rattle.std.proofs.Common.{subst}
use Rattle.pt_tree.specs.Blocks.{no_params}
use Rattle.pt_tree.specs.StatementFold.{stms_of}
use Rattle.pt_blocks.specs.Visits.{class_block}
use Rattle.pt_compile.specs.PartialCode.{IsOpen}
use Rattle.pt_compile.proofs.Steps.{on_ok, whole_block}
use Rattle.pt_compile.proofs.compiler.CompilerBlockVisitor.class.Goals as goal

pub returns : goal.returns
returns c =
    on_ok c.close.result c.close.ensures (whole_block (class_block c.args.name.now c.args.first_line.0 (stms_of c.args.body.now)) _ c.open.new.self _ _ _ _
    (subst (λ x. IsOpen c.args.self.now x no_params 0 c.in_ok-block.block) c.as_str.ensures c.in_ok-block.ensures.open) c.open.ensures.naming c.open.ensures.blocks c.in_ok-statement_block.ensures c.in_ok-heading.ensures)
