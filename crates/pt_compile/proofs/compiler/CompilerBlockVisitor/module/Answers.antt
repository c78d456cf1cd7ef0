use Rattle.pt_tree.specs.StatementFold.{stms_of}
use Rattle.pt_blocks.specs.Visits.{module_block}
use Rattle.pt_compile.proofs.Steps.{on_ok, whole_block}
use Rattle.pt_compile.proofs.compiler.CompilerBlockVisitor.module.Goals as goal

pub returns : goal.returns
returns c =
    on_ok c.close.result c.close.ensures (whole_block (module_block (stms_of c.args.body.now)) _ c.open.new.self _ _ _ _
    c.in_ok-block.ensures.open c.open.ensures.naming c.open.ensures.blocks c.in_ok-statement_block.ensures c.in_ok-heading.ensures)
