use Rattle.pt_tree.specs.Fold.{clause_of, exp_of}
use Rattle.pt_blocks.specs.Visits.{generator_block}
use Rattle.pt_compile.proofs.Steps.{on_ok, whole_block}
use Rattle.pt_compile.proofs.compiler.CompilerBlockVisitor.generator.Goals as goal

pub returns : goal.returns
returns c =
    on_ok c.close.result c.close.ensures (whole_block (generator_block c.args.line.0 (exp_of c.args.item.now) (clause_of c.args.first.now) c.args.rest.now) _ c.open.new.self _ _ _ _
    c.in_ok-block.ensures.open c.open.ensures.naming c.open.ensures.blocks c.in_ok-generator_block.ensures c.in_ok-heading.ensures)
