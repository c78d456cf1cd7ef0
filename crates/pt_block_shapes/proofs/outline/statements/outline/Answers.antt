use Rattle.std.proofs.Common.{◌∙◌, ap}
use Rattle.pt_block_shapes.specs.outliner.Outline.{Outline}
use Rattle.pt_block_shapes.proofs.outline.StatementLaws.{script-tells}
use Rattle.pt_tree.specs.StatementFold.{script_of}
use Rattle.pt_block_shapes.proofs.outline.statements.outline.Goals as goal

pub returns : goal.returns
returns c =
    let told = c.in_ok-walk.ensures ∙ script-tells (script_of c.args.script.now) in
    (c.into_parts.ensures.0 ∙ ap (λ (o : Outline). o.blocks) told, c.into_parts.ensures.1 ∙ ap (λ (o : Outline). o.nexts) told)
