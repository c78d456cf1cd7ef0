use Rattle.std.proofs.Common.{◌∙◌, [], ap, false}
use Rattle.std.proofs.lemmas.Result.{on_ok_weaker}
use Rattle.pt_assembler.specs.Piece.{Op, act}
use Rattle.pt_assembler.specs.Layout.{layout}
use Rattle.pt_write_leaves.proofs.leaves.unpack.Goals as goal

pub returns : goal.returns
returns c =
    on_ok_weaker c.plain.result (λ is. is ∙ ap (λ (o : Op). layout (act o c.args.w.now.act c.args.line.0 false) [] c.args.w.now) c.in_ok-instr.ensures)
    c.plain.ensures.code
