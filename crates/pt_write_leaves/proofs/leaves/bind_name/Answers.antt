use Rattle.std.proofs.Common.{◌∙◌, [], ap, false}
use Rattle.std.proofs.lemmas.Result.{on_ok_weaker}
use Rattle.sem_control.specs.control.Turn.{Variable}
use Rattle.pt_assembler.specs.Piece.{act}
use Rattle.pt_assembler.specs.Layout.{layout}
use Rattle.pt_write_ops.specs.sem_compile.emitter.Ops.{store}
use Rattle.pt_write_leaves.proofs.leaves.bind_name.Goals as goal

pub returns : goal.returns
returns c =
    on_ok_weaker c.store.result (λ is. is
    ∙ ap (λ (u : Variable). layout (act (store u) c.args.w.now.act c.args.line.0 false) [] c.args.w.now)
    c.in_ok-variable.ensures)
    c.store.ensures.code
