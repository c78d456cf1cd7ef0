use Rattle.std.proofs.Common.{◌∙◌, [], ap, sym}
use Rattle.std.proofs.lemmas.Result.{on_ok_weaker}
use Rattle.sem_control.specs.control.Turn.{Variable}
use Rattle.pt_assembler.specs.Piece.{act}
use Rattle.pt_assembler.specs.Layout.{layout}
use Rattle.pt_write_ops.specs.sem_compile.emitter.Ops.{load}
use Rattle.pt_expr_forms.proofs.Forms.{name-form}
use Rattle.pt_write_leaves.proofs.leaves.name_code.Goals as goal

pub returns : goal.returns
returns c =
    let b = c.args.at.now.names.now in
    let ns = c.args.at.now.within.now in
    on_ok_weaker c.load.result (λ is. is
    ∙ ap (λ (u : Variable). layout (act (load u) c.args.w.now.act c.args.line.0 c.args.again) [] c.args.w.now)
    c.in_ok-variable.ensures
    ∙ sym (name-form b ns c.args.line.0 c.args.x.now c.args.again c.args.w.now)) c.load.ensures.code
