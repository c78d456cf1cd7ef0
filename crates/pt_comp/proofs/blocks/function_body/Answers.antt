use Rattle.std.proofs.Common.{◌≡◌, ◌∙◌, sym, subst}
use Rattle.std.specs.Prelude.{OnOk}
use Rattle.pt_assembler.specs.Layout.{Written}
use Rattle.pt_write_ops.specs.sem_compile.stm_pieces.Needed.{free}
use Rattle.pt_comp.proofs.Bodies.{documented}
use Rattle.pt_comp.proofs.blocks.function_body.Goals as goal

pub returns-then-is_docstring : goal.returns-then-is_docstring
returns-then-is_docstring c =
    let P : Written → Type 0 = λ v. OnOk c.documented_body.result (c.documented_body.new.w ≡ v) in
    subst P
    (documented c.args.names.now c.args.body.now c.in-Some.first.now free c.args.w.now c.in-Some.ensures.value (sym c.if-is_docstring.true ∙ c.is_docstring.ensures))
    c.documented_body.ensures
