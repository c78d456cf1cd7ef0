use Rattle.std.proofs.Common.{◌≡◌, ◌∙◌, ◌<◌, ◌-◌, List, Err, ap, subst, sym, arith}
use Rattle.pt_heap.specs.declared.value.Value.{Value}
use Rattle.pt_content.specs.pt_attrs.Look.{object_of}
use Rattle.pt_reprs.specs.Pieces.{Piece, with_pieces, Writes}
use Rattle.pt_reprs.specs.Texts.{args_pieces, error_within, is_key_error, object_text}
use Rattle.pt_reprs.proofs.TextLemmas.{errors-deep, error-text}
use Rattle.pt_reprs.proofs.texts.+strs.Goals as goal

pub push_error_within-returns-then-depth-eq0 : goal.push_error_within-returns-then-depth-eq0
push_error_within-returns-then-depth-eq0 t c =
    ap (λ d. with_pieces (error_within c.args.heap.now d c.args.error.now) c.args.writer.now) c.if-depth-eq0.true ∙ errors-deep c.args.heap.now c.args.error.now c.args.writer.now

pub push_error_within-returns : goal.push_error_within-returns
push_error_within-returns t c =
    let str : Value → List Piece = λ v. object_text c.args.heap.now (error_within c.args.heap.now (c.args.depth - 1)) v (object_of c.args.heap.now v) in
    subst (λ ps. Writes c.args.writer.now c.push_args.new.writer c.push_args.result ps) (sym (error-text c.args.heap.now c.args.depth c.args.error.now (omega (arith, c.if-depth-eq0.false))))
    (subst (λ vs. Writes c.args.writer.now c.push_args.new.writer c.push_args.result (args_pieces c.args.heap.now str (is_key_error c.args.error.now.class) vs)) c.as_slice.ensures c.push_args.ensures)
