use Rattle.std.proofs.Common.{◌-◌, length, take, drop, get_or, sym, subst}
use Rattle.pt_heap.specs.declared.value.Value.TheVariants as value
use Rattle.pt_content.specs.Operands.{text_of}
use Rattle.pt_reprs.specs.Pieces.{Writes}
use Rattle.pt_reprs.proofs.PieceLemmas.{writes-more, writes-stop}
use Rattle.pt_special_methods.specs.Containers.{in_turn, text_pieces}
use Rattle.pt_special_methods.proofs.ContainerLemmas.{first-text}
use Rattle.pt_special_methods.proofs.containers.push_with_between.Goals as goal

pub returns-in_err-push_text-in-len1-up : goal.returns-in_err-push_text-in-len1-up
returns-in_err-push_text-in-len1-up c =
    let h = c.args.heap.now in
    let vs = c.args.texts.now in
    let a = c.args.before.now in
    let b = c.args.next.now in
    subst (λ ps. Writes c.args.writer.now c.push_text.new.writer c.from_residual.result ps) (sym (first-text h a b vs c.in-len1-up.len_at_least))
    (writes-stop c.args.writer.now c.push_text.new.writer c.push_text.new.writer c.from_residual.result c.in_err-push_text-in-len1-up.field-0.0 (text_pieces (text_of h (get_or vs 0 value.None))) (in_turn h a b (take (length vs - 1) (drop 1 vs)))
    c.from_residual.ensures c.in_err-push_text-in-len1-up.ensures)

pub returns-in_ok-push_text-in-len1-up : goal.returns-in_ok-push_text-in-len1-up
returns-in_ok-push_text-in-len1-up c =
    let h = c.args.heap.now in
    let vs = c.args.texts.now in
    let a = c.args.before.now in
    let b = c.args.next.now in
    subst (λ ps. Writes c.args.writer.now c.push_in_turn.new.writer c.push_in_turn.result ps) (sym (first-text h a b vs c.in-len1-up.len_at_least))
    (writes-more c.args.writer.now c.push_text.new.writer c.push_in_turn.new.writer c.push_in_turn.result (text_pieces (text_of h (get_or vs 0 value.None))) (in_turn h a b (take (length vs - 1) (drop 1 vs)))
    c.in_ok-push_text-in-len1-up.ensures c.push_in_turn.ensures)
