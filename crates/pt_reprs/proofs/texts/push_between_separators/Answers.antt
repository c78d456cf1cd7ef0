use Rattle.std.proofs.Common.{◌-◌, ◌++◌, length, take, drop, get_or, sym, subst}
use Rattle.pt_heap.specs.declared.value.Value.TheVariants as value
use Rattle.pt_reprs.specs.Pieces.{Writes}
use Rattle.pt_reprs.specs.Texts.{behind_separators, str_pieces}
use Rattle.pt_reprs.proofs.PieceLemmas.{writes-more, writes-stop}
use Rattle.pt_reprs.proofs.TextLemmas.{first-text}
use Rattle.pt_reprs.proofs.texts.push_between_separators.Goals as goal

pub returns-in_err-push_text-in-len1-up : goal.returns-in_err-push_text-in-len1-up
returns-in_err-push_text-in-len1-up c =
    let h = c.args.heap.now in
    let vs = c.args.values.now in
    let s = c.args.separator.now in
    subst (λ ps. Writes c.args.writer.now c.push_text.new.writer c.from_residual.result ps) (sym (first-text h s vs c.in-len1-up.len_at_least))
    (writes-stop c.args.writer.now c.push_text.new.writer c.push_text.new.writer c.from_residual.result c.in_err-push_text-in-len1-up.field-0.0 (str_pieces h (get_or vs 0 value.None)) (behind_separators h s (take (length vs - 1) (drop 1 vs)))
    c.from_residual.ensures c.in_err-push_text-in-len1-up.ensures)

pub returns-in_ok-push_text-in-len1-up : goal.returns-in_ok-push_text-in-len1-up
returns-in_ok-push_text-in-len1-up c =
    let h = c.args.heap.now in
    let vs = c.args.values.now in
    let s = c.args.separator.now in
    subst (λ ps. Writes c.args.writer.now c.push_behind_separators.new.writer c.push_behind_separators.result ps) (sym (first-text h s vs c.in-len1-up.len_at_least))
    (writes-more c.args.writer.now c.push_text.new.writer c.push_behind_separators.new.writer c.push_behind_separators.result (str_pieces h (get_or vs 0 value.None)) (behind_separators h s (take (length vs - 1) (drop 1 vs)))
    c.in_ok-push_text-in-len1-up.ensures c.push_behind_separators.ensures)
