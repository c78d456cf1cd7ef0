use Rattle.std.proofs.Common.{◌≡◌, ◌+◌, [], ◌∷◌, ◌++◌, Ok, Err, drop, get_or}
use Rattle.std.proofs.lemmas.List.{at_drop_more}
use Rattle.pt_heap.specs.declared.value.Value.TheVariants as value
use Rattle.pt_reprs.specs.Texts.{behind_separators, str_pieces}
use Rattle.pt_reprs.proofs.PieceLemmas.{left-stops, still-left, writes-more, written-two}
use Rattle.pt_reprs.proofs.texts.push_behind_separators.Goals as goal

pub returns-in_err-push : goal.returns-in_err-push
returns-in_err-push c =
    let i = c.loop-value.value-index in
    let vs = c.args.values.now in
    let h = c.args.heap.now in
    let s = c.args.separator.now in
    left-stops c.args.writer.now c.loop-value.writer c.push.new.self c.push.new.self c.from_residual.result c.in_err-push.field-0.0 (behind_separators h s vs) (behind_separators h s (drop i vs)) (Ok s ∷ []) (str_pieces h (get_or vs i value.None) ++ behind_separators h s (drop (i + 1) vs))
    c.loop-value.invariant (at_drop_more (behind_separators h s) vs i value.None c.loop-value-test.true) c.from_residual.ensures c.in_err-push.ensures

pub returns-in_err-push_text : goal.returns-in_err-push_text
returns-in_err-push_text c =
    let i = c.loop-value.value-index in
    let vs = c.args.values.now in
    let h = c.args.heap.now in
    let s = c.args.separator.now in
    let one = str_pieces h (get_or vs i value.None) in
    left-stops c.args.writer.now c.loop-value.writer c.push_text.new.writer c.push_text.new.writer c.from_residual-in_err-push_text.result c.in_err-push_text.field-0.0 (behind_separators h s vs) (behind_separators h s (drop i vs)) (Ok s ∷ one) (behind_separators h s (drop (i + 1) vs))
    c.loop-value.invariant (at_drop_more (behind_separators h s) vs i value.None c.loop-value-test.true) c.from_residual-in_err-push_text.ensures
    (writes-more c.loop-value.writer c.push.new.self c.push_text.new.writer (Err c.in_err-push_text.field-0.0) (Ok s ∷ []) one c.in_ok-push.ensures c.in_err-push_text.ensures)

pub loop-value-preserved : goal.loop-value-preserved
loop-value-preserved c =
    let i = c.loop-value.value-index in
    let vs = c.args.values.now in
    let h = c.args.heap.now in
    let s = c.args.separator.now in
    let one = str_pieces h (get_or vs i value.None) in
    let two = written-two (Ok s ∷ []) one c.loop-value.writer c.push.new.self c.push_text.new.writer c.in_ok-push.ensures c.in_ok-push_text.ensures in
    still-left (behind_separators h s vs) (behind_separators h s (drop i vs)) (Ok s ∷ one) (behind_separators h s (drop (i + 1) vs)) c.args.writer.now c.loop-value.writer c.push_text.new.writer
    c.loop-value.invariant (at_drop_more (behind_separators h s) vs i value.None c.loop-value-test.true) two
