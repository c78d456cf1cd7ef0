use Rattle.std.proofs.Common.{[], ◌∷◌, Ok}
use Rattle.pt_reprs.specs.Texts.{between_separators}
use Rattle.pt_reprs.proofs.PieceLemmas.{writes-more, writes-stop}
use Rattle.pt_reprs.proofs.texts.push_all.Goals as goal

pub returns-in_err-push_between_separators : goal.returns-in_err-push_between_separators
returns-in_err-push_between_separators c =
    writes-stop c.args.writer.now c.push_between_separators.new.writer c.push_between_separators.new.writer c.from_residual.result c.in_err-push_between_separators.field-0.0 (between_separators c.args.heap.now c.args.separator.now c.args.values.now) (Ok c.args.end.now ∷ [])
    c.from_residual.ensures c.in_err-push_between_separators.ensures

pub returns : goal.returns
returns c =
    writes-more c.args.writer.now c.push_between_separators.new.writer c.push.new.self c.push.result (between_separators c.args.heap.now c.args.separator.now c.args.values.now) (Ok c.args.end.now ∷ [])
    c.in_ok-push_between_separators.ensures c.push.ensures
