use Rattle.std.proofs.Common.{[], ◌∷◌, Ok, Err}
use Rattle.pt_reprs.proofs.PieceLemmas.{writes-more, writes-stop, written-two}
use Rattle.pt_special_methods.specs.Containers.{with_between}
use Rattle.pt_special_methods.proofs.containers.push_around.Goals as goal

pub returns-in_err-push_with_between : goal.returns-in_err-push_with_between
returns-in_err-push_with_between c =
    let inside = with_between c.args.heap.now c.args.before.now c.args.next.now c.args.texts.now in
    let start = c.args.start.now in
    let e = c.in_err-push_with_between.field-0.0 in
    let new = c.push_with_between.new.writer in
    writes-stop c.args.writer.now new new c.from_residual-in_err-push_with_between.result e (Ok start ∷ inside) (Ok c.args.end.now ∷ []) c.from_residual-in_err-push_with_between.ensures
    (writes-more c.args.writer.now c.push.new.self new (Err e) (Ok start ∷ []) inside c.in_ok-push.ensures c.in_err-push_with_between.ensures)

pub returns : goal.returns
returns c =
    let inside = with_between c.args.heap.now c.args.before.now c.args.next.now c.args.texts.now in
    let start = c.args.start.now in
    let new = c.push_with_between.new.writer in
    writes-more c.args.writer.now new c.push-2.new.self c.push-2.result (Ok start ∷ inside) (Ok c.args.end.now ∷ [])
    (written-two (Ok start ∷ []) inside c.args.writer.now c.push.new.self new c.in_ok-push.ensures c.in_ok-push_with_between.ensures) c.push-2.ensures
