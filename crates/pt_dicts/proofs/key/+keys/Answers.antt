use Rattle.std.proofs.Common.{◌∙◌, ◌-◌, ap, arith}
use Rattle.pt_dicts.specs.Keys.{coded, key_value, tuple_key}
use Rattle.pt_dicts.proofs.KeyLemmas.{handed, item-short, item-written, items-short, tuple-none, tuple-refused, tuple-short, tuple-written}
use Rattle.pt_dicts.proofs.key.+keys.Goals as goal

pub push_tuple-returns-then-depth-eq0-clause-adds : goal.push_tuple-returns-then-depth-eq0-clause-adds
push_tuple-returns-then-depth-eq0-clause-adds t c = ap (λ d. coded (tuple_key c.args.heap.now d c.args.items.now)) c.if-depth-eq0.true ∙ tuple-none c.args.heap.now c.args.items.now

pub push_tuple-returns-in_err-push_key-clause-adds : goal.push_tuple-returns-in_err-push_key-clause-adds
push_tuple-returns-in_err-push_key-clause-adds t c =
    let refused = tuple-refused c.args.heap.now c.args.depth (omega (arith, c.if-depth-eq0.false)) c.args.items.now c.loop-item.item-index c.args.codes.now c.loop-item.codes c.push_key.new.codes c.args.codes.now c.push_key.new.codes _ c.loop-item-test.true c.loop-item.invariant.codes c.in_err-push_key.ensures.adds in
    handed _ _ c.from_residual-in_err-push_key.result _ _ c.from_residual-in_err-push_key.ensures refused

pub push_tuple-loop-item-preserved : goal.push_tuple-loop-item-preserved
push_tuple-loop-item-preserved t c = record {
  codes = item-written (key_value c.args.heap.now (c.args.depth - 1)) c.args.items.now c.loop-item.item-index c.args.codes.now _ _ c.loop-item-test.true c.loop-item.invariant.codes c.in_ok-push_key.ensures.adds;
  short = item-short (key_value c.args.heap.now (c.args.depth - 1)) c.args.items.now c.loop-item.item-index _ c.loop-item-test.true c.loop-item.invariant.short c.in_ok-push_key.ensures.short;
}

pub push_tuple-returns-clause-adds : goal.push_tuple-returns-clause-adds
push_tuple-returns-clause-adds t c =
    tuple-written c.args.heap.now c.args.depth (omega (arith, c.if-depth-eq0.false)) c.args.items.now c.loop-item.item-index c.args.codes.now _ _ (omega (arith, c.loop-item-test.false)) c.loop-item.invariant.codes c.in_ok-push-2.ensures.ok

pub push_tuple-returns-clause-short : goal.push_tuple-returns-clause-short
push_tuple-returns-clause-short t c =
    tuple-short c.args.heap.now c.args.depth c.args.items.now (omega (arith, c.if-depth-eq0.false)) (items-short (key_value c.args.heap.now (c.args.depth - 1)) c.args.items.now c.loop-item.item-index _ (omega (arith, c.loop-item-test.false)) c.loop-item.invariant.short)
