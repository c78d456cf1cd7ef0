use Rattle.std.proofs.Common.{◌+◌, ◌∷◌, Ok, drop, get_or}
use Rattle.std.proofs.lemmas.List.{at_drop_more}
use Rattle.pt_heap.specs.declared.value.Value.TheVariants as value
use Rattle.pt_content.specs.Operands.{text_of}
use Rattle.pt_reprs.proofs.PieceLemmas.{left-stops, still-left}
use Rattle.pt_special_methods.specs.Containers.{in_turn, text_pieces}
use Rattle.pt_special_methods.proofs.containers.push_in_turn.Goals as goal

pub returns-in_err-push_behind : goal.returns-in_err-push_behind
returns-in_err-push_behind c =
    let i = c.loop-text.text-index in
    let vs = c.args.texts.now in
    let h = c.args.heap.now in
    let a = c.loop-text.first.now in
    let b = c.loop-text.second.now in
    let one = Ok a ∷ text_pieces (text_of h (get_or vs i value.None)) in
    left-stops c.args.writer.now c.loop-text.writer c.push_behind.new.writer c.push_behind.new.writer c.from_residual.result c.in_err-push_behind.field-0.0
    (in_turn h c.args.before.now c.args.next.now vs) (in_turn h a b (drop i vs)) one (in_turn h b a (drop (i + 1) vs))
    c.loop-text.invariant.writes (at_drop_more (in_turn h a b) vs i value.None c.loop-text-test.true) c.from_residual.ensures c.in_err-push_behind.ensures

pub loop-text-preserved : goal.loop-text-preserved
loop-text-preserved c =
    let i = c.loop-text.text-index in
    let vs = c.args.texts.now in
    let h = c.args.heap.now in
    let a = c.loop-text.first.now in
    let b = c.loop-text.second.now in
    let one = Ok a ∷ text_pieces (text_of h (get_or vs i value.None)) in
    record {
      writes = still-left (in_turn h c.args.before.now c.args.next.now vs) (in_turn h a b (drop i vs)) one (in_turn h b a (drop (i + 1) vs)) c.args.writer.now c.loop-text.writer c.push_behind.new.writer
          c.loop-text.invariant.writes (at_drop_more (in_turn h a b) vs i value.None c.loop-text-test.true) c.in_ok-push_behind.ensures;
      first = c.loop-text.invariant.second;
      second = c.loop-text.invariant.first;
    }
