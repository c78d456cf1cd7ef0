use Rattle.std.proofs.Common.{◌≡◌, [], ◌∷◌, ◌++◌, inl, Ok, Err, codes, subst}
use Rattle.pt_reprs.specs.Pieces.{with_pieces, Writes}
use Rattle.pt_reprs.specs.Reprs.{depth_limit, item_pieces, tuple_end}
use Rattle.pt_reprs.proofs.PieceLemmas.{writes-more, writes-stop, written-two}
use Rattle.pt_reprs.proofs.repr.push_tuple.Goals as goal

pub returns-in_err-push_items : goal.returns-in_err-push_items
returns-in_err-push_items c =
    let vs = c.args.items.now in
    let items = item_pieces c.args.heap.now depth_limit [] (inl vs) in
    let e = c.in_err-push_items.field-0.0 in
    let w : Writes c.push.new.self c.push_items.new.writer (Err e) items =
    subst (λ l. Writes c.push.new.self c.push_items.new.writer (Err e) (item_pieces c.args.heap.now depth_limit l (inl vs))) c.new-path.ensures c.in_err-push_items.ensures.writes in
    writes-stop c.args.writer.now c.push_items.new.writer c.push_items.new.writer c.from_residual-in_err-push_items.result e (Ok (codes "(") ∷ items) (Ok (tuple_end vs) ∷ []) c.from_residual-in_err-push_items.ensures
    (writes-more c.args.writer.now c.push.new.self c.push_items.new.writer (Err e) (Ok (codes "(") ∷ []) items c.in_ok-push.ensures w)

pub returns : goal.returns
returns c =
    let vs = c.args.items.now in
    let items = item_pieces c.args.heap.now depth_limit [] (inl vs) in
    let w : with_pieces items c.push.new.self ≡ Ok c.push_items.new.writer =
    subst (λ l. with_pieces (item_pieces c.args.heap.now depth_limit l (inl vs)) c.push.new.self ≡ Ok c.push_items.new.writer) c.new-path.ensures c.in_ok-push_items.ensures.writes in
    let behind : Writes c.push_items.new.writer c.push-2.new.self c.push-2.result (Ok (tuple_end vs) ∷ []) =
    subst (λ t. Writes c.push_items.new.writer c.push-2.new.self c.push-2.result (Ok t ∷ [])) c.tuple_end.ensures c.push-2.ensures in
    writes-more c.args.writer.now c.push_items.new.writer c.push-2.new.self c.push-2.result (Ok (codes "(") ∷ items) (Ok (tuple_end vs) ∷ [])
    (written-two (Ok (codes "(") ∷ []) items c.args.writer.now c.push.new.self c.push_items.new.writer c.in_ok-push.ensures w) behind
