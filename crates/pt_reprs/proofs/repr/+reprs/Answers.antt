use Rattle.std.proofs.Common.{◌≡◌, ◌∙◌, ◌+◌, ◌-◌, ◌<◌, [], ◌∷◌, ◌++◌, Ok, Err, inl, inr, codes, length, take, drop, get_or, ap, sym, subst, arith}
use Rattle.std.proofs.lemmas.List.{at_drop_more, nil_from_length}
use Rattle.pt_heap.specs.declared.value.Value.TheVariants as value
use Rattle.pt_heap.specs.Entries.{entry}
use Rattle.pt_reprs.specs.Pieces.{with_pieces, Writes}
use Rattle.pt_reprs.specs.Reprs.{behind_commas, between_commas, both_pieces, entry_pieces, item_pieces, value_pieces}
use Rattle.pt_reprs.proofs.PieceLemmas.{left-stops, still-left, written-more, writes-more, writes-stop, written-two}
use Rattle.pt_reprs.proofs.TextLemmas.{entries-between, first-entry, first-item, items-between, items-deep}
use Rattle.pt_reprs.proofs.repr.+reprs.Goals as goal

pub push_container-returns-in_err-push_items-clause-writes : goal.push_container-returns-in_err-push_items-clause-writes
push_container-returns-in_err-push_items-clause-writes t c =
    let vs = c.args.items.now in
    let items = item_pieces c.args.heap.now c.args.depth (c.args.path.now ++ c.args.id.0 ∷ []) (inl vs) in
    let e = c.in_err-push_items.field-0.0 in
    let w : Writes c.push.new.self c.push_items.new.writer (Err e) items =
    subst (λ l. Writes c.push.new.self c.push_items.new.writer (Err e) (item_pieces c.args.heap.now c.args.depth l (inl vs))) c.in_ok-push-2.ensures.ok c.in_err-push_items.ensures.writes in
    writes-stop c.args.writer.now c.push_items.new.writer c.push_items.new.writer c.from_residual-in_err-push_items.result e (Ok c.args.before.now ∷ items) (Ok c.args.behind.now ∷ []) c.from_residual-in_err-push_items.ensures
    (writes-more c.args.writer.now c.push.new.self c.push_items.new.writer (Err e) (Ok c.args.before.now ∷ []) items c.in_ok-push.ensures w)

pub push_container-returns-clause-writes : goal.push_container-returns-clause-writes
push_container-returns-clause-writes t c =
    let vs = c.args.items.now in
    let items = item_pieces c.args.heap.now c.args.depth (c.args.path.now ++ c.args.id.0 ∷ []) (inl vs) in
    let w : with_pieces items c.push.new.self ≡ Ok c.push_items.new.writer =
    subst (λ l. with_pieces (item_pieces c.args.heap.now c.args.depth l (inl vs)) c.push.new.self ≡ Ok c.push_items.new.writer) c.in_ok-push-2.ensures.ok c.in_ok-push_items.ensures.writes in
    writes-more c.args.writer.now c.push_items.new.writer c.push-3.new.self c.push-3.result (Ok c.args.before.now ∷ items) (Ok c.args.behind.now ∷ [])
    (written-two (Ok c.args.before.now ∷ []) items c.args.writer.now c.push.new.self c.push_items.new.writer c.in_ok-push.ensures w) c.push-3.ensures

pub push_items-returns-then-depth-eq0-clause-writes : goal.push_items-returns-then-depth-eq0-clause-writes
push_items-returns-then-depth-eq0-clause-writes t c =
    ap (λ d. with_pieces (item_pieces c.args.heap.now d c.args.path.now (inl c.args.items.now)) c.args.writer.now) c.if-depth-eq0.true ∙ items-deep c.args.heap.now c.args.path.now (inl c.args.items.now) c.args.writer.now

pub push_items-returns-in_err-push_value-in-len1-up-clause-writes : goal.push_items-returns-in_err-push_value-in-len1-up-clause-writes
push_items-returns-in_err-push_value-in-len1-up-clause-writes t c =
    let h = c.args.heap.now in
    let vs = c.args.items.now in
    let f = value_pieces (item_pieces h (c.args.depth - 1)) h c.args.path.now in
    let whole = items-between h c.args.depth c.args.path.now vs (omega (arith, c.if-depth-eq0.false)) ∙ first-item f vs c.in-len1-up.len_at_least in
    subst (λ ps. Writes c.args.writer.now c.push_value.new.writer c.from_residual.result ps) (sym whole)
    (writes-stop c.args.writer.now c.push_value.new.writer c.push_value.new.writer c.from_residual.result c.in_err-push_value-in-len1-up.field-0.0 (f (get_or vs 0 value.None)) (behind_commas f (take (length vs - 1) (drop 1 vs)))
    c.from_residual.ensures c.in_err-push_value-in-len1-up.ensures.writes)

pub push_items-loop-item-init : goal.push_items-loop-item-init
push_items-loop-item-init t c =
    let h = c.args.heap.now in
    let vs = c.args.items.now in
    let f = value_pieces (item_pieces h (c.args.depth - 1)) h c.args.path.now in
    let whole = items-between h c.args.depth c.args.path.now vs (omega (arith, c.if-depth-eq0.false)) ∙ first-item f vs c.in-len1-up.len_at_least in
    record {
      writes = ap (λ ps. with_pieces ps c.args.writer.now) whole ∙ written-more (f (get_or vs 0 value.None)) (behind_commas f (take (length vs - 1) (drop 1 vs))) c.args.writer.now c.push_value.new.writer c.in_ok-push_value-in-len1-up.ensures.writes;
      path = c.in_ok-push_value-in-len1-up.ensures.path;
    }

pub push_items-returns-in_err-push-in-len1-up-clause-writes : goal.push_items-returns-in_err-push-in-len1-up-clause-writes
push_items-returns-in_err-push-in-len1-up-clause-writes t c =
    let h = c.args.heap.now in
    let vs = c.args.items.now in
    let rest = take (length vs - 1) (drop 1 vs) in
    let i = c.loop-item.item-index in
    let f = value_pieces (item_pieces h (c.args.depth - 1)) h c.args.path.now in
    left-stops c.args.writer.now c.loop-item.writer c.push.new.self c.push.new.self c.from_residual-in_err-push-in-len1-up.result c.in_err-push-in-len1-up.field-0.0
    (item_pieces h c.args.depth c.args.path.now (inl vs)) (behind_commas f (drop i rest)) (Ok (codes ", ") ∷ []) (f (get_or rest i value.None) ++ behind_commas f (drop (i + 1) rest))
    c.loop-item.invariant.writes (at_drop_more (behind_commas f) rest i value.None c.loop-item-test.true) c.from_residual-in_err-push-in-len1-up.ensures c.in_err-push-in-len1-up.ensures

pub push_items-returns-in_err-push_value-in-len1-up-2-clause-writes : goal.push_items-returns-in_err-push_value-in-len1-up-2-clause-writes
push_items-returns-in_err-push_value-in-len1-up-2-clause-writes t c =
    let h = c.args.heap.now in
    let vs = c.args.items.now in
    let rest = take (length vs - 1) (drop 1 vs) in
    let i = c.loop-item.item-index in
    let v = get_or rest i value.None in
    let f = value_pieces (item_pieces h (c.args.depth - 1)) h c.args.path.now in
    let e = c.in_err-push_value-in-len1-up-2.field-0.0 in
    let new = c.push_value-in-loop-item.new.writer in
    let w : Writes c.push.new.self new (Err e) (f v) =
    subst (λ l. Writes c.push.new.self new (Err e) (value_pieces (item_pieces h (c.args.depth - 1)) h l v)) c.loop-item.invariant.path c.in_err-push_value-in-len1-up-2.ensures.writes in
    left-stops c.args.writer.now c.loop-item.writer new new c.from_residual-in_err-push_value-in-len1-up-2.result e
    (item_pieces h c.args.depth c.args.path.now (inl vs)) (behind_commas f (drop i rest)) (Ok (codes ", ") ∷ f v) (behind_commas f (drop (i + 1) rest))
    c.loop-item.invariant.writes (at_drop_more (behind_commas f) rest i value.None c.loop-item-test.true) c.from_residual-in_err-push_value-in-len1-up-2.ensures
    (writes-more c.loop-item.writer c.push.new.self new (Err e) (Ok (codes ", ") ∷ []) (f v) c.in_ok-push-in-len1-up.ensures w)

pub push_items-loop-item-preserved : goal.push_items-loop-item-preserved
push_items-loop-item-preserved t c =
    let h = c.args.heap.now in
    let vs = c.args.items.now in
    let rest = take (length vs - 1) (drop 1 vs) in
    let i = c.loop-item.item-index in
    let v = get_or rest i value.None in
    let f = value_pieces (item_pieces h (c.args.depth - 1)) h c.args.path.now in
    let new = c.push_value-in-loop-item.new.writer in
    let w : with_pieces (f v) c.push.new.self ≡ Ok new =
    subst (λ l. with_pieces (value_pieces (item_pieces h (c.args.depth - 1)) h l v) c.push.new.self ≡ Ok new) c.loop-item.invariant.path c.in_ok-push_value-in-len1-up-2.ensures.writes in
    record {
      writes = still-left (item_pieces h c.args.depth c.args.path.now (inl vs)) (behind_commas f (drop i rest)) (Ok (codes ", ") ∷ f v) (behind_commas f (drop (i + 1) rest)) c.args.writer.now c.loop-item.writer new
          c.loop-item.invariant.writes (at_drop_more (behind_commas f) rest i value.None c.loop-item-test.true)
          (written-two (Ok (codes ", ") ∷ []) (f v) c.loop-item.writer c.push.new.self new c.in_ok-push-in-len1-up.ensures w);
      path = c.in_ok-push_value-in-len1-up-2.ensures.path ∙ c.loop-item.invariant.path;
    }

pub push_items-returns-in-empty-clause-writes : goal.push_items-returns-in-empty-clause-writes
push_items-returns-in-empty-clause-writes t c =
    let h = c.args.heap.now in
    let f = value_pieces (item_pieces h (c.args.depth - 1)) h c.args.path.now in
    let none : length c.args.items.now ≡ 0 = omega (arith, c.in-empty.len_below) in
    let whole = items-between h c.args.depth c.args.path.now c.args.items.now (omega (arith, c.if-depth-eq0.false)) ∙ ap (between_commas f) (nil_from_length c.args.items.now none) in
    ap (λ ps. with_pieces ps c.args.writer.now) whole

pub push_dict-returns-in_err-push_entries-clause-writes : goal.push_dict-returns-in_err-push_entries-clause-writes
push_dict-returns-in_err-push_entries-clause-writes t c =
    let es = c.args.dict.now in
    let entries = item_pieces c.args.heap.now c.args.depth (c.args.path.now ++ c.args.id.0 ∷ []) (inr (c.args.form, es)) in
    let e = c.in_err-push_entries.field-0.0 in
    let w : Writes c.push.new.self c.push_entries.new.writer (Err e) entries =
    subst (λ l. Writes c.push.new.self c.push_entries.new.writer (Err e) (item_pieces c.args.heap.now c.args.depth l (inr (c.args.form, es)))) c.in_ok-push-2.ensures.ok c.in_err-push_entries.ensures.writes in
    writes-stop c.args.writer.now c.push_entries.new.writer c.push_entries.new.writer c.from_residual-in_err-push_entries.result e (Ok c.args.before.now ∷ entries) (Ok c.args.behind.now ∷ []) c.from_residual-in_err-push_entries.ensures
    (writes-more c.args.writer.now c.push.new.self c.push_entries.new.writer (Err e) (Ok c.args.before.now ∷ []) entries c.in_ok-push.ensures w)

pub push_dict-returns-clause-writes : goal.push_dict-returns-clause-writes
push_dict-returns-clause-writes t c =
    let es = c.args.dict.now in
    let entries = item_pieces c.args.heap.now c.args.depth (c.args.path.now ++ c.args.id.0 ∷ []) (inr (c.args.form, es)) in
    let w : with_pieces entries c.push.new.self ≡ Ok c.push_entries.new.writer =
    subst (λ l. with_pieces (item_pieces c.args.heap.now c.args.depth l (inr (c.args.form, es))) c.push.new.self ≡ Ok c.push_entries.new.writer) c.in_ok-push-2.ensures.ok c.in_ok-push_entries.ensures.writes in
    writes-more c.args.writer.now c.push_entries.new.writer c.push-3.new.self c.push-3.result (Ok c.args.before.now ∷ entries) (Ok c.args.behind.now ∷ [])
    (written-two (Ok c.args.before.now ∷ []) entries c.args.writer.now c.push.new.self c.push_entries.new.writer c.in_ok-push.ensures w) c.push-3.ensures

pub push_both-returns-in_err-push_value-clause-writes : goal.push_both-returns-in_err-push_value-clause-writes
push_both-returns-in_err-push_value-clause-writes t c =
    let h = c.args.heap.now in
    let f = value_pieces (item_pieces h c.args.depth) h c.args.path.now in
    writes-stop c.args.writer.now c.push_value.new.writer c.push_value.new.writer c.from_residual.result c.in_err-push_value.field-0.0 (f c.args.first) (Ok c.args.between.now ∷ f c.args.value)
    c.from_residual.ensures c.in_err-push_value.ensures.writes

pub push_both-returns-in_err-push-clause-writes : goal.push_both-returns-in_err-push-clause-writes
push_both-returns-in_err-push-clause-writes t c =
    let h = c.args.heap.now in
    let f = value_pieces (item_pieces h c.args.depth) h c.args.path.now in
    let r = c.from_residual-in_err-push.result in
    writes-more c.args.writer.now c.push_value.new.writer c.push.new.self r (f c.args.first) (Ok c.args.between.now ∷ f c.args.value) c.in_ok-push_value.ensures.writes
    (writes-stop c.push_value.new.writer c.push.new.self c.push.new.self r c.in_err-push.field-0.0 (Ok c.args.between.now ∷ []) (f c.args.value) c.from_residual-in_err-push.ensures c.in_err-push.ensures)

pub push_both-returns-clause-writes : goal.push_both-returns-clause-writes
push_both-returns-clause-writes t c =
    let h = c.args.heap.now in
    let f = value_pieces (item_pieces h c.args.depth) h c.args.path.now in
    let new = c.push_value-2.new.writer in
    let r = c.push_value-2.result in
    let w : Writes c.push.new.self new r (f c.args.value) =
    subst (λ l. Writes c.push.new.self new r (value_pieces (item_pieces h c.args.depth) h l c.args.value)) c.in_ok-push_value.ensures.path c.push_value-2.ensures.writes in
    writes-more c.args.writer.now c.push_value.new.writer new r (f c.args.first) (Ok c.args.between.now ∷ f c.args.value) c.in_ok-push_value.ensures.writes
    (writes-more c.push_value.new.writer c.push.new.self new r (Ok c.args.between.now ∷ []) (f c.args.value) c.in_ok-push.ensures w)

pub push_pair-returns-in_err-push_both-clause-writes : goal.push_pair-returns-in_err-push_both-clause-writes
push_pair-returns-in_err-push_both-clause-writes t c =
    let both = both_pieces (value_pieces (item_pieces c.args.heap.now c.args.depth) c.args.heap.now c.args.path.now) (codes ", ") c.args.first c.args.value in
    let e = c.in_err-push_both.field-0.0 in
    writes-stop c.args.writer.now c.push_both.new.writer c.push_both.new.writer c.from_residual-in_err-push_both.result e (Ok (codes "(") ∷ both) (Ok (codes ")") ∷ []) c.from_residual-in_err-push_both.ensures
    (writes-more c.args.writer.now c.push.new.self c.push_both.new.writer (Err e) (Ok (codes "(") ∷ []) both c.in_ok-push.ensures c.in_err-push_both.ensures.writes)

pub push_pair-returns-clause-writes : goal.push_pair-returns-clause-writes
push_pair-returns-clause-writes t c =
    let both = both_pieces (value_pieces (item_pieces c.args.heap.now c.args.depth) c.args.heap.now c.args.path.now) (codes ", ") c.args.first c.args.value in
    writes-more c.args.writer.now c.push_both.new.writer c.push-2.new.self c.push-2.result (Ok (codes "(") ∷ both) (Ok (codes ")") ∷ [])
    (written-two (Ok (codes "(") ∷ []) both c.args.writer.now c.push.new.self c.push_both.new.writer c.in_ok-push.ensures c.in_ok-push_both.ensures.writes) c.push-2.ensures

pub push_entries-returns-then-depth-eq0-clause-writes : goal.push_entries-returns-then-depth-eq0-clause-writes
push_entries-returns-then-depth-eq0-clause-writes t c =
    ap (λ d. with_pieces (item_pieces c.args.heap.now d c.args.path.now (inr (c.args.form, c.args.dict.now))) c.args.writer.now) c.if-depth-eq0.true ∙ items-deep c.args.heap.now c.args.path.now (inr (c.args.form, c.args.dict.now)) c.args.writer.now

pub push_entries-returns-in_default-clause-writes : goal.push_entries-returns-in_default-clause-writes
push_entries-returns-in_default-clause-writes t c =
    let h = c.args.heap.now in
    let f = entry_pieces c.args.form (value_pieces (item_pieces h (c.args.depth - 1)) h c.args.path.now) in
    let none : c.args.dict.now ≡ [] = sym c.entries-left.ensures.rest ∙ c.in_default.ensures.end in
    let whole = entries-between h c.args.depth c.args.path.now c.args.form c.args.dict.now (omega (arith, c.if-depth-eq0.false)) ∙ ap (between_commas f) none in
    ap (λ ps. with_pieces ps c.args.writer.now) whole

pub push_entries-returns-in_err-push_entry-clause-writes : goal.push_entries-returns-in_err-push_entry-clause-writes
push_entries-returns-in_err-push_entry-clause-writes t c =
    let h = c.args.heap.now in
    let f = entry_pieces c.args.form (value_pieces (item_pieces h (c.args.depth - 1)) h c.args.path.now) in
    let e = entry c.in-Some.first.key.now c.in-Some.first.first c.in-Some.first.value in
    let rest = c.next.new.self in
    let split : c.args.dict.now ≡ e ∷ rest = sym c.entries-left.ensures.rest ∙ c.in-Some.ensures.first in
    let whole = first-entry h c.args.depth c.args.path.now c.args.form c.args.dict.now rest e (omega (arith, c.if-depth-eq0.false)) split in
    subst (λ ps. Writes c.args.writer.now c.push_entry.new.writer c.from_residual.result ps) (sym whole)
    (writes-stop c.args.writer.now c.push_entry.new.writer c.push_entry.new.writer c.from_residual.result c.in_err-push_entry.field-0.0 (f e) (behind_commas f rest)
    c.from_residual.ensures c.in_err-push_entry.ensures.writes)

pub push_entries-loop-entry-init : goal.push_entries-loop-entry-init
push_entries-loop-entry-init t c =
    let h = c.args.heap.now in
    let f = entry_pieces c.args.form (value_pieces (item_pieces h (c.args.depth - 1)) h c.args.path.now) in
    let e = entry c.in-Some.first.key.now c.in-Some.first.first c.in-Some.first.value in
    let rest = c.next.new.self in
    let split : c.args.dict.now ≡ e ∷ rest = sym c.entries-left.ensures.rest ∙ c.in-Some.ensures.first in
    let whole = first-entry h c.args.depth c.args.path.now c.args.form c.args.dict.now rest e (omega (arith, c.if-depth-eq0.false)) split in
    record {
      writes = ap (λ ps. with_pieces ps c.args.writer.now) whole ∙ written-more (f e) (behind_commas f rest) c.args.writer.now c.push_entry.new.writer c.in_ok-push_entry.ensures.writes;
      path = c.in_ok-push_entry.ensures.path;
    }

pub push_entries-loop-entry-preserved : goal.push_entries-loop-entry-preserved
push_entries-loop-entry-preserved t c =
    let h = c.args.heap.now in
    let f = entry_pieces c.args.form (value_pieces (item_pieces h (c.args.depth - 1)) h c.args.path.now) in
    let e = entry c.in-Some-next.entry.key.now c.in-Some-next.entry.first c.in-Some-next.entry.value in
    let left = c.loop-entry.left in
    let rest = c.next-in-loop-entry.new.self in
    let new = c.push_entry-in-Some-next.new.writer in
    let w : with_pieces (f e) c.push.new.self ≡ Ok new =
    subst (λ l. with_pieces (entry_pieces c.args.form (value_pieces (item_pieces h (c.args.depth - 1)) h l) e) c.push.new.self ≡ Ok new) c.loop-entry.invariant.path c.in_ok-push_entry-2.ensures.writes in
    record {
      writes = still-left (item_pieces h c.args.depth c.args.path.now (inr (c.args.form, c.args.dict.now))) (behind_commas f left) (Ok (codes ", ") ∷ f e) (behind_commas f rest) c.args.writer.now c.loop-entry.writer new
          c.loop-entry.invariant.writes (ap (behind_commas f) c.in-Some-next.ensures.first)
          (written-two (Ok (codes ", ") ∷ []) (f e) c.loop-entry.writer c.push.new.self new c.in_ok-push.ensures w);
      path = c.in_ok-push_entry-2.ensures.path ∙ c.loop-entry.invariant.path;
    }

pub push_entries-returns-in_err-push_entry-2-clause-writes : goal.push_entries-returns-in_err-push_entry-2-clause-writes
push_entries-returns-in_err-push_entry-2-clause-writes t c =
    let h = c.args.heap.now in
    let f = entry_pieces c.args.form (value_pieces (item_pieces h (c.args.depth - 1)) h c.args.path.now) in
    let e = entry c.in-Some-next.entry.key.now c.in-Some-next.entry.first c.in-Some-next.entry.value in
    let left = c.loop-entry.left in
    let rest = c.next-in-loop-entry.new.self in
    let new = c.push_entry-in-Some-next.new.writer in
    let x = c.in_err-push_entry-2.field-0.0 in
    let w : Writes c.push.new.self new (Err x) (f e) =
    subst (λ l. Writes c.push.new.self new (Err x) (entry_pieces c.args.form (value_pieces (item_pieces h (c.args.depth - 1)) h l) e)) c.loop-entry.invariant.path c.in_err-push_entry-2.ensures.writes in
    left-stops c.args.writer.now c.loop-entry.writer new new c.from_residual-in_err-push_entry-2.result x
    (item_pieces h c.args.depth c.args.path.now (inr (c.args.form, c.args.dict.now))) (behind_commas f left) (Ok (codes ", ") ∷ f e) (behind_commas f rest)
    c.loop-entry.invariant.writes (ap (behind_commas f) c.in-Some-next.ensures.first) c.from_residual-in_err-push_entry-2.ensures
    (writes-more c.loop-entry.writer c.push.new.self new (Err x) (Ok (codes ", ") ∷ []) (f e) c.in_ok-push.ensures w)
