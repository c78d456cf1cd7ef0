use Rattle.std.proofs.Common.{◌≡◌, ◌≤◌, ◌+◌, ◌∙◌, ap, sym, length, arith}
use Rattle.std.proofs.lemmas.Option.{slice_get_past}
use Rattle.pt_heap.specs.Holes.{entries_of, entry_in}
use Rattle.pt_heap.proofs.HoleLemmas.{AreHoles-within, length-entries_of, dense-place}
use Rattle.pt_heap.proofs.items.place_of.Goals as goal

pub overflow_add-start : goal.overflow_add-start
overflow_add-start c =
    omega (arith, AreHoles-within c.args.start c.args.items.now.entries c.requires.holes, length-entries_of c.args.items.now.entries, c.requires.count, c.len-len.ensures.len, c.len-len.ensures.small)

pub returns-then-number-count : goal.returns-then-number-count
returns-then-number-count c =
    let all : c.args.start + length (entries_of c.args.items.now.entries) ≡ length c.args.items.now.entries = omega (arith, c.if-start-count.false, c.requires.count, c.len-len.ensures.len) in
    dense-place c.args.start c.args.items.now.entries c.args.number c.requires.holes all

pub returns : goal.returns
returns c =
    let end : length c.args.items.now.entries ≤ c.len-len.result = omega (arith, c.len-len.ensures.len) in
    let past : length (entries_of c.args.items.now.entries) ≤ c.args.number = omega (arith, c.if-number-count.false, c.requires.count) in
    ap entry_in (slice_get_past c.args.items.now.entries c.len-len.result end) ∙ sym (slice_get_past (entries_of c.args.items.now.entries) c.args.number past)
