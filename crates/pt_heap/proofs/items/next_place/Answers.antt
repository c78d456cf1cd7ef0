use Rattle.std.proofs.Common.{◌≤◌, ap, sym, ◌∙◌, refl, true≢false, slice_get, length, arith}
use Rattle.std.proofs.lemmas.List.{drop_all}
use Rattle.std.proofs.lemmas.Option.{slice_get_past}
use Rattle.pt_heap.specs.Holes.{entries_of, entry_in}
use Rattle.pt_heap.proofs.HoleLemmas.{entries_of-hole, entries_of-next}
use Rattle.pt_heap.proofs.items.next_place.Goals as goal

pub returns-then-not-is_hole-clause-first : goal.returns-then-not-is_hole-clause-first
returns-then-not-is_hole-clause-first c =
    let next = entries_of-next c.loop-at.at c.args.items.now.entries (λ e. true≢false (sym (c.if-not-is_hole.ensures.1 e))) in
    next.stands ∙ sym (ap (λ l. slice_get l 0) (sym c.loop-at.invariant ∙ next.behind))

pub loop-at-preserved : goal.loop-at-preserved
loop-at-preserved c = sym (entries_of-hole c.loop-at.at c.args.items.now.entries (c.if-not-is_hole.ensures.0 refl)) ∙ c.loop-at.invariant

pub returns-clause-first : goal.returns-clause-first
returns-clause-first c =
    let past : length c.args.items.now.entries ≤ c.loop-at.at = omega (arith, c.loop-at-test.false, c.len-at-end.ensures.len) in
    let end : length c.args.items.now.entries ≤ c.len.result = omega (arith, c.len.ensures.len) in
    ap entry_in (slice_get_past c.args.items.now.entries c.len.result end)
    ∙ sym (ap (λ l. slice_get l 0) (sym c.loop-at.invariant ∙ ap entries_of (drop_all c.loop-at.at c.args.items.now.entries past)))
