use Rattle.std.proofs.Common.{◌≤◌, ◌+◌, ap, sym, ◌∙◌, refl, true≢false, slice_get, drop, length, arith}
use Rattle.std.proofs.lemmas.List.{drop_all}
use Rattle.std.proofs.lemmas.Option.{slice_get_past}
use Rattle.pt_heap.specs.Holes.{entries_of, entry_in}
use Rattle.pt_heap.proofs.HoleLemmas.{entries_of-drop, entries_of-hole, entries_of-next, number-step}
use Rattle.pt_heap.proofs.items.sparse_place.Goals as goal
use Rattle.pt_heap.proofs.items.sparse_place.Goals.{then-not-is_hole+else-left-eq0, else-not-is_hole}

pub loop-at-init : goal.loop-at-init
loop-at-init c = ap (λ l. slice_get l c.args.number) (sym (entries_of-drop c.args.start c.args.items.now.entries c.requires))

pub returns-then-left-eq0 : goal.returns-then-left-eq0
returns-then-left-eq0 c =
    let next = entries_of-next c.loop-at.at c.args.items.now.entries (λ e. true≢false (sym (c.if-not-is_hole.ensures.1 e))) in
    next.stands ∙ sym (c.loop-at.invariant ∙ ap (slice_get (entries_of (drop c.loop-at.at c.args.items.now.entries))) c.if-left-eq0.true ∙ ap (λ l. slice_get l 0) next.behind)

pub loop-at-preserved : goal.loop-at-preserved
loop-at-preserved c =
    elim c.if-not-is_hole.branch [
      | then-not-is_hole+else-left-eq0 w ↦
          let next = entries_of-next c.loop-at.at c.args.items.now.entries (λ e. true≢false (sym (w.if-not-is_hole.ensures.1 e))) in
          c.loop-at.invariant ∙ number-step _ _ next.entry _ _ next.behind w.if-left-eq0.false w.left-is
      | else-not-is_hole w ↦
          let hole = entries_of-hole c.loop-at.at c.args.items.now.entries (w.if-not-is_hole.ensures.0 refl) in
          c.loop-at.invariant ∙ ap (λ l. slice_get l c.loop-at.left) hole ∙ ap (slice_get (entries_of (drop (c.loop-at.at + 1) c.args.items.now.entries))) (sym w.left-is)
    ]

pub returns : goal.returns
returns c =
    let past : length c.args.items.now.entries ≤ c.loop-at.at = omega (arith, c.loop-at-test.false, c.len-at-end.ensures.len) in
    let end : length c.args.items.now.entries ≤ c.len.result = omega (arith, c.len.ensures.len) in
    ap entry_in (slice_get_past c.args.items.now.entries c.len.result end)
    ∙ sym (c.loop-at.invariant ∙ ap (λ l. slice_get (entries_of l) c.loop-at.left) (drop_all c.loop-at.at c.args.items.now.entries past))
