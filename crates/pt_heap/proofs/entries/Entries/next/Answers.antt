use Rattle.std.proofs.Common.{◌∙◌, sym}
use Rattle.pt_heap.specs.Entries.{entry}
use Rattle.pt_heap.proofs.HoleLemmas.{next-entry, no-first}
use Rattle.pt_heap.proofs.entries.Entries.next.Goals as goal

pub returns-in-Some-clause-first : goal.returns-in-Some-clause-first
returns-in-Some-clause-first c =
    let e = entry c.in-Some.key.now c.in-Some.item.first c.in-Some.item.value in
    sym c.self.view_is ∙ sym c.next_place-place.ensures.same ∙ next-entry c.next_place-place.result c.self.inside.items.now.entries e c.in-Some.ensures

pub returns-in-None-clause-end : goal.returns-in-None-clause-end
returns-in-None-clause-end c = sym c.self.view_is ∙ no-first _ (sym c.next_place-place.ensures.first ∙ c.in-None.ensures)
