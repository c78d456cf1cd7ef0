use Rattle.std.proofs.Common.{◌≡◌, ◌∙◌, ap, sym, length, arith}
use Rattle.pt_heap.specs.Holes.{entries_of}
use Rattle.pt_heap.proofs.HoleLemmas.{entries_of-filter, AreHoles-within, length-entries_of}
use Rattle.pt_heap.proofs.dict.Dict.settle.Goals as goal

pub overflow_add-self-inside : goal.overflow_add-self-inside
overflow_add-self-inside c =
    omega (arith, AreHoles-within c.self.inside.start c.self.inside.items.entries c.self.invariant.2, length-entries_of c.self.inside.items.entries, c.self.invariant.0, c.len-len.ensures.len, c.len-len.ensures.small)

pub invariant_of-self : goal.invariant_of-self
invariant_of-self c =
    let same : entries_of c.drop_holes.new.items.entries ≡ entries_of c.self.inside.items.entries = ap entries_of c.drop_holes.ensures.entries ∙ entries_of-filter c.self.inside.items.entries in
    (c.self.invariant.0 ∙ ap length (sym same), c.self.invariant.1, tt, c.drop_holes.ensures.unique)

pub returns-then-self-len : goal.returns-then-self-len
returns-then-self-len c = ap entries_of c.drop_holes.ensures.entries ∙ entries_of-filter c.self.inside.items.entries ∙ c.self.view_is
