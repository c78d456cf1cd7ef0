use Rattle.std.proofs.Common.{◌∙◌, ap, sym}
use Rattle.pt_heap.specs.Entries.{found}
use Rattle.pt_heap.proofs.HoleLemmas.{value-from, none-from}
use Rattle.pt_heap.proofs.dict.Dict.get.Goals as goal

pub returns-in-Some : goal.returns-in-Some
returns-in-Some c = sym (value-from c.args.key.now c.self.inside.items.entries c.in-Some.item c.self.invariant.3 c.in-Some.ensures) ∙ ap (found c.args.key.now) c.self.view_is

pub returns-in-None : goal.returns-in-None
returns-in-None c = sym (none-from c.args.key.now c.self.inside.items.entries c.self.invariant.3 c.in-None.ensures) ∙ ap (found c.args.key.now) c.self.view_is
