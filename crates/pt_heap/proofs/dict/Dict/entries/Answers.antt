use Rattle.std.proofs.Common.{sym, subst}
use Rattle.pt_heap.specs.Entries.{HaveDistinctKeys}
use Rattle.pt_heap.proofs.HoleLemmas.{distinct-entries}
use Rattle.pt_heap.proofs.dict.Dict.entries.Goals as goal

pub returns-clause-keys : goal.returns-clause-keys
returns-clause-keys c = subst HaveDistinctKeys (sym c.new.ensures) (distinct-entries c.self.inside.items.entries c.self.invariant.3)
