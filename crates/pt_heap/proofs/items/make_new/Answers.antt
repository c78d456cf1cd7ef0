use Rattle.std.proofs.Common.{◌∙◌, ap, sym}
use Rattle.std.specs.Str.{bytes_eq}
use Rattle.std.specs.Map.{lookup}
use Rattle.pt_heap.specs.Holes.{entries_of}
use Rattle.pt_heap.proofs.HoleLemmas.{entries_of-filter, lookup-filter, hole-from}
use Rattle.pt_heap.proofs.items.make_new.Goals as goal

pub returns-then-contains_key-clause-entries : goal.returns-then-contains_key-clause-entries
returns-then-contains_key-clause-entries c = ap entries_of c.drop_holes.ensures.entries ∙ entries_of-filter c.args.items.now.entries

pub returns-then-contains_key-clause-absent : goal.returns-then-contains_key-clause-absent
returns-then-contains_key-clause-absent c = ap (lookup (bytes_eq c.args.key.now)) c.drop_holes.ensures.entries ∙ lookup-filter c.args.key.now c.args.items.now.entries c.requires.new

pub vacate-requires-clause-hole : goal.vacate-requires-clause-hole
vacate-requires-clause-hole c = hole-from c.args.key.now c.args.items.now.entries c.requires.unique c.requires.new (sym c.contains_key.ensures ∙ c.if-not-contains_key.false)
