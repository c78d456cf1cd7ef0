use Rattle.std.proofs.Common.{◌≡◌, ◌++◌, drop}
use Rattle.std.specs.List.{flat_map}
use Rattle.pt_code.proofs.writing.put_items.Given as goal

-- what is put and what is left are all
abbrev pub invariant-loop-item : goal.invariant-loop-item
invariant-loop-item g l = l.out.items ++ flat_map g.T.Field.spelling (drop l.item-index l.items) ≡ l.fn.out.items ++ flat_map g.T.Field.spelling l.items
