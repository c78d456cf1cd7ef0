use Rattle.std.proofs.Common.{nat_eq}
use Rattle.indexmap.specs.IndexSet.{IsUnique}
use Rattle.pt_heap.specs.declared.value.Value.TheVariants.{Obj}
use Rattle.pt_reprs.specs.Marks.{Follows}
use Rattle.pt_reprs.proofs.reached.is_reached.Given as goal

abbrev pub invariant-loop-at : goal.invariant-loop-at
invariant-loop-at l = record {
  follows : Follows l.heap (Obj l.fn.id) l.marks.keys l.at;
  unique : IsUnique nat_eq l.marks;
}
