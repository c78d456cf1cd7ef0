use Rattle.std.proofs.Common.{◌≡◌, drop, nat_eq}
use Rattle.indexmap.specs.IndexSet.{IsUnique}
use Rattle.pt_reprs.specs.Marks.{has_instance, MarksFirst}
use Rattle.pt_reprs.proofs.reached.mark_all.Given as goal

abbrev pub invariant-loop-value : goal.invariant-loop-value
invariant-loop-value l = record {
  none : has_instance l.heap (drop l.value-index l.values) ≡ has_instance l.heap l.values;
  marks : MarksFirst l.heap l.fn.marks.keys l.marks.keys l.values l.value-index;
  unique : IsUnique nat_eq l.fn.marks → IsUnique nat_eq l.marks;
}
