use Rattle.std.proofs.Common.{◌≡◌, take}
use Rattle.std.specs.Prelude.{string_eq}
use Rattle.indexmap.specs.IndexMap.{IsUnique}
use Rattle.pt_names.specs.Names.{by_text}
use Rattle.pt_names.proofs.names.copy_of.Given as goal

abbrev pub invariant-loop-at : goal.invariant-loop-at
invariant-loop-at l = record {
  before : by_text l.copy.entries ≡ by_text (take l.at l.map.entries);
  unique : IsUnique string_eq l.copy;
}
