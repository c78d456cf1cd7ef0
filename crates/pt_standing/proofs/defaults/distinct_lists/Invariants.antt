use Rattle.std.proofs.Common.{◌≡◌, ◌+◌, length}
use Rattle.pt_standing.specs.Names.{AreDistinctLists}
use Rattle.pt_standing.specs.Texts.{AreFresh, AreIds}
use Rattle.pt_standing.proofs.defaults.distinct_lists.Given as goal

abbrev pub invariant-loop-number : goal.invariant-loop-number
invariant-loop-number l = record {
  long : length l.told.items ≡ l.number;
  fresh : AreIds l.code.texts l.ids → AreFresh l.code.texts l.ids l.marks (l.number + 1);
  tells : AreIds l.code.texts l.ids → AreDistinctLists l.code.texts l.code.lists l.told.items;
}
