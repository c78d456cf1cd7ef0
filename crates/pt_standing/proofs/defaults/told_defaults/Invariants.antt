use Rattle.std.proofs.Common.{◌+◌}
use Rattle.pt_standing.specs.Names.{AreDistinctLists, TellsDefaults}
use Rattle.pt_standing.specs.Texts.{AreFresh, AreIds}
use Rattle.pt_standing.proofs.defaults.told_defaults.Given as goal

abbrev pub invariant-loop-number : goal.invariant-loop-number
invariant-loop-number l = record {
  fresh : AreIds l.code.texts l.ids → AreFresh l.code.texts l.ids l.marks (l.number + 1);
  tells : AreIds l.code.texts l.ids → AreDistinctLists l.code.texts l.code.lists l.distinct → TellsDefaults l.code l.defaults;
}
