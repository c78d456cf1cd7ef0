use Rattle.std.proofs.Common.{◌≡◌, ◌++◌, drop}
use Rattle.pt_sorting.specs.Sorting.{keyed}
use Rattle.pt_sorting.proofs.sorting.keyed.Given as goal

abbrev pub invariant-loop-key : goal.invariant-loop-key
invariant-loop-key l = l.pairs.items ++ keyed (drop l.key-index l.keys) l.others ≡ keyed l.keys l.values
