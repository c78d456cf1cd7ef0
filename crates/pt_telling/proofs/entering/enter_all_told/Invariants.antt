use Rattle.std.proofs.Common.{◌≡◌, drop}
use Rattle.pt_telling.specs.Telling.{entered_by_all}
use Rattle.pt_telling.proofs.entering.enter_all_told.Given as goal

abbrev pub invariant-loop-what : goal.invariant-loop-what
invariant-loop-what l = entered_by_all l.block (drop l.what-index l.told) l.machine ≡ entered_by_all l.block l.told l.fn.machine
