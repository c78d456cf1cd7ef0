use Rattle.std.proofs.Common.{◌≡◌, drop}
use Rattle.pt_advancing.specs.Lines.{first_visible}
use Rattle.pt_advancing.proofs.lines.waiting_line.Given as goal

abbrev pub invariant-loop-newer : goal.invariant-loop-newer
invariant-loop-newer l = first_visible l.blocks l.otherwise.0 l.machine.openers ≡ first_visible l.blocks l.otherwise.0 (drop l.newer l.machine.openers)
