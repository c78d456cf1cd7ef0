use Rattle.std.proofs.Common.{◌≡◌, ◌++◌, map, take}
use Rattle.pt_reported.specs.Reported.{act_line}
use Rattle.pt_reported.proofs.collecting.push_lines.Given as goal

abbrev pub invariant-loop-act : goal.invariant-loop-act
invariant-loop-act l = l.lines.items ≡ l.initial.lines.items ++ map act_line (take l.act l.acts)
