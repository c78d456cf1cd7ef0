use Rattle.std.proofs.Common.{◌≡◌, ◌-◌}
use Rattle.pt_code.specs.Reading.{pass}
use Rattle.pt_code.proofs.instructions.pass.Given as goal

-- what passing the rest gives is what passing all gives
abbrev pub invariant-loop-counter : goal.invariant-loop-counter
invariant-loop-counter l = pass l.within (l.count - l.counter) l.left l.rest ≡ pass l.within l.count l.count l.bytes
