use Rattle.std.proofs.Common.{◌≡◌, None, drop, option_map}
use Rattle.pt_jump.specs.Targets.{first_on}
use Rattle.pt_jump.proofs.landing.first_start.Given as goal

abbrev pub invariant-loop-start : goal.invariant-loop-start
invariant-loop-start g l =
    first_on (g.S.PlaceSlots.told l.slots) l.line.0 (option_map (λ p. p.0) l.first)
    (drop l.start-index l.starts)
    ≡ first_on (g.S.PlaceSlots.told l.slots) l.line.0 None l.starts
