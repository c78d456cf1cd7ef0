-- What is told where the value of a block leads on, and where it doesn't.
use Rattle.std.proofs.Common.{◌≡◌, Bool, true, false, Option, Some, None, ap, subst}
use Rattle.pt_giving.specs.pt_calling.pt_machine_state.declared.blocks.BlockCode.{BlockCode}
use Rattle.pt_giving.specs.pt_purposes.declared.purpose.Called.{Called}
use Rattle.pt_giving.specs.pt_calling.pt_arising.pt_opening.pt_run_state.declared.machine.Machine.{Machine}
use Rattle.pt_giving.specs.pt_calling.pt_arising.pt_opening.pt_telling.Telling.{Told}
use Rattle.pt_giving.specs.pt_calling.pt_arising.pt_replying.declared.replying.Decided.{Decided}
use Rattle.pt_giving.specs.declared.giving.Received.TheVariants.{Goes, Further}
use Rattle.pt_giving.specs.Giving.{goes, left}
use Rattle.pt_resuming.specs.Resuming.{Place, LaidSo, given_there, resumed_if}

pub where_there : (block : BlockCode) (o : Option Place) (called : Option Called) (acts : Bool)
    (d : Decided) (old mid : Machine) → LaidSo o old true mid → (event : Bool) (new : Machine)
    → record { event = event; machine = new } ≡ given_there block called acts d old mid
    → record { received = Goes event; machine = new } ≡ resumed_if block o called acts d old
where_there block (Some p) called acts d old mid (e, same) event new is =
    subst (λ x. record { received = Goes event; machine = new } ≡ goes (given_there block called acts d old x)) same
    (ap (λ (t : Told). goes t) is)
where_there block None called acts d old mid (e, same) event new is = absurd cc

pub where_left : (block : BlockCode) (o : Option Place) (called : Option Called) (acts : Bool)
    (d : Decided) (old mid : Machine) → LaidSo o old false mid
    → record { received = Further; machine = mid } ≡ resumed_if block o called acts d old
where_left block (Some p) called acts d old mid (e, same) = absurd cc
where_left block None called acts d old mid (e, same) = ap (λ x. left x) same
