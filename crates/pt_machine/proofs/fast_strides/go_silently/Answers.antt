use Rattle.std.proofs.Common.{sym, subst}
use Rattle.pt_machine.specs.FastStrides.{HasUnit}
use Rattle.pt_machine.proofs.SilentLemmas.{same_units}
use Rattle.pt_machine.proofs.fast_strides.go_silently.Goals as goal

pub begin_silently-requires : goal.begin_silently-requires
begin_silently-requires c =
    let (n, (fits, unit)) = c.requires.unit in
    let same = same_units c.args.tables.now c.args.place.now c.in-Some.pc c.in_ok-pc.field-0 c.args.machine.now c.perform_fast.new.machine
    c.in_ok-pc.ensures c.in-Some.is in
    (n, (fits, subst (λ u. HasUnit c.args.place.now.mark n u) (sym same) unit))
