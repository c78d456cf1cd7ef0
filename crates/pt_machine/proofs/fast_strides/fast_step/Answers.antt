use Rattle.std.proofs.Common.{rules}
use Rattle.pt_machine.specs.FastStrides.{HasUnit, IsSilent}
use Rattle.pt_machine.proofs.RowLemmas.{row_ok}
use Rattle.pt_machine.proofs.SilentLemmas.{silent_step}
use Rattle.pt_machine.proofs.fast_strides.fast_step.Goals as goal

pub returns-in-Return : goal.returns-in-Return
returns-in-Return c =
    let unit : HasUnit c.args.place.now.mark c.args.bound c.args.machine.now.units = search rules in
    let quiet : IsSilent c.args.place.now.mark c.args.block.now c.args.writes.now c.args.machine.now = search rules in
    row_ok c.return_silently.result c.return_silently.ensures (λ done goes.
    silent_step c.args.tables.now c.args.block.now c.args.place.now c.args.machine.now _ c.args.writes.now c.args.bound c.requires.is_block
    c.requires.is_there c.requires.at_place unit quiet done (goes c.args.tables.now))

pub returns-in_default : goal.returns-in_default
returns-in_default c =
    let unit : HasUnit c.args.place.now.mark c.args.bound c.args.machine.now.units = search rules in
    let quiet : IsSilent c.args.place.now.mark c.args.block.now c.args.writes.now c.args.machine.now = search rules in
    row_ok c.go_silently.result c.go_silently.ensures (λ done goes.
    silent_step c.args.tables.now c.args.block.now c.args.place.now c.args.machine.now _ c.args.writes.now c.args.bound c.requires.is_block
    c.requires.is_there c.requires.at_place unit quiet done (goes c.args.block.now))
