use Rattle.std.proofs.Common.{rules, ◌≡◌, None}
use Rattle.std.specs.Prelude.{codes}
use Rattle.pt_transfers.specs.pt_machine_state.Views.{active_of}
use Rattle.pt_progress.proofs.ArisenLemmas.{none_active}
use Rattle.pt_progress.proofs.applying.raise_active.Goals as goal

pub returns-in_default : goal.returns-in_default
returns-in_default c =
    let same : c.in_ok-text.text ≡ codes "no active exception" = search rules in
    let none : active_of c.args.machine.now ≡ None = search rules in
    none_active c.args.blocks.now c.args.block.now c.args.machine.now c.raise_saying.new.machine c.args.writes.now c.raise_saying.new.writes c.in_ok-text.text c.raise_saying.result same none
    c.raise_saying.ensures
