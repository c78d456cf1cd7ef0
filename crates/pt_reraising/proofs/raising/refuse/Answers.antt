use Rattle.std.proofs.Common.{◌≡◌, rules}
use Rattle.std.specs.Prelude.{codes}
use Rattle.pt_reraising.proofs.Active.{said_so}
use Rattle.pt_reraising.proofs.raising.refuse.Goals as goal

pub returns : goal.returns
returns c =
    let said : c.in_ok-text.text ≡ codes "no active exception" = search rules in
    said_so c.args.block.now c.args.is_act c.args.active c.args.machine.now c.in_ok-failed.failed c.fail.new.machine c.in_ok-text.text said
    c.in_ok-failed.ensures
