use Rattle.std.proofs.Common.{◌≡◌, rules}
use Rattle.std.specs.Prelude.{codes}
use Rattle.pt_making.specs.Making.{failing_here}
use Rattle.pt_making.proofs.Bases.{said_so}
use Rattle.pt_making.proofs.making.refuse_base.Goals as goal

pub returns : goal.returns
returns c =
    let said : c.in_ok-text.text ≡ codes "bad argument" = search rules in
    said_so c.args.block.now (failing_here c.args.called c.args.is_act c.args.machine.now) c.args.context c.args.machine.now
    c.in_ok-failed.failed c.raise_saying.new.machine c.in_ok-text.text said (search rules)
