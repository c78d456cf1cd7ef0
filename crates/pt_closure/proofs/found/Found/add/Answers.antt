use Rattle.pt_closure.proofs.LeastSet.{adds_new}
use Rattle.pt_closure.proofs.found.Found.add.Goals as goal

pub returns : goal.returns
returns c = adds_new c.args.pair c.args.self.now (record { pairs = c.push.new.self; seen = c.insert.new.self }) c.requires
    c.in_ok-insert.ensures.updates c.in_ok-push.ensures.items
