use Rattle.pt_standing.proofs.PairLemmas.{tells_more}
use Rattle.pt_standing.proofs.defaults.Defaults.tell.Goals as goal

pub returns : goal.returns
returns c = tells_more c.args.self.now (record { told = c.insert.new.self }) c.args.block c.args.list c.args.told c.in_ok-insert.ensures.updates
