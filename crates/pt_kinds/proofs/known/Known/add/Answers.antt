use Rattle.pt_kinds.proofs.KnownLemmas.{adds_by}
use Rattle.pt_kinds.proofs.known.Known.add.Goals as goal

pub returns-clause-ok : goal.returns-clause-ok
returns-clause-ok c = adds_by c.args.self.now (record { nodes = c.insert.new.self }) c.args.parent c.args.count c.rank.result c.args.kind c.args.node c.rank.ensures
    c.in_ok-insert.ensures.updates
