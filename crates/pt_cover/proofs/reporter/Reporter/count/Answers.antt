use Rattle.std.proofs.Common.{sym}
use Rattle.pt_cover.proofs.KeptLemmas.{still-fits}
use Rattle.pt_cover.proofs.reporter.Reporter.count.Goals as goal

pub invariant_of-self : goal.invariant_of-self
invariant_of-self c = still-fits _ c.count.new.self c.args.event.now _ c.count.ensures c.self.invariant
