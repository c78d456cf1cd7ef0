use Rattle.pt_base.proofs.CallLemmas.{at_most}
use Rattle.test_cover.proofs.wanting.WantingSink.write.Goals as goal

pub returns-then-contains-clause-counted : goal.returns-then-contains-clause-counted
returns-then-contains-clause-counted c = at_most c.args.self.now.log.fails c.args.self.now.log.made
