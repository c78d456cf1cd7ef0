use Rattle.pt_kinds.proofs.CommonLemmas.{told_agree}
use Rattle.pt_kinds.proofs.forest.Forest.agrees.Goals as goal

pub returns : goal.returns
returns c = told_agree c.args.self.now c.requires.forest c.run_at.result c.run_at-2.result c.args.one c.args.other c.args.depth c.run_at.ensures c.run_at-2.ensures c.is_same_run.result
    c.is_same_run.ensures
