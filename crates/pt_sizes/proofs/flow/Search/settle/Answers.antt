use Rattle.pt_sizes.proofs.flow.Search.settle.Goals as goal

pub returns-then-not-branch : goal.returns-then-not-branch
returns-then-not-branch c = rw c.if-not-branch.true at c.in_ok-step.ensures
