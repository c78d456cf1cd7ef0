use Rattle.std.proofs.Common.{◌∙◌}
use Rattle.pt_refine_expr.proofs.Building.{made-back}
use Rattle.pt_refine.proofs.statement_trees.annotation.Goals as goal

pub returns : goal.returns
returns c = made-back c.in_ok-e.ensures (c.return_to.ensures ∙ c.started-started.ensures)
