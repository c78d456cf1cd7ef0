use Rattle.pt_expr.proofs.reader.Reader.+operators_behind.Given as goal

abbrev pub decreases-operators_behind : goal.decreases-operators_behind
decreases-operators_behind l = l.level
