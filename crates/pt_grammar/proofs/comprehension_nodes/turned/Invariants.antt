use Rattle.std.proofs.Common.{◌≡◌, ◌++◌, reverse, length}
use Rattle.pt_grammar.proofs.comprehension_nodes.turned.Given as goal

abbrev pub invariant-turn : goal.invariant-turn
invariant-turn l = record { same : reverse l.fn.clauses ≡ l.turned ++ reverse l.left }

abbrev pub decreases-turn : goal.decreases-turn
decreases-turn l = length l.left
