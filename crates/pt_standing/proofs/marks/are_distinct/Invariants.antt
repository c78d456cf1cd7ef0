use Rattle.std.proofs.Common.{List}
use Rattle.pt_tree.specs.Syntax.{Name}
use Rattle.pt_standing.specs.Texts.{AreFresh}
use Rattle.pt_standing.proofs.MarkLemmas.{DistinctSoFar}
use Rattle.pt_standing.proofs.marks.are_distinct.Given as goal

abbrev pub invariant-loop-text : goal.invariant-loop-text
invariant-loop-text l = (all : List Name) → AreFresh all l.ids l.fn.marks l.by
    → DistinctSoFar all l.ids l.marks l.by l.list l.text-index
