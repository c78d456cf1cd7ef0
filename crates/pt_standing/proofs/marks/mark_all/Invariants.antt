use Rattle.std.proofs.Common.{List, map, take}
use Rattle.pt_tree.specs.Syntax.{Name}
use Rattle.pt_standing.specs.Texts.{AreFresh, Marked, text_at}
use Rattle.pt_standing.proofs.marks.mark_all.Given as goal

abbrev pub invariant-loop-text : goal.invariant-loop-text
invariant-loop-text l = (all : List Name) → AreFresh all l.ids l.fn.marks l.by
    → Marked all l.ids l.marks l.by (map (λ t. text_at all t.0) (take l.text-index l.texts))
