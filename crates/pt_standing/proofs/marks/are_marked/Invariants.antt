use Rattle.std.proofs.Common.{◌≡◌, List, map, take, true}
use Rattle.std.specs.List.{list_all}
use Rattle.pt_tree.specs.Syntax.{Name}
use Rattle.sem_fits.specs.fits.Standing.{is_among}
use Rattle.pt_standing.specs.Texts.{HasMarks, text_at}
use Rattle.pt_standing.proofs.marks.are_marked.Given as goal

abbrev pub invariant-loop-text : goal.invariant-loop-text
invariant-loop-text l = (all names : List Name) → HasMarks all l.ids l.marks l.by names
    → list_all (is_among names) (map (text_at all) (take l.text-index l.list)) ≡ true
