-- How many acts a turn of a clause has, and an annotated assignment.
use Rattle.std.specs.Prelude.{ℕ, ◌+◌, List, [], ◌∷◌}
use Rattle.pt_tree.specs.Syntax as S
use Rattle.pt_tree.specs.Syntax.{Exp, Opt, Place}
use Rattle.pt_tree.specs.Fold.{ClauseOf}
use Rattle.pt_tree.specs.Sizes.{size, place_size, target_size}

-- each condition with the decision behind it
abbrev pub conditions_size : List Exp → ℕ
conditions_size [] = 0
conditions_size (e ∷ es) = size e + 1 + conditions_size es

-- the next item, which is bound to the target, and the conditions
abbrev pub turn_size : ClauseOf → ℕ
turn_size c = 1 + target_size c.target + conditions_size c.conditions

-- (7.2.2)
abbrev pub annotated_size : Place → Opt → ℕ
annotated_size p S.absent = 1
annotated_size p (S.given e) = size e + place_size p
