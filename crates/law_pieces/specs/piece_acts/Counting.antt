-- How many acts a block has, as its marks tell it (PEP 626): one more than the greatest number of an act. In a re-test acts come again with their numbers.
use Rattle.std.specs.Prelude.{ℕ, suc, max, List, [], ◌∷◌}
use Rattle.pt_ranges.specs.declared.lines.ActMark.{ActMark}

abbrev pub acts_in : List ActMark → ℕ
acts_in [] = 0
acts_in (m ∷ ms) = max (suc m.act.0) (acts_in ms)
