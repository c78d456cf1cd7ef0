-- What stands outside the program, in memory.
use Rattle.std.specs.Prelude.{ℕ, List}

-- texts behind their names, the numbers of the calls that are to fail, and how many were made
pub record Files : Type 0 where
  pub files : List (List ℕ × List ℕ)
  pub fails : List ℕ
  pub made : ℕ

-- what a sink has taken, the numbers of the calls that are to fail, and how many were made
pub record Pieces : Type 0 where
  pub pieces : List (List ℕ)
  pub fails : List ℕ
  pub made : ℕ
