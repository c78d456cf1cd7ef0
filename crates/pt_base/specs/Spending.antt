-- A budget of acts.
use Rattle.std.specs.Prelude.{ℕ}

-- how many units there are, and how many of them are taken
pub record Spending : Type 0 where
  pub limit : ℕ
  pub taken : ℕ
