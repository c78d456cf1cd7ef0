-- What is known of the always rows of a block.
use Rattle.std.specs.Prelude.{◌≡◌, ℕ, List}
use Rattle.pt_ranges.specs.declared.handlers.Handler.{Handler}
use Rattle.pt_sizes.specs.Waiting.{Level, AllWait, levels_of}
use Rattle.pt_takers.specs.declared.sides.Side.TheVariants.{Behind, Before}
use Rattle.pt_takers.specs.declared.takers.Takers.{Takers}
use Rattle.pt_takers.specs.Numbers.{AreNumbered}
use Rattle.pt_takers.specs.Stretches.{AreChains}

-- the rows lie over places below a count
pub record TellsTakers (rows : List Handler) (count : ℕ) (t : Takers) : Type 0 where
  pub same : t.rows.items ≡ rows
  pub always : List Handler
  pub numbered : AreNumbered rows always
  pub levels : List Level
  pub wait : AllWait always count levels
  pub behind : AreChains Behind levels (levels_of t.behind)
  pub before : AreChains Before levels (levels_of t.before)
