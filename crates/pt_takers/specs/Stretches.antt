-- Chains of the stretches in which a place lies.
use Rattle.std.specs.Prelude.{ℕ, ◌/◌, List, [], ◌∷◌, find, nat_le, if◌then◌else◌, Option, Some, None}
use Rattle.pt_ranges.specs.declared.handlers.Handler.{Handler}
use Rattle.pt_sizes.specs.Waiting.{Level, stretch_of}
use Rattle.pt_takers.specs.declared.sides.Side.{Side}
use Rattle.pt_takers.specs.Sides.{is_below}
use Rattle.pt_takers.specs.Chains.{IsChain}

-- stretch by stretch
pub data AreChainsOfLevel (side : Side) : (level chains : Level) → Type 0 where
  no_stretch : AreChainsOfLevel side [] []
  one_stretch : {rows chain : List Handler} {level chains : Level} → IsChain side rows chain
      → AreChainsOfLevel side level chains
      → AreChainsOfLevel side (rows ∷ level) (chain ∷ chains)

-- level by level
pub data AreChains (side : Side) : (levels chains : List Level) → Type 0 where
  no_level : AreChains side [] []
  one_level : {rows chains : Level} {levels above : List Level} → AreChainsOfLevel side rows chains
      → AreChains side levels above → AreChains side (rows ∷ levels) (chains ∷ above)

-- of two rows that with the less number
abbrev pub sooner : Option Handler → Option Handler → Option Handler
sooner None other = other
sooner (Some row) None = Some row
sooner (Some row) (Some next) = if nat_le row.target.0 next.target.0 then Some row else Some next

abbrev pub first_up : Side → (bound : ℕ) → List Level → (node : ℕ) → Option Handler
first_up side bound [] node = None
first_up side bound (level ∷ levels) node =
    sooner (find (is_below side bound) (stretch_of level node))
    (first_up side bound levels (node / 2))
