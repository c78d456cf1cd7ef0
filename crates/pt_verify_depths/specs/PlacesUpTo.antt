-- What the table of places knows while it is made.
use Rattle.std.specs.Prelude.{◌≡◌, ℕ, ◌<◌, ◌≤◌, List, length, drop, Option, None}
use Rattle.std.specs.List.{flat_map, AllByRecursion}
use Rattle.pt_instr.specs.declared.Instr.{Instr}
use Rattle.pt_instr.specs.Encoding.{encoding, Fits}
use Rattle.pt_code.specs.declared.CodeBlock.{CodeBlock}
use Rattle.pt_code.specs.View.{laid_from}
use Rattle.pt_sizes.specs.declared.places.Place.{Place}
use Rattle.pt_sizes.specs.Flow.{entry}
use Rattle.sem_fits.specs.fits.Block.{Links}
use Rattle.pt_verify_depths.specs.PlaceTable.{place_at}

-- the places before one are in the table, and the instructions that are left begin there
pub record PlacesUpTo (links : Links) (b : CodeBlock) (instrs : List Instr) (pc : ℕ)
    (table : List (Option Place)) : Type 0 where
  pub left : List Instr
  pub fit : AllByRecursion Fits left
  pub spelled : drop pc b.instructions ≡ flat_map encoding left
  pub low : pc ≤ length b.instructions
  pub behind : (q : ℕ) → pc ≤ q → laid_from b 0 instrs q ≡ laid_from b pc left q
  pub done : (q : ℕ) → q < pc → entry table q ≡ place_at links (laid_from b 0 instrs q)
  pub ahead : (q : ℕ) → pc ≤ q → entry table q ≡ None
