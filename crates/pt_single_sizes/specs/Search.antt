-- What is known while sizes spread.
use Rattle.std.specs.Prelude.{◌≡◌, ◌⊎◌, ℕ, ◌<◌, ◌≤◌, List, ◌++◌, length, Contains, true, Option, Some, None}
use Rattle.pt_instr.specs.declared.effects.Effect.{Effect}
use Rattle.pt_ranges.specs.declared.handlers.Handler.{Handler}
use Rattle.pt_places.specs.declared.places.Place.{Place}
use Rattle.pt_places.specs.PlaceTable.{place_at}
use Rattle.pt_code.specs.View.{Ins}
use Rattle.pt_sizes.specs.Flow.{entry, is_under}
use Rattle.pt_sizes.specs.Waiting.{AllDescend, Level, Waits}
use Rattle.pt_sizes.specs.Search.{SearchLanding}
use Rattle.sem_fits.specs.fits.Block.{Block, Links, kinds_at_start}
use Rattle.pt_verify_depths.specs.Sizes.{SizeStep, Sized, SizesMeet, left, landing_size, size_steps, sized}
use Rattle.pt_block_kinds.specs.Graph.{IsSeen}
use Rattle.pt_single_sizes.specs.Single.{own_steps}

-- a way on leads to where its size is known, or no instruction stands, or it is still due
abbrev pub Known : Block → (sizes : List (Option ℕ)) → (work : List SizeStep) → SizeStep → Type 0
Known b T work s = (entry T s.to ≡ Some s.size) ⊎ ((b.at s.to ≡ None) ⊎ Contains work s)

-- a block whose places are read, all below a count
pub record IsRead (b : Block) (named : Links) (table : List (Option Place)) (count : ℕ)
    : Type 0 where
  pub links : b.links ≡ named
  pub places : (pc : ℕ) → entry table pc ≡ place_at (b.at pc)
  pub seen : IsSeen b count

pub record Spreads (b : Block) (p count : ℕ) (T : List (Option ℕ)) (work : List SizeStep)
    (levels : List Level) : Type 0 where
  pub long : length T ≡ count
  pub start : (i : Ins) → b.at 0 ≡ Some i
      → Known b T work (sized 0 (length (kinds_at_start b.kind)))
  pub sound : (pc n : ℕ) → entry T pc ≡ Some n → Sized b p pc n
  pub due : (s : SizeStep) → Contains work s → (i : Ins) → b.at s.to ≡ Some i
      → Sized b p s.to s.size
  pub waits : (pc : ℕ) (row : Handler) → Waits levels pc row
      → Contains b.handlers row × (is_under row pc ≡ true)
  pub rest : (pc : ℕ) (row : Handler) → pc < count → Contains b.handlers row
      → is_under row pc ≡ true → Waits levels pc row ⊎ Known b T work (landing_size row)
  pub goes_on : (pc n : ℕ) (i : Ins) → pc ≤ p → entry T pc ≡ Some n → b.at pc ≡ Some i
      → (s : SizeStep) → Contains (size_steps b pc n) s → Known b T work s

-- what going on from a place adds
pub record Went (e : Effect) (pc n next : ℕ) (target : Option ℕ) (T T' : List (Option ℕ))
    (work work' : List SizeStep) (levels levels' : List Level) : Type 0 where
  pub same : T' ≡ T
  pub owned : List SizeStep
  pub own : owned ≡ work ++ own_steps e n pc next target
  pub landed : SearchLanding levels levels' pc (left e n) owned work'

-- a search goes on, of each block that is read so
pub record GoesOn (links : Links) (places : List (Option Place)) (limit : ℕ)
    (T : List (Option ℕ)) (work : List SizeStep) (levels : List Level)
    (T' : List (Option ℕ)) (work' : List SizeStep) (levels' : List Level) : Type 0 where
  pub sorted : AllDescend levels'
  pub long : length T' ≡ length T
  pub spreads : (b : Block) (count : ℕ) → IsRead b links places count
      → (SizesMeet b limit → ⊥) → Spreads b limit count T work levels
      → Spreads b limit count T' work' levels'
