-- What a log has taken since another one was put before it, which counts. A sink tells what it took behind a list of pieces; the list behind which a log
-- that counts took its pieces tells of which lines or names its report is, what it passes on, and what the log below had taken behind what.
use Rattle.std.specs.Prelude.{◌≡◌, ℕ, Bool, true, false, List, [], ◌∷◌, ◌++◌, length, if◌then◌else◌}
use Rattle.pt_base.specs.Taken.{Pieces}
use Rattle.pt_cover.specs.declared.counts.Counts.{Counts}
use Rattle.pt_cover.specs.declared.counts.Counts.TheVariants.{Lines, Names}
use Rattle.pt_cover.specs.Tallies.{lines_of, names_of}

abbrev pub bit : Bool → ℕ
bit b = if b then 1 else 0

abbrev pub key_of : Counts → (events totals : Bool) → Pieces
key_of (Lines rows) events totals = (0 ∷ bit events ∷ bit totals ∷ lines_of rows) ∷ []
key_of (Names t) events totals = (1 ∷ bit events ∷ bit totals ∷ []) ∷ names_of t.rows

abbrev pub start_of : (key first later : Pieces) → Pieces
start_of key first later = (length key ∷ length first ∷ []) ∷ (key ++ (first ++ later))

pub record TookSince (key : Pieces) (Taken : Pieces → Pieces → Type 0) (start pieces : Pieces) : Type 0 where
  pub first : Pieces
  pub later : Pieces
  pub starts : start ≡ start_of key first later
  pub took : Taken first (later ++ pieces)
