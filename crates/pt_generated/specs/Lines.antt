-- What a log that counts lines has taken. A sink tells what it took behind a list of pieces: behind none this one tells how many lines it counted, and
-- behind a start what the log below has taken since the start.
use Rattle.std.specs.Prelude.{◌≡◌, ◌⊎◌, ℕ, ◌+◌, Bool, true, false, List, [], ◌∷◌, if◌then◌else◌}
use Rattle.pt_base.specs.Taken.{Pieces}
use Rattle.pt_cover.specs.Counts.{lines_begun}
use Rattle.pt_cover.specs.Fixed.{pair, faults_within, fixed}
use Rattle.pt_cover.specs.Numbers.{limited}
use Rattle.pt_cover.specs.Pieces.{Text, is_line, kind_of}
use Rattle.pt_cover.specs.Reports.{if_asked}
use Rattle.pt_cover.specs.Since.{TookSince, bit}

-- how many of these pieces tell that a line begins; the count stands still at the greatest u64
abbrev pub line_count : Pieces → ℕ
line_count pieces = limited (lines_begun pieces)

-- a piece more
abbrev pub counted_then : ℕ → (piece : Text) → ℕ
counted_then n piece = if is_line (kind_of piece) then limited (n + 1) else n

pub record CountsLines (lines : ℕ) (start pieces : Pieces) : Type 0 where
  pub starts : start ≡ []
  pub counts : lines ≡ line_count pieces

-- whether the pieces are passed on, as the start tells it
abbrev pub events_key : (events : Bool) → Pieces
events_key events = (bit events ∷ []) ∷ []

abbrev pub HasTakenLines : (lines : ℕ) (events : Bool) (Log : Pieces → Pieces → Type 0) (start pieces : Pieces) → Type 0
HasTakenLines lines events Log start pieces = CountsLines lines start pieces ⊎ TookSince (events_key events) Log start (if_asked events pieces)

-- its faults are those of the log below, where it passes anything on
abbrev pub told_faults : (events : Bool) → (faults most : ℕ) → ℕ
told_faults true faults most = faults_within faults most
told_faults false faults most = 0

-- what never changes: whether it passes anything on, and of the log below which one it is, how often it fails at most, and of its count of faults what
-- can't change
abbrev pub unchanged : (events : Bool) → (name faults most : ℕ) → ℕ
unchanged true name faults most = pair 1 (fixed name faults most)
unchanged false name faults most = pair 0 (pair most (pair name faults))
