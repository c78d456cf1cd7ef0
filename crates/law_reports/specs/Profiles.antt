-- What a profile shows: the row of each name that is given, and a total.
use Rattle.std.specs.Prelude.{◌≡◌, List, sum_by}
use Rattle.pt_base.specs.Taken.{Pieces}
use Rattle.pt_base.specs.declared.numbers.Line.{Line}
use Rattle.pt_cover.specs.declared.counts.Counts.TheVariants.{Names}
use Rattle.pt_cover.specs.declared.kind.ReportKind.TheVariants as kind
use Rattle.pt_cover.specs.HasTaken.{counts_of}
use Rattle.pt_cover.specs.Kept.{counted}
use Rattle.pt_cover.specs.Numbers.{limited}
use Rattle.pt_cover.specs.Pieces.{Text}
use Rattle.pt_cover.specs.Tallies.{NameTally}
use Rattle.law_reports.specs.Named.{AreNamed}

-- this is the profile of the events
abbrev pub IsProfile : (lines : List Line) → (names : List Text) → (events : Pieces) → NameTally → Type 0
IsProfile lines names events t = counted (counts_of kind.Names lines names) events ≡ Names t

-- its total is the sum of the own lines of its rows, both up to the greatest u64
abbrev pub OwnAddUp : NameTally → Type 0
OwnAddUp t = t.total ≡ limited (sum_by (λ r. r.own) t.rows)

abbrev pub ProfilesAddUp : Type 0
ProfilesAddUp = (lines : List Line) (names : List Text) (events : Pieces) (t : NameTally) → AreNamed names events → IsProfile lines names events t → OwnAddUp t
