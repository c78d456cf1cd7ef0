-- What a log that counts has taken: what it keeps is what the pieces give, and the log below it has taken what they give.
use Rattle.std.specs.Prelude.{◌≡◌, Bool, List, [], map}
use Rattle.std.specs.List.{list_any}
use Rattle.pt_base.specs.Taken.{Pieces}
use Rattle.pt_base.specs.declared.numbers.Line.{Line}
use Rattle.pt_cover.specs.declared.counts.Counts.{Counts}
use Rattle.pt_cover.specs.declared.counts.Counts.TheVariants.{Lines, Names}
use Rattle.pt_cover.specs.declared.kind.ReportKind.{ReportKind}
use Rattle.pt_cover.specs.declared.kind.ReportKind.TheVariants as kind
use Rattle.pt_cover.specs.Pieces.{Text, is_totals, events_in}
use Rattle.pt_cover.specs.Given.{rising, first_given}
use Rattle.pt_cover.specs.Tallies.{line_row, name_tally}
use Rattle.pt_cover.specs.Reports.{logged}
use Rattle.pt_cover.specs.Kept.{counted, report_of}

-- before any piece
abbrev pub counts_of : ReportKind → (lines : List Line) → (names : List Text) → Counts
counts_of kind.Lines lines names = Lines (map (line_row []) (rising lines))
counts_of kind.Names lines names = Names (name_tally (first_given names) [])

pub record HasTaken (counts : Counts) (is_over events totals : Bool) (Log : Pieces → Type 0) (pieces : Pieces) : Type 0 where
  pub counts_are : counts ≡ counted counts (events_in pieces)
  pub over : is_over ≡ list_any is_totals pieces
  pub log : Log (logged events totals (λ es. report_of (counted counts es)) pieces)
