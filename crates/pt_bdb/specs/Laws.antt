-- What follows from the rules of breakpoints and stops.
use Rattle.std.specs.Prelude.{◌≡◌, ◌+◌, ◌<◌, ◌≤◌, ℕ, Bool, true, false, List, [], ◌∷◌, ◌++◌, map, Option, Some, None}
use Rattle.std.specs.List.{AllByRecursion}
use Rattle.pt_base.specs.declared.numbers.Line.{Line}
use Rattle.pt_base.specs.declared.numbers.FrameNo.{FrameNo}
use Rattle.pt_bdb.specs.declared.event.Event.{Event}
use Rattle.pt_bdb.specs.declared.event.EventKind.TheVariants as kind
use Rattle.pt_bdb.specs.declared.judge.Verdict.TheVariants.{False, Broken}
use Rattle.pt_bdb.specs.declared.row.BreakRow.{BreakRow}
use Rattle.pt_bdb.specs.declared.row.Breakpoint.{Breakpoint}
use Rattle.pt_bdb.specs.declared.row.Hit.{Hit}
use Rattle.pt_bdb.specs.Breakpoints.{Table, IsOrdered, row_of}
use Rattle.pt_bdb.specs.Effective.{Judgment, hit_in, is_tried, passed, rows_behind, stops, verdict_on, with_hit}
use Rattle.pt_bdb.specs.Stops.{continue_data, next_data, return_data, returned, step_data, stops_at, until_data}

-- a breakpoint that is switched off, or stands on another line, stays as it is
abbrev pub OthersStay : Type 0
OthersStay = (judge : Judgment) (line : Line) (rows : List Breakpoint) (n : ℕ) (r : BreakRow) → row_of n rows ≡ Some r
    → is_tried line (record { number = n; row = r }) ≡ false → row_of n (rows_behind judge line rows) ≡ Some r

-- none of these stops
abbrev pub Pass : Judgment → Line → List Breakpoint → Type 0
Pass judge line rows = AllByRecursion (λ b. stops judge line b ≡ false) rows

-- where a condition is false a hit is counted, no crossing is ignored, and the next has its turn
abbrev pub FalseCounts : Type 0
FalseCounts = (judge : Judgment) (line : Line) (front rest : List Breakpoint) (b : Breakpoint) → Pass judge line front
    → is_tried line b ≡ true → verdict_on judge b.row.condition ≡ False
    → rows_behind judge line (front ++ b ∷ rest)
    ≡ map (passed judge line) front ++ record b { row = with_hit b.row } ∷ rows_behind judge line rest

-- where a condition can't be judged the run stops, a temporary breakpoint stays, and no other has a turn
abbrev pub BrokenStays : Type 0
BrokenStays = (judge : Judgment) (line : Line) (front rest : List Breakpoint) (b : Breakpoint) → Pass judge line front
    → is_tried line b ≡ true → verdict_on judge b.row.condition ≡ Broken
    → (hit_in judge line (front ++ b ∷ rest) ≡ Some (record { number = b.number; removed = false }))
    × (rows_behind judge line (front ++ b ∷ rest)
    ≡ map (passed judge line) front ++ record b { row = with_hit b.row } ∷ rest)

-- of those that would stop, the one with the least number does
abbrev pub IsLeast : Type 0
IsLeast = (judge : Judgment) (line : Line) (t : Table) (hit : Hit) → IsOrdered t → hit_in judge line t.rows ≡ Some hit
    → AllByRecursion (λ b. stops judge line b ≡ true → hit.number ≤ b.number) t.rows

-- `continue` stops nowhere, and `return` in a generator's frame neither
abbrev pub NowhereStops : Type 0
NowhereStops = (f : FrameNo) (caller : Option FrameNo) (e : Event)
    → (stops_at continue_data e ≡ false) × (stops_at (return_data f caller true) e ≡ false)

-- `until` doesn't stop at a line in front of its own
abbrev pub UntilGoesOn : Type 0
UntilGoesOn = (f : FrameNo) (line : Line) (e : Event) → e.kind ≡ kind.Line → e.line.0 < line.0 → stops_at (until_data f line) e ≡ false

-- `next` stops at the return of its frame, and behind that at the next event
abbrev pub NextReturns : Type 0
NextReturns = (f : FrameNo) (e : Event) → e.kind ≡ kind.Return → e.frame ≡ f → e.generator ≡ false
    → (stops_at (next_data f) e ≡ true) × (returned f (next_data f) ≡ step_data)
