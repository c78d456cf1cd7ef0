-- Which breakpoint stops at a line (Library Reference, "bdb": effective).
use Rattle.std.specs.Prelude.{◌≡◌, ◌==◌, ◌+◌, ◌-◌, ◌^◌, ◌<◌, ◌&&◌, ℕ, Bool, true, false, List, [], ◌∷◌, ◌++◌, length, min, map, find, remove, Option, None, Some, if◌then◌else◌}
use Rattle.std.specs.List.{AllByRecursion}
use Rattle.std.specs.Option.{option_map}
use Rattle.pt_base.specs.declared.numbers.Line.{Line}
use Rattle.pt_bdb.specs.declared.judge.Verdict.{Verdict}
use Rattle.pt_bdb.specs.declared.judge.Verdict.TheVariants.{True, False, Broken}
use Rattle.pt_bdb.specs.declared.row.BreakRow.{BreakRow}
use Rattle.pt_bdb.specs.declared.row.Breakpoint.{Breakpoint}
use Rattle.pt_bdb.specs.declared.row.Hit.{Hit}

-- the verdicts on conditions
abbrev pub Judgment : Type 0
Judgment = (condition : List ℕ) → Verdict

-- a breakpoint without a condition is judged as by one that holds
abbrev pub verdict_on : Judgment → Option (List ℕ) → Verdict
verdict_on judge (Some condition) = judge condition
verdict_on judge None = True

-- an enabled breakpoint on the line is tried
abbrev pub is_tried : Line → Breakpoint → Bool
is_tried line b = b.row.enabled && b.row.line.0 == line.0

-- a condition that holds stops where no crossing is to be ignored, and one that can't be judged always
abbrev pub stops_by : Verdict → (ignore : ℕ) → Bool
stops_by True ignore = ignore == 0
stops_by False ignore = false
stops_by Broken ignore = true

abbrev pub stops : Judgment → Line → Breakpoint → Bool
stops judge line b = is_tried line b && stops_by (verdict_on judge b.row.condition) b.row.ignore

-- a temporary breakpoint goes where it stops, but stays where its condition can't be judged
abbrev pub goes_by : Verdict → (temporary : Bool) → Bool
goes_by True temporary = temporary
goes_by verdict temporary = false

abbrev pub goes : Judgment → Breakpoint → Bool
goes judge b = goes_by (verdict_on judge b.row.condition) b.row.temporary

-- hits stand still at the greatest number that they can be
abbrev pub with_hit : BreakRow → BreakRow
with_hit r = record r { hits = min (r.hits + 1) (2 ^ 64 - 1) }

-- a crossing where the condition holds is one that was to be ignored, if any was
abbrev pub crossed_by : Verdict → BreakRow → BreakRow
crossed_by True r = record r { ignore = r.ignore - 1 }
crossed_by verdict r = r

abbrev pub tried : Judgment → BreakRow → BreakRow
tried judge r = crossed_by (verdict_on judge r.condition) (with_hit r)

-- a breakpoint behind its turn
abbrev pub passed : Judgment → Line → Breakpoint → Breakpoint
passed judge line b = if is_tried line b then record b { row = tried judge b.row } else b

-- the first that stops
abbrev pub hit_of : Judgment → Breakpoint → Hit
hit_of judge b = record { number = b.number; removed = goes judge b }

abbrev pub hit_in : Judgment → Line → List Breakpoint → Option Hit
hit_in judge line rows = option_map (hit_of judge) (find (stops judge line) rows)

-- those before it had their turns and those behind it have none
abbrev pub rows_behind : Judgment → Line → List Breakpoint → List Breakpoint
rows_behind judge line [] = []
rows_behind judge line (b ∷ bs) =
    if stops judge line b then (if goes judge b then bs else passed judge line b ∷ bs)
    else passed judge line b ∷ rows_behind judge line bs

-- memory ran out in the turn of one that is tried, behind those that don't stop: it has its hit
pub record BreaksOff (judge : Judgment) (line : Line) (old new : List Breakpoint) : Type 0 where
  pub front : List Breakpoint
  pub one : Breakpoint
  pub rest : List Breakpoint
  pub parts : old ≡ front ++ one ∷ rest
  pub pass : AllByRecursion (λ b. stops judge line b ≡ false) front
  pub is_tried : is_tried line one ≡ true
  pub left : new ≡ map (passed judge line) front ++ record one { row = with_hit one.row } ∷ rest

-- what comes of the turns: which one stops and where it stands, and that it may have to go still
abbrev pub HasTurns : Judgment → Line → (old new : List Breakpoint) → Option (ℕ × Hit) → Type 0
HasTurns judge line old new None = (hit_in judge line old ≡ None) × (new ≡ rows_behind judge line old)
HasTurns judge line old new (Some s) =
    (hit_in judge line old ≡ Some s.1) × (s.0 < length new)
    × ((if s.1.removed then remove new s.0 else new) ≡ rows_behind judge line old)
