-- Breakpoints by number (Library Reference, "bdb": Breakpoint; "pdb": break, tbreak, clear, enable, disable, condition, ignore).
use Rattle.std.specs.Prelude.{◌≡◌, ◌==◌, ◌+◌, ◌<◌, ◌&&◌, ℕ, Bool, true, false, List, [], ◌∷◌, ◌++◌, nat_le, nat_lt, length, take, slice_index_or, is_some, Option, None, Some, Result, Ok, Err, if◌then◌else◌}
use Rattle.std.specs.List.{list_any}
use Rattle.pt_base.specs.declared.numbers.Line.{Line}
use Rattle.pt_bdb.specs.declared.breaks.BreakErr.{BreakErr}
use Rattle.pt_bdb.specs.declared.breaks.BreakErr.TheVariants.{Memory, NoBreak, NoCode}
use Rattle.pt_bdb.specs.declared.row.BreakRow.{BreakRow}
use Rattle.pt_bdb.specs.declared.row.Breakpoint.{Breakpoint}

-- the lines on which an act stands; the breakpoints, in order of number; the last number that was given, or 0
pub record Table : Type 0 where
  pub lines : List Line
  pub rows : List Breakpoint
  pub last : ℕ

abbrev pub no_breakpoints : List Line → Table
no_breakpoints lines = record { lines = lines; rows = []; last = 0 }

-- an act stands on the line
abbrev pub has_code : Table → Line → Bool
has_code t line = list_any (λ l. l.0 == line.0) t.lines

-- the row of a number, if it has one
abbrev pub row_of : (number : ℕ) → List Breakpoint → Option BreakRow
row_of n [] = None
row_of n (b ∷ bs) = if b.number == n then Some b.row else row_of n bs

-- where the first with the number stands, if any has it
abbrev pub IsPlace : (number : ℕ) → List Breakpoint → Option ℕ → Type 0
IsPlace n rows None = row_of n rows ≡ None
IsPlace n rows (Some at) = (at < length rows) × (row_of n (take at rows) ≡ None)
    × ((b : Breakpoint) → (slice_index_or rows at b).number ≡ n)

-- where no breakpoint has the number, that is the answer
abbrev pub answer_at : (number : ℕ) → List Breakpoint → Result (Unit {0}) BreakErr
answer_at n rows = if is_some (row_of n rows) then Ok tt else Err (NoBreak n)

-- why a breakpoint isn't set: no act stands on the line, or memory has run out
abbrev pub IsSetError : Line → BreakErr → Type 0
IsSetError line (NoCode other) = other ≡ line
IsSetError line Memory = Unit {0}
IsSetError line (NoBreak n) = ⊥

-- the row of a number is changed, if it has one
abbrev pub with_row : (number : ℕ) → (BreakRow → BreakRow) → List Breakpoint → List Breakpoint
with_row n change [] = []
with_row n change (b ∷ bs) = if b.number == n then record b { row = change b.row } ∷ bs else b ∷ with_row n change bs

abbrev pub without : (number : ℕ) → List Breakpoint → List Breakpoint
without n [] = []
without n (b ∷ bs) = if b.number == n then bs else b ∷ without n bs

-- as a breakpoint is set
abbrev pub new_row : Line → (temporary : Bool) → (condition : Option (List ℕ)) → BreakRow
new_row line t c = record { line = line; temporary = t; enabled = true; condition = c; ignore = 0; hits = 0 }

abbrev pub with_new : BreakRow → Table → Table
with_new r t = record t { rows = t.rows ++ record { number = t.last + 1; row = r } ∷ []; last = t.last + 1 }

abbrev pub with_rows : List Breakpoint → Table → Table
with_rows rows t = record t { rows = rows }

-- what is changed in a row
abbrev pub with_enabled : Bool → BreakRow → BreakRow
with_enabled on r = record r { enabled = on }

abbrev pub with_condition : Option (List ℕ) → BreakRow → BreakRow
with_condition c r = record r { condition = c }

abbrev pub with_ignore : (count : ℕ) → BreakRow → BreakRow
with_ignore k r = record r { ignore = k }

-- the numbers rise from above one number up to another
abbrev pub rises : (above last : ℕ) → List Breakpoint → Bool
rises above last [] = nat_le above last
rises above last (b ∷ bs) = nat_lt above b.number && rises b.number last bs

-- no number is given twice, and the breakpoints stand in order of number
abbrev pub IsOrdered : Table → Type 0
IsOrdered t = rises 0 t.last t.rows ≡ true
