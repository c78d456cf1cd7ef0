-- What commands on breakpoints do and answer (Library Reference, "pdb": break, tbreak, clear, condition, ignore, enable, disable).
use Rattle.std.specs.Prelude.{ℕ, ◌+◌, Bool, List, Option, Some, None, if◌then◌else◌}
use Rattle.std.specs.List.{flat_map}
use Rattle.pt_base.specs.declared.numbers.Line.{Line}
use Rattle.pt_bdb.specs.declared.row.BreakRow.{BreakRow}
use Rattle.pt_bdb.specs.declared.row.Breakpoint.{Breakpoint}
use Rattle.pt_bdb.specs.Breakpoints.{Table, has_code, new_row, row_of, with_new}
use Rattle.pt_pdb.specs.declared.answer.BreakAnswer.{BreakAnswer}
use Rattle.pt_pdb.specs.declared.answer.BreakAnswer.TheVariants as break
use Rattle.pt_pdb.specs.Answers.{break_answer_text}

-- a breakpoint is set where an act stands on the line
abbrev pub set_answer : Table → Line → BreakAnswer
set_answer t line = if has_code t line then break.Set (t.last + 1) line else break.NoCode line

abbrev pub with_set : Line → (temporary : Bool) → (condition : Option (List ℕ)) → Table → Table
with_set line temporary condition t = if has_code t line then with_new (new_row line temporary condition) t else t

-- what is told of the breakpoint with a number, if one has it
abbrev pub told_of : (number : ℕ) → (BreakRow → BreakAnswer) → Option BreakRow → BreakAnswer
told_of n told (Some row) = told row
told_of n told None = break.NoBreakpoint n

abbrev pub answer_on : (number : ℕ) → (BreakRow → BreakAnswer) → Table → BreakAnswer
answer_on n told t = told_of n told (row_of n t.rows)

abbrev pub clear_answer : (number : ℕ) → Table → BreakAnswer
clear_answer n t = answer_on n (λ row. break.Deleted n row.line) t

abbrev pub condition_told : (number : ℕ) → (condition : Option (List ℕ)) → BreakAnswer
condition_told n (Some condition) = break.NewCondition n
condition_told n None = break.Unconditional n

abbrev pub condition_answer : (number : ℕ) → (condition : Option (List ℕ)) → Table → BreakAnswer
condition_answer n condition t = answer_on n (λ row. condition_told n condition) t

abbrev pub ignore_answer : (number count : ℕ) → Table → BreakAnswer
ignore_answer n count t = answer_on n (λ row. break.Ignored n count) t

abbrev pub enable_told : (number : ℕ) → (on : Bool) → Line → BreakAnswer
enable_told n on line = if on then break.Enabled n line else break.Disabled n line

abbrev pub enable_answer : (number : ℕ) → (on : Bool) → Table → BreakAnswer
enable_answer n on t = answer_on n (λ row. enable_told n on row.line) t

-- where all are deleted each is told
abbrev pub deleted_text : (file : List ℕ) → Breakpoint → List ℕ
deleted_text file b = break_answer_text file (break.Deleted b.number b.row.line)

abbrev pub all_deleted_text : (file : List ℕ) → List Breakpoint → List ℕ
all_deleted_text file rows = flat_map (deleted_text file) rows
