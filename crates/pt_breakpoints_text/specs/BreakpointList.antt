-- The list of breakpoints (Library Reference, "pdb": break without an argument), in the words of CPython's bdb.
use Rattle.std.specs.Prelude.{ℕ, ◌-◌, ◌==◌, Bool, List, [], ◌∷◌, ◌++◌, codes, length, Option, Some, None, if◌then◌else◌}
use Rattle.std.specs.List.{concat, flat_map, repeat}
use Rattle.std.specs.Fmt.{decimal}
use Rattle.pt_bdb.specs.declared.row.Breakpoint.{Breakpoint}

-- a number stands at the left of four columns, or takes as many as it has digits
abbrev pub cell : (number : ℕ) → List ℕ
cell n = decimal n ++ repeat (4 - length (decimal n)) (codes " ")

abbrev pub disposition : (temporary : Bool) → List ℕ
disposition t = if t then codes "del " else codes "keep"

abbrev pub enabled_word : Bool → List ℕ
enabled_word on = if on then codes "yes" else codes "no "

abbrev pub head_line : (file : List ℕ) → Breakpoint → List ℕ
head_line file b =
    concat (cell b.number ∷ codes "breakpoint   " ∷ disposition b.row.temporary ∷ codes " " ∷ enabled_word b.row.enabled ∷ codes "   at " ∷
    file ∷ codes ":" ∷ decimal b.row.line.0 ∷ codes "\n" ∷ [])

abbrev pub condition_line : Option (List ℕ) → List ℕ
condition_line (Some condition) = concat (codes "\tstop only if " ∷ condition ∷ codes "\n" ∷ [])
condition_line None = []

abbrev pub ignore_line : (count : ℕ) → List ℕ
ignore_line k = if k == 0 then [] else concat (codes "\tignore next " ∷ decimal k ∷ codes " hits\n" ∷ [])

abbrev pub hits_line : (hits : ℕ) → List ℕ
hits_line k = if k == 0 then [] else concat (codes "\tbreakpoint already hit " ∷ decimal k ∷ codes " times\n" ∷ [])

abbrev pub row_text : (file : List ℕ) → Breakpoint → List ℕ
row_text file b =
    concat (head_line file b ∷ condition_line b.row.condition ∷ ignore_line b.row.ignore ∷ hits_line b.row.hits ∷ [])

abbrev pub rows_text : (file : List ℕ) → List Breakpoint → List ℕ
rows_text file bs = flat_map (row_text file) bs

abbrev pub heading : List Breakpoint → List ℕ
heading [] = []
heading (b ∷ bs) = codes "Num Type         Disp Enb   Where\n"

abbrev pub list_text : (file : List ℕ) → List Breakpoint → List ℕ
list_text file bs = concat (heading bs ∷ rows_text file bs ∷ [])
