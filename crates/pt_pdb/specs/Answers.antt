-- What commands answer.
use Rattle.std.specs.Prelude.{ℕ, ◌==◌, List, [], ◌∷◌, codes, if◌then◌else◌}
use Rattle.std.specs.List.{concat}
use Rattle.std.specs.Fmt.{decimal}
use Rattle.pt_base.specs.declared.numbers.Line.{Line}
use Rattle.pt_pdb.specs.declared.answer.BreakAnswer.{BreakAnswer}
use Rattle.pt_pdb.specs.declared.answer.BreakAnswer.TheVariants as break
use Rattle.pt_pdb.specs.declared.answer.Answer.{Answer}
use Rattle.pt_pdb.specs.declared.answer.Answer.TheVariants as answer
use Rattle.pt_pdb.specs.Jumps.{jump_failed_text}

-- a breakpoint and its place, behind what is told of it
abbrev pub placed_text : (told : List ℕ) → (number : ℕ) → (file : List ℕ) → Line → List ℕ
placed_text told n file line =
    concat (told ∷ codes " " ∷ decimal n ∷ codes " at " ∷ file ∷ codes ":" ∷ decimal line.0 ∷ codes "\n" ∷ [])

abbrev pub crossings_text : (number count : ℕ) → List ℕ
crossings_text n k =
    if k == 0 then concat (codes "Will stop next time breakpoint " ∷ decimal n ∷ codes " is reached.\n" ∷ [])
    else concat (codes "Will ignore next " ∷ decimal k ∷ codes " crossings of breakpoint " ∷ decimal n ∷ codes ".\n" ∷ [])

-- of the commands on breakpoints, over the name of the file
abbrev pub break_answer_text : (file : List ℕ) → BreakAnswer → List ℕ
break_answer_text file (break.Set n line) = placed_text (codes "Breakpoint") n file line
break_answer_text file (break.NoCode line) = concat (codes "*** No code at line " ∷ decimal line.0 ∷ codes "\n" ∷ [])
break_answer_text file (break.Deleted n line) = placed_text (codes "Deleted breakpoint") n file line
break_answer_text file (break.NewCondition n) = concat (codes "New condition set for breakpoint " ∷ decimal n ∷ codes ".\n" ∷ [])
break_answer_text file (break.Unconditional n) = concat (codes "Breakpoint " ∷ decimal n ∷ codes " is now unconditional.\n" ∷ [])
break_answer_text file (break.Ignored n k) = crossings_text n k
break_answer_text file (break.Enabled n line) = placed_text (codes "Enabled breakpoint") n file line
break_answer_text file (break.Disabled n line) = placed_text (codes "Disabled breakpoint") n file line
break_answer_text file (break.NoBreakpoint n) = concat (codes "*** No breakpoint numbered " ∷ decimal n ∷ codes "\n" ∷ [])

abbrev pub not_after_text : Line → List ℕ
not_after_text line = concat (codes "*** Line " ∷ decimal line.0 ∷ codes " is not after the current line\n" ∷ [])

abbrev pub unknown_text : (line : List ℕ) → List ℕ
unknown_text line = concat (codes "*** Unknown command: " ∷ line ∷ codes "\n" ∷ [])

-- of the others
abbrev pub answer_text : Answer → List ℕ
answer_text (answer.Shown text) = concat (text.now ∷ codes "\n" ∷ [])
answer_text (answer.Raised text) = concat (codes "*** " ∷ text.now ∷ codes "\n" ∷ [])
answer_text answer.Refused = codes "*** Refused: a call\n"
answer_text answer.SyntaxError = codes "*** SyntaxError\n"
answer_text (answer.NotAfter line) = not_after_text line
answer_text (answer.JumpFailed reason) = jump_failed_text reason
answer_text answer.OldestFrame = codes "*** Oldest frame\n"
answer_text answer.NewestFrame = codes "*** Newest frame\n"
answer_text (answer.Unknown line) = unknown_text line.now
