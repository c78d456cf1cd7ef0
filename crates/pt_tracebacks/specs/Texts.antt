-- The text of a traceback (Library Reference, "traceback", `print_exception`), in CPython's words, without the marks that it puts under parts of a line.
use Rattle.std.specs.Prelude.{ℕ, List, [], ◌∷◌, ◌++◌, codes}
use Rattle.std.specs.List.{flat_map}
use Rattle.std.specs.Fmt.{decimal}
use Rattle.pt_content.specs.TypeErrors.{sentence}
use Rattle.pt_tracebacks.specs.declared.summary.Role.{Role}
use Rattle.pt_tracebacks.specs.declared.summary.Role.TheVariants.{Last, Cause, Context}
use Rattle.pt_tracebacks.specs.declared.summary.FrameSummary.{FrameSummary}
use Rattle.pt_tracebacks.specs.declared.summary.ExceptionSummary.{ExceptionSummary}
use Rattle.pt_tracebacks.specs.Lines.{numbered, without_blanks}

-- where a frame stood
abbrev pub frame_place : (file : List ℕ) → FrameSummary → List ℕ
frame_place file f = sentence (codes "  File \"" ∷ file ∷ codes "\", line " ∷ decimal f.line.0 ∷ codes ", in " ∷ f.block ∷ codes "\n" ∷ [])

-- a line of the source, if it has one
abbrev pub quoted : List ℕ → List ℕ
quoted [] = []
quoted (c ∷ cs) = sentence (codes "    " ∷ (c ∷ cs) ∷ codes "\n" ∷ [])

-- what is said between an exception and the next one
abbrev pub transition : Role → List ℕ
transition Last = []
transition Cause = codes "\nThe above exception was the direct cause of the following exception:\n\n"
transition Context = codes "\nDuring handling of the above exception, another exception occurred:\n\n"

-- an exception by its class alone where its text is empty
abbrev pub exception_line : (class text : List ℕ) → List ℕ
exception_line class [] = sentence (class ∷ codes "\n" ∷ [])
exception_line class (c ∷ cs) = sentence (class ∷ codes ": " ∷ (c ∷ cs) ∷ codes "\n" ∷ [])

-- one that came through no frame has no heading
abbrev pub heading : List FrameSummary → List ℕ
heading [] = []
heading (f ∷ fs) = codes "Traceback (most recent call last):\n"

-- over the name of the file and the lines of its source
module _ (file : List ℕ) (lines : List (List ℕ)) where
  abbrev pub frame_text : FrameSummary → List ℕ
  frame_text f = frame_place file f ++ quoted (without_blanks (numbered lines f.line.0))

  abbrev pub stack_text : List FrameSummary → List ℕ
  stack_text fs = flat_map frame_text fs

  abbrev pub exception_text : ExceptionSummary → List ℕ
  exception_text x = sentence (heading x.stack ∷ stack_text x.stack ∷ exception_line x.class x.text ∷ transition x.role ∷ [])

  abbrev pub traceback_text : List ExceptionSummary → List ℕ
  traceback_text xs = flat_map exception_text xs
