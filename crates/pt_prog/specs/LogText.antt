-- The texts that the log gets at the end, and that of a summary.
use Rattle.std.specs.Prelude.{ℕ, List, [], ◌∷◌, ◌++◌, codes, Bool, true, false, Option, Some, None, if◌then◌else◌}
use Rattle.std.specs.Fmt.{decimal}
use Rattle.pt_base.specs.Words.{word_of}
use Rattle.sem_run.specs.run.Run.{Write, write, to_log, to_out}
use Rattle.pt_tracebacks.specs.Lines.{source_lines}
use Rattle.pt_tracebacks.specs.Texts.{traceback_text}
use Rattle.pt_tracebacks.specs.declared.summary.ExceptionSummary.{ExceptionSummary}
use Rattle.pt_front.specs.Refusals.{number_of, place_of}
use Rattle.pt_prog.specs.CodeRefusals as code
use Rattle.pt_prog.specs.declared.end.End.{End}
use Rattle.pt_prog.specs.declared.end.End.TheVariants as end

abbrev pub Text : Type 0
Text = List ℕ

abbrev pub final_text : End → Option Text
final_text end.Usage = Some (codes "pt: usage")
final_text (end.Spent acts) = Some (codes "pt: spent after " ++ (decimal acts ++ codes " acts"))
final_text (end.Outside what line) = Some (codes "pt: outside the profile: " ++ (word_of what ++ (codes " at line " ++ decimal line.0)))
final_text (end.Refused error) = Some (codes "pt: refused " ++ (decimal (number_of error) ++ (codes " at " ++ decimal (place_of error))))
final_text (end.BadCode error) = Some (codes "pt: bad code " ++ (decimal (code.number_of error) ++ (codes " at " ++ decimal (code.place_of error))))
final_text (end.TooLong which) = Some (codes "pt: too long")
final_text end.ReadFault = Some (codes "pt: cannot read")
final_text (end.Unbuilt line) = Some (codes "pt: not built at line " ++ decimal line.0)
final_text end.Done = None
final_text (end.Exited code) = None
final_text end.Raised = None
final_text (end.WriteFault which) = None
final_text end.Memory = None

-- a line of the log is one write
abbrev pub line_of : Option Text → List Write
line_of (Some text) = write to_log (text ++ 10 ∷ []) ∷ []
line_of None = []

abbrev pub final : End → List Write
final e = line_of (final_text e)

-- a traceback is one write, over the name of the file and its source, if there is one
abbrev pub traced : (file : Text) → (source : Option Text) → List ExceptionSummary → List Write
traced file source told = write to_log (traceback_text file (source_lines source) told) ∷ []

-- a run's totals, as one write
abbrev pub total : (word : Text) → ℕ → Text
total word n = word ++ (decimal n ++ 10 ∷ [])

abbrev pub totals_text : (acts instructions depth : ℕ) → Text
totals_text acts instructions depth = total (codes "acts ") acts ++ (total (codes "instructions ") instructions ++ total (codes "depth ") depth)

-- where they are asked for
abbrev pub totals : Bool → (acts instructions depth : ℕ) → List Write
totals true acts instructions depth = write to_log (totals_text acts instructions depth) ∷ []
totals false acts instructions depth = []

-- the summary of a run that came to its end, as one write to out; a run that ends otherwise has none
abbrev pub summary_text : (acts lines : ℕ) → Text
summary_text acts lines = total (codes "acts ") acts ++ (total (codes "lines ") lines ++ codes "ending done\n")

abbrev pub is_done : End → Bool
is_done end.Done = true
is_done (end.Exited code) = false
is_done end.Raised = false
is_done (end.Spent bound) = false
is_done (end.Outside what line) = false
is_done end.Usage = false
is_done (end.Refused error) = false
is_done (end.BadCode error) = false
is_done (end.TooLong which) = false
is_done end.ReadFault = false
is_done (end.WriteFault which) = false
is_done end.Memory = false
is_done (end.Unbuilt line) = false

abbrev pub summary : End → (acts lines : ℕ) → List Write
summary e acts lines = if is_done e then write to_out (summary_text acts lines) ∷ [] else []
