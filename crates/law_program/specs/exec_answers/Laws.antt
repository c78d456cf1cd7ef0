-- What the laws say of answers: that a text says one end and a code file has one answer; and of `exec` of the file that `build` writes of a supported
-- script, beside `run` and `trace` of the script.
use Rattle.std.specs.Prelude.{◌≡◌, List, ◌++◌, false, true, Some, None}
use Rattle.pt_tree.specs.Syntax.{Stms}
use Rattle.sem_run.specs.run.Run.{Write}
use Rattle.law_typed_pieces.specs.law_operands.law_files.sem_compile.compile.ScriptCode.{code_of}
use Rattle.law_program.specs.script_files.Laws.{IsShallowCode}
use Rattle.pt_tracebacks.specs.declared.summary.ExceptionSummary.{ExceptionSummary}
use Rattle.pt_words.specs.Words.{Asked}
use Rattle.pt_words.specs.declared.line.Command.TheVariants as command
use Rattle.pt_prog.specs.declared.end.End.{End}
use Rattle.pt_prog.specs.declared.end.End.TheVariants as end
use Rattle.pt_prog.specs.Limits.{reads_code}
use Rattle.pt_prog.specs.LogText.{Text, traced}
use Rattle.pt_prog.specs.Answer.{IsAnswerFor, IsBuilt, IsCodeBy, IsEndFor, is_run, report_kind, sums_up, tells_events}

-- for a command line a text says one end at most: that of a script, and the bytes of a code file
abbrev pub TextSaysOneEnd : Type 0
TextSaysOneEnd = (a : Asked) (text : Text) (e f : End) → IsEndFor a text e → IsEndFor a text f → e ≡ f

-- for the bytes of a code file there is one answer at most: the end, and all that is written
abbrev pub CodeFileHasOneAnswer : Type 0
CodeFileHasOneAnswer = (a : Asked) (bytes : Text) (e f : End) (ws vs : List Write) → reads_code a.command ≡ true → IsAnswerFor a bytes e ws
    → IsAnswerFor a bytes f vs → (e ≡ f) × (ws ≡ vs)

-- a run of a script and one of a code file, for as many acts and with the same lines of the log
pub record AskAlike (a b : Asked) : Type 0 where
  pub runs : is_run a.command ≡ true
  pub reports_nothing : report_kind a.command ≡ None
  pub sums_nothing : sums_up a.command ≡ false
  pub executes : reads_code b.command ≡ true
  pub steps : a.steps ≡ b.steps
  pub stats : a.stats ≡ b.stats
  pub events : tells_events a ≡ tells_events b

-- the text is a supported script, and `build` writes these bytes of it
pub record IsBuiltAs (text : Text) (ss : Stms) (bytes : Text) : Type 0 where
  pub is_built : IsBuilt text ss
  pub is_written : IsCodeBy command.Build text bytes

-- the writes are the same up to the last of each, which is the traceback of the same exceptions: the first has it with the lines of the text, the second
-- without any, and each with the name of its own file
pub record TraceAlike (a b : Asked) (text : Text) (ws vs : List Write) : Type 0 where
  pub before : List Write
  pub told : List ExceptionSummary
  pub first : ws ≡ before ++ traced a.script (Some text) told
  pub second : vs ≡ before ++ traced b.script None told

-- by the end that both have: they write the same, but for tracebacks
abbrev pub WriteAlike : (a b : Asked) → (text : Text) → End → (ws vs : List Write) → Type 0
WriteAlike a b text end.Raised ws vs = TraceAlike a b text ws vs
WriteAlike a b text e ws vs = ws ≡ vs

-- what the first answers for the text the second answers for the bytes, and they write alike
abbrev pub ExecAnswersAsRun : Type 0
ExecAnswersAsRun = (a b : Asked) (text : Text) (ss : Stms) (bytes : Text) → AskAlike a b → IsBuiltAs text ss bytes → (e : End) (ws : List Write)
    → IsAnswerFor a text e ws → (vs : List Write) × (IsAnswerFor b bytes e vs × WriteAlike a b text e ws vs)

-- and the other way round, where no place of the code gets more slots than an activation holds
abbrev pub RunAnswersAsExec : Type 0
RunAnswersAsExec = (a b : Asked) (text : Text) (ss : Stms) (bytes : Text) → AskAlike a b → IsBuiltAs text ss bytes → IsShallowCode (code_of ss)
    → (e : End) (vs : List Write) → IsAnswerFor b bytes e vs → (ws : List Write) × (IsAnswerFor a text e ws × WriteAlike a b text e ws vs)

-- so where the first answers, this is all that the second may answer
abbrev pub ExecHasOneAnswer : Type 0
ExecHasOneAnswer = (a b : Asked) (text : Text) (ss : Stms) (bytes : Text) → AskAlike a b → IsBuiltAs text ss bytes → (e f : End) (ws vs : List Write)
    → IsAnswerFor a text e ws → IsAnswerFor b bytes f vs → (e ≡ f) × WriteAlike a b text e ws vs
