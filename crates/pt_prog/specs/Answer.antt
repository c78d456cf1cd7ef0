-- What the program answers to its words and files, and what it writes: to out and to the log, to each in its order.
use Rattle.std.specs.Prelude.{◌≡◌, ◌≤◌, ◌-◌, ◌^◌, ℕ, List, [], ◌∷◌, ◌++◌, Option, Some, None, Bool, true, false, ◌||◌, ◌⊎◌, length, map, min, string_bytes, Err}
use Rattle.std.specs.declared.string.String.{String}
use Rattle.std.specs.declared.alloc.Global.{Global}
use Rattle.pt_base.specs.declared.numbers.Line.{Line}
use Rattle.pt_base.specs.Told.{Told, IsLacked, IsLonger, IsWhole}
use Rattle.pt_base.specs.Told.Told.{Holds}
use Rattle.pt_base.specs.Taken.{Pieces}
use Rattle.pt_base.specs.Taken as one
use Rattle.pt_tree.specs.Syntax.{Stms}
use Rattle.sem_run.specs.run.Run.{Write, write, to_out, to_log}
use Rattle.pt_sinks.specs.Writing.{StoppedBy, Took, TookFront, first, logs, outs}
use Rattle.pt_sinks.specs.declared.writing.WriteErr.{WriteErr}
use Rattle.pt_sinks.specs.declared.writing.WriteErr.TheVariants as error
use Rattle.pt_bare_runs.specs.Strides as bare
use Rattle.pt_bare_runs.specs.Strides.{Ending, Outcome}
use Rattle.pt_heap.specs.declared.value.Value.{Value}
use Rattle.sem_fits.specs.fits.Fits.{AllFit}
use Rattle.pt_host.specs.World.{Program, World, read_from}
use Rattle.pt_machine_state.specs.Writing.{kept}
use Rattle.pt_tracebacks.specs.Summaries.{summaries}
use Rattle.pt_run_script.specs.pt_run_code.pt_runner.Ends.{block_name}
use Rattle.pt_run_script.specs.pt_run_code.pt_runner.Work.{Work}
use Rattle.pt_run_script.specs.ScriptRun.{CodeRunsBy, RunsTo, ScriptWritesFirst}
use Rattle.pt_supported.specs.Built.{Built, unbuilt_of}
use Rattle.pt_front.specs.Text.{IsScript, IsRefused}
use Rattle.pt_prelude.specs.declared.source.TheConstants.{PRELUDE}
use Rattle.pt_front.specs.declared.refusal.Refusal.{Refusal}
use Rattle.pt_code.specs.declared.Code.{Code}
use Rattle.pt_code.specs.File.{HasFile, file}
use Rattle.pt_code.specs.Refusals.{answer}
use Rattle.pt_code.specs.declared.refusing.CodeErr.{CodeErr}
use Rattle.pt_code.specs.declared.refusing.CodeErr.TheVariants as format
use Rattle.pt_verify.specs.Verdict.{IsRefused as IsRefusedCode}
use Rattle.pt_verify.specs.declared.error.VerifyErr.{VerifyErr}
use Rattle.pt_verify.specs.declared.error.VerifyErr.TheVariants as misfit
use Rattle.pt_supported_code.specs.Built.{IsUnbuiltCode}
use Rattle.pt_run_script.specs.pt_run_code.law_loading.script_program.ScriptProgram.{program_of}
use Rattle.pt_run_script.specs.pt_run_code.law_loading.code_program.CodeProgram.{program_of_code}
use Rattle.pt_run_script.specs.pt_run_code.law_loading.code_program.Laws.{IsRunnable}
use Rattle.pt_run_script.specs.pt_run_code.CodeRun.{CodeRunsTo, CodeWritesFirst}
use Rattle.law_files.specs.sem_compile.compile.ScriptCode.{code_of}
use Rattle.pt_listing.specs.Listing.{IsListing}
use Rattle.pt_cover.specs.declared.kind.ReportKind.{ReportKind}
use Rattle.pt_cover.specs.declared.kind.ReportKind.TheVariants as kind
use Rattle.pt_cover.specs.HasTaken.{counts_of}
use Rattle.pt_cover.specs.Kept.{counted, report_of}
use Rattle.pt_cover.specs.Reports.{logged}
use Rattle.pt_generated.specs.Lines.{line_count}
use Rattle.pt_generated.specs.Script.{script_of}
use Rattle.pt_reported.specs.Reported.{lines_of, names_of}
use Rattle.pt_words.specs.Words.{Asked, command_line}
use Rattle.pt_words.specs.declared.line.Command.{Command}
use Rattle.pt_words.specs.declared.line.Command.TheVariants as command
use Rattle.pt_prog.specs.declared.end.End.{End}
use Rattle.pt_prog.specs.declared.end.End.TheVariants as end
use Rattle.pt_prog.specs.declared.end.File.TheVariants as file
use Rattle.pt_prog.specs.declared.end.CodeRefusal.{CodeRefusal}
use Rattle.pt_prog.specs.declared.end.CodeRefusal.TheVariants as refusal
use Rattle.pt_prog.specs.Limits.{limit_of, reads_code}
use Rattle.pt_prog.specs.LogText.{Text, final, line_of, summary, totals, traced}

-- P holds of what is there
abbrev pub OfSome : {A : Type 0} → Option A → (A → Type 0) → Type 0
OfSome None P = ⊥
OfSome (Some x) P = P x

-- what the words ask for, where they are a command line
abbrev pub asked_for : List (String Global) → Option Asked
asked_for words = command_line (map string_bytes words)

-- P holds of what the words ask for
abbrev pub OfAsked : List (String Global) → (Asked → Type 0) → Type 0
OfAsked words P = OfSome (asked_for words) P

-- a script is run, or its code is written
abbrev pub is_run : Command → Bool
is_run command.Run = true
is_run command.Trace = true
is_run command.Dis = false
is_run command.Build = false
is_run command.Exec = false
is_run command.Cover = true
is_run command.Profile = true
is_run (command.Gen count) = true

abbrev pub traces : Command → Bool
traces command.Run = false
traces command.Trace = true
traces command.Dis = false
traces command.Build = false
traces command.Exec = false
traces command.Cover = false
traces command.Profile = false
traces (command.Gen count) = false

-- what the log has a report on behind the events of a run, if anything
abbrev pub report_kind : Command → Option ReportKind
report_kind command.Run = None
report_kind command.Trace = None
report_kind command.Dis = None
report_kind command.Build = None
report_kind command.Exec = None
report_kind command.Cover = Some kind.Lines
report_kind command.Profile = Some kind.Names
report_kind (command.Gen count) = None

-- behind the run a summary of it goes to out
abbrev pub sums_up : Command → Bool
sums_up command.Run = false
sums_up command.Trace = false
sums_up command.Dis = false
sums_up command.Build = false
sums_up command.Exec = false
sums_up command.Cover = false
sums_up command.Profile = false
sums_up (command.Gen count) = true

-- the script that a command makes, where it reads no file
abbrev pub made_by : Command → Option Text
made_by command.Run = None
made_by command.Trace = None
made_by command.Dis = None
made_by command.Build = None
made_by command.Exec = None
made_by command.Cover = None
made_by command.Profile = None
made_by (command.Gen count) = Some (script_of count)

-- the log has a line for each event: `trace` is `run --events`
abbrev pub tells_events : Asked → Bool
tells_events a = traces a.command || a.events

-- the text is this script, all of which is built
pub record IsBuilt (text : Text) (script : Stms) : Type 0 where
  pub is_script : IsScript text script
  pub is_built : Built script

-- the text is a script, and this is the line of its first node that isn't built
pub record IsUnbuilt (text : Text) (line : Line) : Type 0 where
  pub script : Stms
  pub is_script : IsScript text script
  pub is_first : unbuilt_of script ≡ Some line.0

-- the prelude, a text of the program's own, over which all runs: where it is refused, or isn't built, this is the end
pub data IsNoPrelude (e : End) : Type 0 where
  refused_prelude : (error : Refusal) → IsRefused PRELUDE.now error → e ≡ end.Refused error → IsNoPrelude e
  unbuilt_prelude : (line : Line) → IsUnbuilt PRELUDE.now line → e ≡ end.Unbuilt line → IsNoPrelude e

-- how a command writes code: as a listing of it for people, or as its file, from which no other code is read
abbrev pub IsWrittenBy : Command → Code → (bytes : Text) → Type 0
IsWrittenBy command.Run code bytes = ⊥
IsWrittenBy command.Trace code bytes = ⊥
IsWrittenBy command.Dis code bytes = IsListing code bytes
IsWrittenBy command.Build code bytes = HasFile code × (bytes ≡ file code)
IsWrittenBy command.Exec code bytes = ⊥
IsWrittenBy command.Cover code bytes = ⊥
IsWrittenBy command.Profile code bytes = ⊥
IsWrittenBy (command.Gen count) code bytes = ⊥

-- the text is a script, and so the command writes its code
pub record IsCodeBy (command : Command) (text bytes : Text) : Type 0 where
  pub script : Stms
  pub is_script : IsScript text script
  pub is_written : IsWrittenBy command (code_of script) bytes

-- the program's end for that of a run of at most n acts
abbrev pub end_of : (n : ℕ) → Ending Value World → End
end_of n bare.done = end.Done
end_of n (bare.exited status text) = end.Exited status
end_of n (bare.raised v w) = end.Raised
end_of n bare.spent = end.Spent n
end_of n (bare.outside_at what line) = end.Outside what (record { 0 = line })

-- what is run, as it is read from the file that the words name: a script with its text, and a code without a source
abbrev pub script_read : Asked → Text → (prelude script : Stms) → Program
script_read a text prelude script = read_from a.script (Some text) (program_of prelude script)

abbrev pub code_read : Asked → (prelude code : Code) → Program
code_read a prelude code = read_from a.script None (program_of_code prelude code)

-- the log's last write: the text of a SystemExit, which the script gives, the traceback of another exception that left it, or the text of the end
abbrev pub last_writes : Program → (n : ℕ) → Ending Value World → List Write
last_writes p n (bare.exited status text) = line_of text
last_writes p n (bare.raised v w) = traced p.file p.source (summaries (block_name p) w.heap v)
last_writes p n e = final (end_of n e)

-- all that a run of this program writes that comes to an outcome: what is printed and its events, the totals, and the last write. Of the totals of a
-- script the acts are the script's, the others those of its code; the count of instructions stands still at the greatest u64
abbrev pub all_writes : Program → (steps : ℕ) → (events stats : Bool) → Outcome Value World → Work → List Write
all_writes p steps events stats o w =
    kept events o.written ++ (totals stats o.units (min w.instructions (2 ^ 64 - 1)) w.depth ++ last_writes p steps o.ending)

abbrev pub run_writes : Program → Asked → Outcome Value World → Work → List Write
run_writes p a o w = all_writes p a.steps (tells_events a) a.stats o w

-- with a report, all events and totals of a plain run are counted
abbrev pub all_told : Asked → Asked
all_told a = record { command = command.Run; script = a.script; steps = a.steps; events = true; stats = true }

-- the report of a script's events on its lines or names
abbrev pub report_on : ReportKind → Stms → (events : Pieces) → Text
report_on k ss events = report_of (counted (counts_of k (lines_of ss) (names_of ss)) events)

-- of what a run writes with its events and totals, the prints, and what the log gets with a report before the totals: events and totals where they are
-- asked for
abbrev pub reported : ReportKind → Asked → Stms → List Write → List Write
reported k a ss ws = map (write to_out) (outs ws) ++ map (write to_log) (logged a.events a.stats (report_on k ss) (logs ws))

-- what the run of a script writes, without a report or with one
abbrev pub script_writes : Option ReportKind → Asked → Text → (prelude script : Stms) → Outcome Value World → Work → List Write
script_writes None a text prelude script o w = run_writes (script_read a text prelude script) a o w
script_writes (Some k) a text prelude script o w = reported k a script (all_writes (script_read a text prelude script) a.steps true true o w)

-- the lines that begin in visible blocks, as a run writes them to the log with its events; the count stands still at the greatest u64
abbrev pub lines_in : Outcome Value World → ℕ
lines_in o = line_count (logs o.written)

-- behind what the run of at most n acts writes its summary, where it is asked for
abbrev pub with_summary : Bool → (n : ℕ) → Outcome Value World → List Write → List Write
with_summary true n o ws = ws ++ summary (end_of n o.ending) o.units (lines_in o)
with_summary false n o ws = ws

-- what the run of a script writes first with its events and totals, whether or not it comes to an outcome
pub data WritesFirst (a : Asked) (text : Text) (prelude script : Stms) : List Write → Type 0 where
  of_front : (ws : List Write) → ScriptWritesFirst prelude script a.steps ws → WritesFirst a text prelude script (kept true ws)
  of_all : (o : Outcome Value World) (w : Work) → RunsTo prelude script a.steps o → CodeRunsBy prelude script a.steps o w
      → WritesFirst a text prelude script (all_writes (script_read a text prelude script) a.steps true true o w)

-- the bytes are no code file, for this reason
pub record IsNoFile (bytes : Text) (error : CodeErr) : Type 0 where
  pub is_answer : answer bytes ≡ Err error
  pub in_memory : error ≡ format.Memory → ⊥

-- they are the file of this code
pub record IsFileOf (bytes : Text) (code : Code) : Type 0 where
  pub is_file : bytes ≡ file code
  pub has_file : HasFile code

-- a code doesn't fit: its first block that doesn't is refused so
pub record IsMisfitOf (code : Code) (error : VerifyErr) : Type 0 where
  pub is_refused : IsRefusedCode code error
  pub in_memory : error ≡ misfit.Memory → ⊥

pub record IsMisfit (bytes : Text) (error : VerifyErr) : Type 0 where
  pub code : Code
  pub is_file : IsFileOf bytes code
  pub misfits : IsMisfitOf code error

-- so it is no code that is run
pub data IsBadFile (bytes : Text) : CodeRefusal → Type 0 where
  no_file : (error : CodeErr) → IsNoFile bytes error → IsBadFile bytes (refusal.Format error)
  misfits : (error : VerifyErr) → IsMisfit bytes error → IsBadFile bytes (refusal.Misfit error)

-- they are the file of this code, which fits
pub record IsVerifiedFile (bytes : Text) (code : Code) : Type 0 where
  pub is_file : IsFileOf bytes code
  pub fits : AllFit code

-- the code fits, and this is the line of its first block that isn't built
pub record IsUnbuiltFile (bytes : Text) (line : Line) : Type 0 where
  pub code : Code
  pub is_file : IsFileOf bytes code
  pub fits : AllFit code
  pub is_first : IsUnbuiltCode code line

-- the code fits, and all of it is built
pub record IsRunnableFile (bytes : Text) (code : Code) : Type 0 where
  pub is_file : bytes ≡ file code
  pub is_runnable : IsRunnable code

-- the answer for the bytes of a code file, over this prelude, whose code is run too
pub data IsCodeAnswer (prelude : Stms) (a : Asked) (bytes : Text) (e : End) (ws : List Write) : Type 0 where
  bad_code : (error : CodeRefusal) → IsBadFile bytes error → e ≡ end.BadCode error → ws ≡ final e → IsCodeAnswer prelude a bytes e ws
  unbuilt_code : (line : Line) → IsUnbuiltFile bytes line → e ≡ end.Unbuilt line → ws ≡ final e → IsCodeAnswer prelude a bytes e ws
  ran_code : (c : Code) (o : Outcome Value World) (w : Work) → IsRunnable (code_of prelude) → IsRunnableFile bytes c
      → CodeRunsTo (code_of prelude) c a.steps o w → e ≡ end_of a.steps o.ending
      → ws ≡ run_writes (code_read a (code_of prelude) c) a o w → IsCodeAnswer prelude a bytes e ws

-- the answer for a text, over this prelude: the end, and all that is written
pub data IsAnswerOver (prelude : Stms) (a : Asked) (text : Text) (e : End) (ws : List Write) : Type 0 where
  of_code : reads_code a.command ≡ true → IsCodeAnswer prelude a text e ws → IsAnswerOver prelude a text e ws
  refused : (error : Refusal) → reads_code a.command ≡ false → IsRefused text error → e ≡ end.Refused error → ws ≡ final e → IsAnswerOver prelude a text e ws
  unbuilt : (line : Line) → is_run a.command ≡ true → IsUnbuilt text line → e ≡ end.Unbuilt line → ws ≡ final e → IsAnswerOver prelude a text e ws
  ran : (script : Stms) (o : Outcome Value World) (w : Work) → is_run a.command ≡ true → IsBuilt text script → RunsTo prelude script a.steps o
      → CodeRunsBy prelude script a.steps o w → e ≡ end_of a.steps o.ending
      → ws ≡ with_summary (sums_up a.command) a.steps o (script_writes (report_kind a.command) a text prelude script o w) → IsAnswerOver prelude a text e ws
  wrote_code : (bytes : Text) → is_run a.command ≡ false → IsCodeBy a.command text bytes → e ≡ end.Done → ws ≡ write to_out bytes ∷ []
      → IsAnswerOver prelude a text e ws

-- the answer for a text: the prelude is taken first
pub data IsAnswerFor (a : Asked) (text : Text) (e : End) (ws : List Write) : Type 0 where
  no_prelude : IsNoPrelude e → ws ≡ final e → IsAnswerFor a text e ws
  over : (prelude : Stms) → IsBuilt PRELUDE.now prelude → IsAnswerOver prelude a text e ws → IsAnswerFor a text e ws

-- the end is the one that the text says
abbrev pub IsEndFor : Asked → Text → End → Type 0
IsEndFor a text e = (ws : List Write) × IsAnswerFor a text e ws

-- the script that the command makes, or else the text of the file that the words name: the one that the shelf tells, or any within the limit where it
-- doesn't tell
abbrev pub IsSource : (made : Option Text) → Told → (limit : ℕ) → Text → Type 0
IsSource (Some script) told limit text = text ≡ script
IsSource None told limit text = IsWhole told text × (length text ≤ limit)

pub record IsTextOf (words : List (String Global)) (told : Text → Told) (a : Asked) (text : Text) : Type 0 where
  pub asked : asked_for words ≡ Some a
  pub is_source : IsSource (made_by a.command) (told a.script) (limit_of a.command) text

-- the answer to words, over a shelf that tells so, whose reading may have failed by a fault
pub data IsAnswer (misread : Type 0) (words : List (String Global)) (told : Text → Told) (e : End) (ws : List Write) : Type 0 where
  usage : asked_for words ≡ None → e ≡ end.Usage → ws ≡ final e → IsAnswer misread words told e ws
  read_fault : (a : Asked) → asked_for words ≡ Some a → made_by a.command ≡ None → misread ⊎ IsLacked (told a.script) → e ≡ end.ReadFault
      → ws ≡ final e → IsAnswer misread words told e ws
  too_long : (a : Asked) → asked_for words ≡ Some a → made_by a.command ≡ None → IsLonger (told a.script) (limit_of a.command)
      → e ≡ end.TooLong file.First → ws ≡ final e → IsAnswer misread words told e ws
  of_text : (a : Asked) (text : Text) → IsTextOf words told a text → IsAnswerFor a text e ws → IsAnswer misread words told e ws

-- out and the log, each as it was and as it is
module _ (out_old out_new log_old log_new : Pieces → Pieces → Type 0) where
  -- all of an answer was written
  pub record WroteAllOf (IsIts : End → List Write → Type 0) (e : End) : Type 0 where
    pub writes : List Write
    pub is_answer : IsIts e writes
    pub took : Took out_old out_new log_old log_new writes

  abbrev pub WroteAllOver : (prelude : Stms) → Asked → Text → End → Type 0
  WroteAllOver prelude a text = WroteAllOf (IsAnswerOver prelude a text)

  abbrev pub WroteAllFor : Asked → Text → End → Type 0
  WroteAllFor a text = WroteAllOf (IsAnswerFor a text)

  abbrev pub WroteAll : (misread : Type 0) → List (String Global) → (Text → Told) → End → Type 0
  WroteAll misread words told = WroteAllOf (IsAnswer misread words told)

  -- of what a run writes, a front was written with a report: out took it as it stands, and the log took a front of what it gets of it
  pub record ReportedFront (why : WriteErr) (k : ReportKind) (a : Asked) (ss : Stms) (ws : List Write) : Type 0 where
    pub done : List Write
    pub rest : List Write
    pub is_front : ws ≡ done ++ rest
    pub stopped : StoppedBy why rest
    pub out : (g h : Pieces) → out_old g h → one.TookFront (out_new g) (h ++ outs done) (outs (first rest))
    pub log : (g h : Pieces) → log_old g h
        → one.TookFront (λ ps. one.TookFront (log_new g) h (logged a.events a.stats (report_on k ss) ps)) (logs done) (logs (first rest))

  -- over this prelude a front of what an answer writes was written, or of what a run writes, whether or not that comes to an end; where a write failed, the
  -- next one goes to its stream
  pub data WroteFrontOver (prelude : Stms) (why : WriteErr) (a : Asked) (text : Text) : Type 0 where
    of_answer : (e : End) (ws : List Write) → IsAnswerOver prelude a text e ws → TookFront out_old out_new log_old log_new why ws
        → WroteFrontOver prelude why a text
    of_run : (script : Stms) (ws : List Write) → is_run a.command ≡ true → report_kind a.command ≡ None → IsBuilt text script
        → ScriptWritesFirst prelude script a.steps ws → TookFront out_old out_new log_old log_new why (kept (tells_events a) ws)
        → WroteFrontOver prelude why a text
    of_reported_run : (k : ReportKind) (script : Stms) (ws : List Write) → report_kind a.command ≡ Some k → IsBuilt text script
        → WritesFirst a text prelude script ws → ReportedFront why k a script ws → WroteFrontOver prelude why a text
    of_code_run : (c : Code) (ws : List Write) → reads_code a.command ≡ true → IsRunnable (code_of prelude) → IsRunnableFile text c
        → CodeWritesFirst (code_of prelude) c a.steps ws → TookFront out_old out_new log_old log_new why (kept (tells_events a) ws)
        → WroteFrontOver prelude why a text

  pub data WroteFrontFor (why : WriteErr) (a : Asked) (text : Text) : Type 0 where
    of_no_prelude : (e : End) → IsNoPrelude e → TookFront out_old out_new log_old log_new why (final e) → WroteFrontFor why a text
    of_prelude : (prelude : Stms) → IsBuilt PRELUDE.now prelude → WroteFrontOver prelude why a text → WroteFrontFor why a text

  pub data WroteFront (why : WriteErr) (misread : Type 0) (words : List (String Global)) (told : Text → Told) : Type 0 where
    of_no_text : (e : End) (ws : List Write) → IsAnswer misread words told e ws → TookFront out_old out_new log_old log_new why ws
        → WroteFront why misread words told
    of_its_text : (a : Asked) (text : Text) → IsTextOf words told a text → WroteFrontFor why a text → WroteFront why misread words told

  -- what was written where a write failed, and where memory ran out
  abbrev pub BrokeOffOver : (prelude : Stms) → Asked → Text → WriteErr → Type 0
  BrokeOffOver prelude a text (error.Failed which) = WroteFrontOver prelude (error.Failed which) a text
  BrokeOffOver prelude a text error.Memory = Took out_old out_new log_old log_new [] ⊎ WroteFrontOver prelude error.Memory a text

  abbrev pub BrokeOffFor : Asked → Text → WriteErr → Type 0
  BrokeOffFor a text (error.Failed which) = WroteFrontFor (error.Failed which) a text
  BrokeOffFor a text error.Memory = Took out_old out_new log_old log_new [] ⊎ WroteFrontFor error.Memory a text

  -- what was written, by the end of the call
  abbrev pub Wrote : (misread : Type 0) → List (String Global) → (Text → Told) → End → Type 0
  Wrote misread words told (end.WriteFault which) = WroteFront (error.Failed which) misread words told
  Wrote misread words told end.Memory = Took out_old out_new log_old log_new [] ⊎ WroteFront error.Memory misread words told
  Wrote misread words told e = WroteAll misread words told e

-- the text is told: the command makes it, or the shelf tells of it, within the limit
abbrev pub IsTold : (made : Option Text) → Told → (limit : ℕ) → Text → Type 0
IsTold (Some script) told limit text = text ≡ script
IsTold None told limit text = (told ≡ Holds text) × (length text ≤ limit)

-- the end is the one that each such text says
abbrev pub IsComplete : List (String Global) → (Text → Told) → End → Type 0
IsComplete words told e = (a : Asked) (text : Text) → asked_for words ≡ Some a → IsTold (made_by a.command) (told a.script) (limit_of a.command) text
    → IsEndFor a text e ⊎ (e ≡ end.Memory)
