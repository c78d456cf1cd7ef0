-- The run of a script whose lines are counted, and what is written behind it.
use Rattle.std.specs.Prelude.{◌≡◌, ℕ, List, ◌++◌, Bool, Some, Result, Ok, Err}
use Rattle.pt_base.specs.Taken.{Pieces}
use Rattle.pt_tree.specs.Syntax.{Stms}
use Rattle.sem_run.specs.run.Run.{Write}
use Rattle.pt_run_script.specs.pt_run_code.pt_runner.declared.ending.Ended.{Ended}
use Rattle.pt_run_script.specs.ScriptRun.{ScriptFinished}
use Rattle.pt_sinks.specs.declared.writing.WriteErr.{WriteErr}
use Rattle.pt_words.specs.Words.{Asked}
use Rattle.pt_prog.specs.declared.counting.Counted.{Counted}
use Rattle.pt_prog.specs.Answer.{lines_in}
use Rattle.pt_prog.specs.LogText.{Text, summary, totals}
use Rattle.pt_prog.specs.RunEnds.{end_of_run, last_of_run}

-- where the run isn't broken off
abbrev pub with_lines : (lines : ℕ) → Result Ended WriteErr → Result Counted WriteErr
with_lines lines (Ok x) = Ok (record { ended = x; lines = lines })
with_lines lines (Err why) = Err why

-- the run came to its outcome, as where no line is counted, and these are its lines
pub record HasCounted (prelude ss : Stms) (n : ℕ) (events : Bool) (out_old out_new log_old log_new : Pieces → Pieces → Type 0) (x : Counted) : Type 0 where
  pub finished : ScriptFinished prelude ss n events out_old out_new log_old log_new x.ended
  pub counts : x.lines ≡ lines_in finished.outcome

-- behind it the log gets the totals, where they are asked for, and its last write, and out the summary
abbrev pub ended_writes : Asked → Text → Ended → List Write
ended_writes a text x = totals a.stats x.totals.acts x.totals.instructions x.totals.depth ++ last_of_run a.script (Some text) a.steps x.end

abbrev pub counted_writes : Asked → Text → Counted → List Write
counted_writes a text x = ended_writes a text x.ended ++ summary (end_of_run a.steps x.ended.end) x.ended.totals.acts x.lines
