-- The program's end, and the log's last write, for the end of a run as the run of code tells it.
use Rattle.std.specs.Prelude.{ℕ, List, Option, Some, None, Result, Ok, Err}
use Rattle.pt_base.specs.declared.sink.SinkErr.{SinkErr}
use Rattle.pt_run_script.specs.pt_run_code.pt_runner.declared.ending.RunEnd.{RunEnd}
use Rattle.pt_run_script.specs.pt_run_code.pt_runner.declared.ending.RunEnd.TheVariants as run
use Rattle.pt_sinks.specs.declared.writing.WriteErr.{WriteErr}
use Rattle.pt_sinks.specs.declared.writing.WriteErr.TheVariants as error
use Rattle.pt_prog.specs.declared.end.End.{End}
use Rattle.pt_prog.specs.declared.end.End.TheVariants as end
use Rattle.sem_run.specs.run.Run.{Write}
use Rattle.pt_prog.specs.LogText.{Text, final, line_of, traced}

abbrev pub end_of_run : (n : ℕ) → RunEnd → End
end_of_run n run.Done = end.Done
end_of_run n (run.Exited status text) = end.Exited status
end_of_run n (run.Raised told) = end.Raised
end_of_run n run.Spent = end.Spent n
end_of_run n (run.Outside what line) = end.Outside what line

-- over the name of the file that was run, and its source, if there is one
abbrev pub last_of_run : (file : Text) → (source : Option Text) → (n : ℕ) → RunEnd → List Write
last_of_run file source n (run.Exited status text) = line_of text
last_of_run file source n (run.Raised told) = traced file source told
last_of_run file source n e = final (end_of_run n e)

-- a run came to its end, and its log passed all on
abbrev pub unless_failed : Option SinkErr → Result End WriteErr → Result End WriteErr
unless_failed None (Ok e) = Ok e
unless_failed (Some why) (Ok e) = Err error.Memory
unless_failed failed (Err why) = Err why

-- a write that failed, and want of memory, are ends
abbrev pub ended : Result End WriteErr → End
ended (Ok e) = e
ended (Err (error.Failed which)) = end.WriteFault which
ended (Err error.Memory) = end.Memory
