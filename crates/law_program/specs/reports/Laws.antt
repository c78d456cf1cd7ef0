-- What the law says of the profile of a supported script.
use Rattle.std.specs.Prelude.{true}
use Rattle.pt_base.specs.Taken.{Pieces}
use Rattle.pt_tree.specs.Syntax.{Stms}
use Rattle.pt_bare_runs.specs.Strides.{Outcome}
use Rattle.pt_sinks.specs.Writing.{logs}
use Rattle.pt_heap.specs.declared.value.Value.{Value}
use Rattle.pt_host.specs.World.{World}
use Rattle.pt_cover.specs.Pieces.{events_in}
use Rattle.pt_cover.specs.Tallies.{NameTally}
use Rattle.pt_reported.specs.Reported.{lines_of, names_of}
use Rattle.law_reports.specs.Profiles.{IsProfile, OwnAddUp}
use Rattle.pt_words.specs.Words.{Asked}
use Rattle.pt_prog.specs.pt_run_script.pt_run_code.pt_runner.Work.{Work}
use Rattle.pt_prog.specs.pt_run_script.ScriptRun.{RunsTo}
use Rattle.pt_prog.specs.LogText.{Text}
use Rattle.pt_prog.specs.Answer.{IsBuilt, all_writes, script_read}

-- the events that a report counts, of the run that comes to this outcome
abbrev pub events_of : Asked → Text → (prelude script : Stms) → Outcome Value World → Work → Pieces
events_of a text prelude script o w = events_in (logs (all_writes (script_read a text prelude script) a.steps true true o w))

-- the lines of each name of a supported script's profile add up to its total
abbrev pub OwnLinesAddUp : Type 0
OwnLinesAddUp = (a : Asked) (text : Text) (prelude script : Stms) (o : Outcome Value World) (w : Work) (t : NameTally) → IsBuilt text script
    → RunsTo prelude script a.steps o → IsProfile (lines_of script) (names_of script) (events_of a text prelude script o w) t → OwnAddUp t
