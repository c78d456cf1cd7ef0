-- The line of the log for an event: its kind, its line and the name of its block, and of an
-- exception its class.
use Rattle.std.specs.Prelude.{ℕ, pos, List, [], ◌∷◌, codes, Option, Some, None}
use Rattle.std.specs.Fmt.{signed_decimal}
use Rattle.pt_tree.specs.Syntax.{Name}
use Rattle.pt_heap.specs.declared.value.Value.{Value}
use Rattle.pt_heap.specs.declared.object.Object.{Object}
use Rattle.pt_content.specs.Classes.{class_name}
use Rattle.pt_content.specs.TypeErrors.{sentence}
use Rattle.sem_run.specs.run.Events.{Happening, raises, Event, TraceKind, a_call, a_line, a_return}
use Rattle.sem_run.specs.run.Events.{an_exception, trace_kind}
use Rattle.pt_host.specs.World.{World, Program}

abbrev pub kind_word : TraceKind → List ℕ
kind_word a_call = codes "call"
kind_word a_line = codes "line"
kind_word a_return = codes "return"
kind_word an_exception = codes "exception"

abbrev pub class_behind : List Object → Happening Value → List ℕ
class_behind h (raises v) = 32 ∷ class_name h v
class_behind h what = []

abbrev pub log_text : Option TraceKind → Name → Event Value → World → List ℕ
log_text (Some k) name e w =
    sentence (kind_word k ∷ codes " " ∷ signed_decimal (pos e.line) ∷ codes " " ∷ name ∷
    class_behind w.heap e.what ∷ (10 ∷ []) ∷ [])
log_text None name e w = []

abbrev pub log_line : Program → Event Value → World → List ℕ
log_line program e w = log_text (trace_kind e.what) (program.facts e.block).name e w
