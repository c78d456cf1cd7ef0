-- A host of answers that are given in order, to follow runs by: all values are numbers, 0 is None and what a name has that isn't
-- bound, and the world is what is answered next. Asks that need no answer of the list get a number at once.
use Rattle.std.specs.Prelude.{ℕ, zero, suc, ◌==◌, ◌&&◌, pos, List, [], ◌∷◌, ◌++◌, Bool, true, false, Option, Some, None}
use Rattle.std.specs.Prelude.{◌-◌, length, replicate, if◌then◌else◌}
use Rattle.std.specs.Str.{bytes_eq}
use Rattle.pt_tree.specs.declared.expression.Constant.{Constant}
use Rattle.pt_tree.specs.declared.expression.Constant.TheVariants.{Int}
use Rattle.pt_tree.specs.Blocks as B
use Rattle.pt_tree.specs.Blocks.{Block, Code, blocks_script}
use Rattle.pt_tree.specs.Syntax.{Name, Stms, none}
use Rattle.sem_control.specs.control.Turn as T
use Rattle.sem_control.specs.control.Turn.{Ask, Row, End, gave, left_by}
use Rattle.sem_control.specs.control.Lines.{numbers}
use Rattle.sem_run.specs.run.Machine.{Machine, Reason}
use Rattle.sem_run.specs.run.Rows.{row_at}
use Rattle.sem_run.specs.run.Events.{Happening, raises, Event, bit, is_line}
use Rattle.sem_run.specs.run.Tools as Tool
use Rattle.sem_run.specs.run.Host as H
use Rattle.sem_run.specs.run.Host.{Store, Opening, How, by_next, by_throw, GeneratorResult, gives_on, ends_by, cannot, throws_back}
use Rattle.sem_run.specs.run.Host.{nothing_to_close, Response}
use Rattle.sem_run.specs.run.Host.{Answering, answer, raise, print, request, Item, an_item, no_item, Finding, Here, Failure, Hook, tool}
use Rattle.sem_run.specs.run.Host.{tracer, Host, BlockResult}
use Rattle.sem_run.specs.run.State.{start}
use Rattle.sem_run.specs.run.Outcome as O
use Rattle.sem_run.specs.run.Outcome.{Output, gives, View, Question, about, Advice, go}
use Rattle.sem_run.specs.run.Source as Source
use Rattle.sem_run.specs.run.Source.{Position}
use Rattle.sem_run.specs.run.Run as R
use Rattle.sem_run.specs.run.Run.{DebuggerAnswer, says_nothing, Session, Move, moves, stops, halts, move}

-- what the next call or item comes to
pub data Cue : Type 0 where
  value : ℕ → Cue
  exception : ℕ → Cue
  -- there is no other item; how a test ends
  no_more : Cue
  truth : Bool → Cue
  -- a block runs; a generator is made of one; one goes on
  runs : (block : ℕ) → Cue
  makes : (block : ℕ) → Cue
  resumes : (generator : ℕ) → Cue
  throws : (generator exception : ℕ) → Cue
  -- `next`, but 8 where it doesn't go on
  tries : (generator : ℕ) → Cue
  -- sys.settrace, and a callback of a tool for the events of a bit; a write of `f_lineno` in a frame
  traces : (function : Option ℕ) → Cue
  tells_tool : (tool bit function : ℕ) → Cue
  jumps : (frame line : ℕ) → Cue
  -- a call prints its arguments; a hook prints which exception it is told is active, and then answers
  prints : Cue
  looks : Cue

-- the numbers of some exceptions, and that of DISABLE
abbrev pub stop_iteration : ℕ
stop_iteration = 901

abbrev pub value_error : ℕ
value_error = 902

abbrev pub recursion_error : ℕ
recursion_error = 903

abbrev pub runtime_error : ℕ
runtime_error = 904

abbrev pub disable : ℕ
disable = 905

-- the names of an activation that are bound, the one that was bound last first
pub record Binding : Type 0 where
  pub name : Name
  pub bound : ℕ

abbrev pub Names : Type 0
Names = List Binding

abbrev pub value_of : Name → Names → ℕ
value_of x [] = 0
value_of x (b ∷ bs) = if bytes_eq b.name x then b.bound else value_of x bs

abbrev pub without_name : Name → Names → Names
without_name x [] = []
without_name x (b ∷ bs) = if bytes_eq b.name x then without_name x bs else b ∷ without_name x bs

abbrev pub bind : Name → ℕ → Names → Names
bind x v bs = record { name = x; bound = v } ∷ without_name x bs

abbrev pub Stores : Type 0
Stores = Store Names (List Cue)

abbrev pub Tree : Type 0 → Type 0
Tree A = Answering Names ℕ (List Cue) A

abbrev pub opening : ℕ → Opening Names ℕ
opening b = record { block = record { hidden = false; number = b }; iterator = None; names = [] }

abbrev pub end_of : End ℕ → Stores → Tree ℕ
end_of (gave v) st = answer v st
end_of (left_by v) st = raise v st

abbrev pub result_of : GeneratorResult ℕ → Stores → Tree ℕ
result_of (gives_on v) st = answer v st
result_of (ends_by (gave v)) st = raise stop_iteration st
result_of (ends_by (left_by v)) st = raise v st
result_of (cannot o) st = raise value_error st
result_of (throws_back v) st = raise v st
result_of nothing_to_close st = answer 0 st

abbrev pub try_result : GeneratorResult ℕ → Stores → Tree ℕ
try_result (gives_on v) st = answer v st
try_result (ends_by e) st = end_of e st
try_result (cannot o) st = answer 8 st
try_result (throws_back v) st = raise v st
try_result nothing_to_close st = answer 0 st

abbrev pub reason_of : Option Reason → Stores → Tree ℕ
reason_of None st = answer 0 st
reason_of (Some r) st = raise value_error st

-- a tool's function for the events of one bit: the id is taken, the set given, and the function registered
abbrev pub tell_tool : (tool bit function : ℕ) → Stores → Tree ℕ
tell_tool t b f st =
    request (H.calls_tools (Tool.use_id (pos t) [])) st (λ u st1.
    request (H.calls_tools (Tool.give_set (pos t) (pos b))) st1 (λ v st2.
    request (H.calls_tools (Tool.register (pos t) (pos b) (Some f))) st2 (λ w st3. answer 0 st3)))

abbrev pub by_cue : Cue → Stores → Tree ℕ
by_cue (value v) st = answer v st
by_cue (exception v) st = raise v st
by_cue no_more st = answer 0 st
by_cue (truth b) st = answer 0 st
by_cue (runs b) st = request (H.opens (opening b)) st (λ c st1. end_of c.end st1)
by_cue (makes b) st = request (H.makes (opening b)) st (λ g st1. answer g st1)
by_cue (resumes g) st = request (H.resumes g by_next) st result_of
by_cue (throws g v) st = request (H.resumes g (by_throw v)) st result_of
by_cue (tries g) st = request (H.resumes g by_next) st try_result
by_cue (traces f) st = request (H.gives_trace f) st (λ u st1. answer 0 st1)
by_cue (tells_tool t b f) st = tell_tool t b f st
by_cue (jumps k l) st = request (H.jumps_to k (pos l)) st reason_of
by_cue prints st = answer 0 st
by_cue looks st = answer 0 st

abbrev pub with_world : List Cue → Stores → Stores
with_world w st = record st { world = w }

-- the next answer of the list, or 0 behind its end
abbrev pub next_answer : List Cue → Stores → Tree ℕ
next_answer [] st = answer 0 st
next_answer (x ∷ xs) st = by_cue x (with_world xs st)

-- a call, of which what is called stands first
abbrev pub call_answer : (operands : List ℕ) → List Cue → Stores → Tree ℕ
call_answer vs (prints ∷ xs) st = print vs (answer 0 (with_world xs st))
call_answer vs xs st = next_answer xs st

abbrev pub item_of : GeneratorResult ℕ → Stores → Tree (Item ℕ)
item_of (gives_on v) st = answer (an_item v) st
item_of (ends_by (gave v)) st = answer (no_item (Some stop_iteration)) st
item_of (ends_by (left_by v)) st = raise v st
item_of (cannot o) st = raise value_error st
item_of (throws_back v) st = raise v st
item_of nothing_to_close st = answer (no_item None) st

abbrev pub next_item : List Cue → Stores → Tree (Item ℕ)
next_item (value v ∷ xs) st = answer (an_item v) (with_world xs st)
next_item (exception v ∷ xs) st = raise v (with_world xs st)
next_item (resumes g ∷ xs) st = request (H.resumes g by_next) (with_world xs st) item_of
next_item (no_more ∷ xs) st = answer (no_item None) (with_world xs st)
next_item xs st = answer (no_item None) st

abbrev pub next_truth : List Cue → Stores → Tree Bool
next_truth (truth b ∷ xs) st = answer b (with_world xs st)
next_truth (exception v ∷ xs) st = raise v (with_world xs st)
next_truth xs st = answer true st

abbrev pub next_exception : List Cue → Stores → Tree ⊥
next_exception (exception v ∷ xs) st = raise v (with_world xs st)
next_exception xs st = raise value_error st

-- `raise` alone
abbrev pub raise_active : Option ℕ → Stores → Tree ⊥
raise_active (Some v) st = raise v st
raise_active None st = raise runtime_error st

abbrev pub constant_of : Constant → ℕ
constant_of (Int (pos n)) = n
constant_of k = 0

abbrev pub with_names : Names → Stores → Stores
with_names ns st = record st { names = ns }

abbrev pub zeros : (n : ℕ) → Row ℕ n
zeros zero = tt
zeros (suc n) = (0, zeros n)

abbrev pub answers : (a : Ask ℕ) → Here ℕ → Stores → Tree (Finding ℕ a)
answers (T.seek (T.operate (T.call rs) vs)) h st = call_answer vs st.world st
answers (T.seek (T.const k)) h st = answer (constant_of k) st
answers (T.seek (T.load x)) h st = answer (value_of x.name st.names) st
answers (T.seek s) h st = answer 0 st
answers (T.deed (T.store x v)) h st = answer tt (with_names (bind x.name v st.names) st)
answers (T.deed (T.delete x)) h st = answer tt (with_names (without_name x.name st.names) st)
answers (T.deed d) h st = answer tt st
answers (T.leave l) h st = answer tt st
answers (T.throw T.raising_again) h st = raise_active h.active st
answers (T.throw t) h st = next_exception st.world st
answers (T.test t) h st = next_truth st.world st
answers (T.iter_of v) h st = answer 0 st
answers (T.next_of i) h st = next_item st.world st
answers (T.enter v) h st = answer (0, 0) st
answers (T.unpack v n star) h st = answer (zeros n) st
answers (T.delegate i r) h st = answer (H.ends_with 0) st

abbrev pub or_none : Option ℕ → ℕ
or_none (Some v) = v
or_none None = 0

-- a hook that is called prints its function's number, and which exception is active if it looks
abbrev pub hear : (function : ℕ) → Here ℕ → List Cue → Stores → Tree ℕ
hear f h (looks ∷ xs) st = print (f ∷ or_none h.active ∷ []) (next_answer xs (with_world xs st))
hear f h xs st = print (f ∷ []) (next_answer xs st)

abbrev pub hears : Hook → ℕ → Event ℕ → Here ℕ → Stores → Tree ℕ
hears k f e h st = hear f h st.world st

abbrev pub exception_of : Failure ℕ → ℕ
exception_of H.too_deep = recursion_error
exception_of H.generator_exit = runtime_error
exception_of (H.stop_iteration e) = runtime_error
exception_of H.not_local = value_error

abbrev pub unless_null : ℕ → Option ℕ
unless_null v = if v == 0 then None else Some v

abbrev pub code_of : Option Block → Code
code_of (Some b) = b.code
code_of None = B.of_module none

abbrev pub line_of : Option Block → ℕ
line_of (Some b) = b.first_line
line_of None = 1

-- the host, for the blocks of a script
abbrev pub host : Stms → Host Names ℕ (List Cue)
host ss = record {
  first_line = λ b. line_of (row_at b.number (blocks_script ss));
  null = 0;
  answers = answers;
  hears = hears;
  unless_null = unless_null;
  is_disable = λ v. v == disable;
  is_stop = λ v w. v == stop_iteration;
  callee = λ f rs vs w. record { first = 0; is_builtin = false };
  makes = λ x h w. H.made (exception_of x) w;
  arises = λ v h w. w;
  enters = λ v e w. w;
  leaving = λ v w. H.fails [];
  names_left = λ ns w. ns;
  log_line = λ e w. e.line ∷ [];
}

-- a script as a machine
abbrev pub source : Stms → Source.Source ℕ
source ss = record {
  code = λ b. code_of (row_at b.number (blocks_script ss));
  around = λ b. numbers;
}

abbrev pub machine : Stms → Machine (Position ℕ) ℕ
machine ss = Source.machine (source ss)

-- a debugger of answers that are given in order, each at the next line event on its line or for the next jump
pub record Plan : Type 0 where
  pub line : ℕ
  pub advice : Advice

abbrev pub silent : List Plan → DebuggerAnswer (List Plan)
silent ps = says_nothing ps

-- it says its line
abbrev pub says : Plan → List Plan → DebuggerAnswer (List Plan)
says p ps = record { text = Some (p.line ∷ []); advice = p.advice; debugger = ps }

abbrev pub at_event : Event ℕ → List Plan → DebuggerAnswer (List Plan)
at_event e [] = silent []
at_event e (p ∷ ps) = if is_line e.what && e.line == p.line then says p ps else silent (p ∷ ps)

abbrev pub next_plan : List Plan → DebuggerAnswer (List Plan)
next_plan [] = silent []
next_plan (p ∷ ps) = says p ps

abbrev pub follow_plan : R.Debugger (List Plan) Names ℕ (List Cue)
follow_plan (about e) v ps = at_event e ps
follow_plan (O.about_landing l) v ps = next_plan ps
follow_plan (O.about_refusal r) v ps = next_plan ps

-- so many moves of a run of at most n acts
abbrev pub Follower : Type 0
Follower = Session (List Plan) (Position ℕ) Names ℕ (List Cue)

-- how a run that is followed ended, if it has
pub data EndKind : Type 0 where
  goes_still : EndKind
  ends_done : EndKind
  ends_raised : ℕ → EndKind
  ends_spent : EndKind
  ends_otherwise : EndKind

pub record Trace : Type 0 where
  pub outputs : List (Output ℕ)
  pub end : EndKind

abbrev pub end_kind : O.Ending Names ℕ (List Cue) → EndKind
end_kind O.done = ends_done
end_kind (O.raised v w) = ends_raised v
end_kind O.spent = ends_spent
end_kind e = ends_otherwise

abbrev pub behind : List (Output ℕ) → Trace → Trace
behind os t = record t { outputs = os ++ t.outputs }

abbrev pub on_move : (List (Output ℕ) → Follower → Trace) → Move (List Plan) (Position ℕ) Names ℕ (List Cue) → Trace
on_move f (moves os x) = f os x
on_move f (stops os d e) = record { outputs = os; end = end_kind e }
on_move f halts = record { outputs = []; end = ends_otherwise }

-- a run at its start, with what is answered, and with a debugger's plan
abbrev pub from_start : Stms → List Cue → List Plan → Follower
from_start ss w ps = record { debugger = ps; state = start (machine ss) (record { hidden = false; number = 0 }) [] w }

module _ (ss : Stms) (n : ℕ) where
  abbrev pub follow : (most : ℕ) → Follower → Trace
  follow zero x = record { outputs = []; end = goes_still }
  follow (suc m) x = on_move (λ os y. behind os (follow m y)) (move (machine ss) (host ss) follow_plan n x)

  -- a run from its start
  abbrev pub trace_of : List Cue → List Plan → Trace
  trace_of w ps = follow 2000 (from_start ss w ps)

  abbrev pub session_of : (otherwise : Follower) → Move (List Plan) (Position ℕ) Names ℕ (List Cue) → Follower
  session_of x (moves os y) = y
  session_of x m = x

  -- a run behind so many moves
  abbrev pub moved : (many : ℕ) → Follower → Follower
  moved zero x = x
  moved (suc m) x = moved m (session_of x (move (machine ss) (host ss) follow_plan n x))

-- so many activations wait: the one that called the newest stands for each that is missing
abbrev pub filled : {X : Type 0} → (many : ℕ) → List X → List X
filled n [] = []
filled n (o ∷ os) = replicate (n - length (o ∷ os)) o ++ o ∷ os

abbrev pub with_openers : (many : ℕ) → Follower → Follower
with_openers n x = record x { state = record x.state { openers = filled n x.state.openers } }

-- the lines of the line events
abbrev pub lines : List (Output ℕ) → List ℕ
lines [] = []
lines (gives e ∷ os) = if is_line e.what then e.line ∷ lines os else lines os
lines (o ∷ os) = lines os

-- what is told, as it is shown: an event by its bit and line, the log's line and a debugger's reply by their numbers, a hook by
-- that of its function, and a jump that is refused
pub data TraceRow : Type 0 where
  event : (bit line : ℕ) → TraceRow
  log_line : ℕ → TraceRow
  reply : ℕ → TraceRow
  hook : (function : ℕ) → TraceRow
  refusal : (line : ℕ) → Reason → TraceRow
  -- a hook, with the exception that it is told is active; what a call prints
  sees : (function exception : ℕ) → TraceRow
  printed : List ℕ → TraceRow

abbrev first_number : List ℕ → ℕ
first_number [] = 0
first_number (n ∷ ns) = n

-- no hook is 0: a text that begins so is printed by a call of a name that isn't bound
abbrev pub row_of_text : (text : List ℕ) → TraceRow
row_of_text (zero ∷ vs) = printed vs
row_of_text (f ∷ v ∷ []) = sees f v
row_of_text x = hook (first_number x)

abbrev pub rows_of : List (Output ℕ) → List TraceRow
rows_of [] = []
rows_of (O.begins b m ∷ os) = rows_of os
rows_of (O.prints x ∷ os) = row_of_text x ∷ rows_of os
rows_of (O.gives e ∷ os) = event (bit e.what) e.line ∷ rows_of os
rows_of (O.logs x ∷ os) = log_line (first_number x) ∷ rows_of os
rows_of (O.replies x ∷ os) = reply (first_number x) ∷ rows_of os
rows_of (O.refuses l r ∷ os) = refusal l r ∷ rows_of os

-- the events alone
abbrev pub event_rows : List (Output ℕ) → List TraceRow
event_rows [] = []
event_rows (gives e ∷ os) = event (bit e.what) e.line ∷ event_rows os
event_rows (o ∷ os) = event_rows os

-- the exceptions that are told as they arise or arrive
abbrev pub exception_in : Happening ℕ → List ℕ
exception_in (raises v) = v ∷ []
exception_in h = []

abbrev pub exceptions_told : List (Output ℕ) → List ℕ
exceptions_told [] = []
exceptions_told (gives e ∷ os) = exception_in e.what ++ exceptions_told os
exceptions_told (o ∷ os) = exceptions_told os

-- what is shown behind the first event with a bit on a line, up to the next event
abbrev pub up_to_event : List TraceRow → List TraceRow
up_to_event [] = []
up_to_event (event b l ∷ xs) = []
up_to_event (x ∷ xs) = x ∷ up_to_event xs

abbrev pub behind_event : (bit line : ℕ) → List TraceRow → List TraceRow
behind_event b l [] = []
behind_event b l (event c k ∷ xs) = if b == c && l == k then up_to_event xs else behind_event b l xs
behind_event b l (x ∷ xs) = behind_event b l xs

abbrev pub lines_of : Stms → List Cue → List ℕ
lines_of ss w = lines (trace_of ss 1000 w []).outputs

abbrev pub lines_with : Stms → List Cue → List Plan → List ℕ
lines_with ss w ps = lines (trace_of ss 1000 w ps).outputs

abbrev pub rows_of_run : Stms → List Cue → List Plan → List TraceRow
rows_of_run ss w ps = rows_of (trace_of ss 1000 w ps).outputs

-- from that event on
abbrev pub from_event : (bit line : ℕ) → List TraceRow → List TraceRow
from_event b l [] = []
from_event b l (event c k ∷ xs) = if b == c && l == k then event c k ∷ xs else from_event b l xs
from_event b l (x ∷ xs) = from_event b l xs
