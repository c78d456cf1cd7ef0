-- Scripts to follow runs by, what the host answers in them, and what is told.
use Rattle.std.specs.Prelude.{ℕ, pos, List, [], ◌∷◌, true, false, codes, Option, Some, None}
use Rattle.pt_tree.specs.declared.expression.Constant.TheVariants.{Int}
use Rattle.pt_tree.specs.Syntax as S
use Rattle.pt_tree.specs.Syntax.{Name, Exp, Args, Stm, Stms, none, more}
use Rattle.sem_run.specs.run.Machine.{into_block, out_of_finally}
use Rattle.sem_run.specs.run.Outcome.{go, jump_to}
use Rattle.sem_run.specs.run.Cues.{Cue, jumps, value, exception, no_more, truth, runs, makes, resumes, throws, tries, traces, tells_tool}
use Rattle.sem_run.specs.run.Cues.{prints, looks, Plan, Trace, from_start, moved, follow, with_openers}
use Rattle.sem_run.specs.run.Cues.{TraceRow, event, log_line, reply, hook, refusal, sees, printed}

abbrev pub call : (line : ℕ) → Name → Stm
call l f = S.expr l (S.call l (S.name l f) S.no_args)

abbrev pub no_params : S.Params
no_params = S.parameters S.no_formals None S.no_formals None

abbrev pub function : (line block : ℕ) → Name → Stms → Stm
function l b f body = S.def l S.no_decorators l b f no_params S.absent body

abbrev pub yield : (line : ℕ) → Stm
yield l = S.expr l (S.yield l (S.given (S.name l (codes "v"))))

-- a generator with two items in a `for`: the call makes it, three items are asked for, and each is printed
abbrev pub two_items : List Cue
two_items = makes 1 ∷ resumes 0 ∷ value 0 ∷ resumes 0 ∷ value 0 ∷ resumes 0 ∷ []

-- f is called, then `range` in it, an item is asked for, and it is printed twice
abbrev pub nested_call : List Cue
nested_call = runs 1 ∷ value 0 ∷ value 1 ∷ value 0 ∷ value 0 ∷ []

-- a `while` on one line has two rounds
abbrev pub two_rounds : List Cue
two_rounds = truth true ∷ truth true ∷ truth false ∷ []

-- 1 def f():
-- 2     raise x
-- 3 f()
abbrev pub raising : Stms
raising = more (function 1 1 (codes "f") (more (S.raise 2 (S.name 2 (codes "x")) S.absent) none)) (more (call 3 (codes "f")) none)

abbrev pub raising_call : List Cue
raising_call = runs 1 ∷ exception 7 ∷ []

-- the block starts, line 1; line 3, the call; its block starts, line 2, the exception, it leaves; it arrives, and leaves the module
abbrev pub raising_events : List TraceRow
raising_events =
    event 0 1 ∷ event 9 1 ∷ event 9 3 ∷ event 6 3
    ∷ event 0 1 ∷ event 9 2 ∷ event 12 2 ∷ event 5 2
    ∷ event 12 3 ∷ event 5 3 ∷ []

-- 1 s()
-- 2 u()
-- 3 u()
-- 4 def f():
-- 5     pass
-- 6 f()
abbrev pub with_hooks : Stms
with_hooks =
    more (call 1 (codes "s")) (more (call 2 (codes "u")) (more (call 3 (codes "u"))
    (more (function 4 1 (codes "f") (more (S.pass 5) none)) (more (call 6 (codes "f")) none))))

-- 9 is the trace function; 44 and 22 are callbacks of the tools 4 and 2 for LINE, the latter from line 3 on; f is called, and 9
-- answers 9 to that and to
-- the line
abbrev pub with_hooks_answers : List Cue
with_hooks_answers =
    traces (Some 9) ∷ tells_tool 4 512 44 ∷ value 0 ∷ tells_tool 2 512 22 ∷ value 0 ∷ value 0 ∷ value 0 ∷ value 0 ∷ runs 1 ∷ value 9 ∷ value 0 ∷ value 0 ∷ value 9 ∷ []

-- what is told at line 5, in order: the log, the debugger, the tools 2 and 4, the trace function
abbrev pub order_at_5 : List TraceRow
order_at_5 = log_line 5 ∷ reply 5 ∷ hook 22 ∷ hook 44 ∷ hook 9 ∷ []

-- the trace function runs block 1 itself, which is f, at the start of f
abbrev pub running_hook : List Cue
running_hook = traces (Some 9) ∷ value 0 ∷ value 0 ∷ runs 1 ∷ runs 1 ∷ []

abbrev pub running_hook_rows : List TraceRow
running_hook_rows = event 0 4 ∷ log_line 4 ∷ hook 9 ∷ event 9 5 ∷ log_line 5 ∷ event 2 5 ∷ log_line 5 ∷ event 2 6 ∷ log_line 6 ∷ []

-- a debugger jumps at line 5 to line 5: nobody else is asked there, and then all but the debugger are
abbrev pub jump_at_5 : List Plan
jump_at_5 = record { line = 5; advice = jump_to 5 } ∷ []

abbrev pub jump_at_5_rows : List TraceRow
jump_at_5_rows =
    event 9 5 ∷ log_line 5 ∷ reply 5 ∷ event 9 5 ∷ log_line 5 ∷ hook 22 ∷ hook 44 ∷ hook 9 ∷ event 2 5 ∷ log_line 5 ∷ hook 9
    ∷ event 2 6 ∷ log_line 6 ∷ []

-- a debugger stops at line 5 and lets the run go on
abbrev pub stop_at_5 : List Plan
stop_at_5 = record { line = 5; advice = go } ∷ []

-- 1 s()
-- 2 def g():
-- 3     try:
-- 4         yield v
-- 5     except:
-- 6         yield v
-- 7 for v in g(): p()
abbrev pub catching : Stms
catching =
    more (call 1 (codes "s"))
    (more (function 2 1 (codes "g") (more (S.try 3 (more (yield 4) none) (S.handler 5 S.absent None (more (yield 6) none) S.no_handlers) none none) none))
    (more (S.for 7 (S.single (S.name_at 7 (codes "v"))) (S.call 7 (S.name 7 (codes "g")) S.no_args) (more (call 7 (codes "p")) none) none) none))

-- the trace function 9 is set, g is made and goes on; 9 answers 9 to its call and to line 3, and raises at line 4; the generator
-- goes on once more
abbrev pub catching_answers : List Cue
catching_answers = traces (Some 9) ∷ makes 1 ∷ resumes 0 ∷ value 9 ∷ value 9 ∷ exception 7 ∷ value 0 ∷ resumes 0 ∷ []

-- the generator's events: its start, lines 3 and 4, the handler's line, where it takes the exception, and the line of its yield; it
-- goes on and ends
abbrev pub catching_events : List TraceRow
catching_events =
    event 0 2 ∷ event 9 3 ∷ event 9 4 ∷ event 9 5 ∷ event 14 5 ∷ event 9 6 ∷ event 3 6
    ∷ event 11 7 ∷ event 6 7 ∷ event 9 7 ∷ event 1 6 ∷ event 2 6 ∷ event 15 7 ∷ event 11 7 ∷ event 2 7 ∷ []

-- 1 s()
-- 2 def g():
-- 3     try:
-- 4         yield v
-- 5     except e:
-- 6         yield v
-- 7 g()
-- 8 n()
-- 9 t()
abbrev pub throwing : Stms
throwing =
    more (call 1 (codes "s"))
    (more (function 2 1 (codes "g") (more (S.try 3 (more (yield 4) none) (S.handler 5 (S.given (S.name 5 (codes "e"))) None (more (yield 6) none) S.no_handlers) none none) none))
    (more (call 7 (codes "g")) (more (call 8 (codes "n")) (more (call 9 (codes "t")) none))))

-- the trace function 9 is set, g is made, and goes on by `next`, told to 9 at its call, two lines and its yield; then 7 is thrown
-- to it, told to 9 at
-- that call; at the exception 9 raises 8, which the handler takes
abbrev pub throwing_cues : List Cue
throwing_cues =
    traces (Some 9) ∷ makes 1 ∷ resumes 0 ∷ value 9 ∷ value 9 ∷ value 9 ∷ value 9
    ∷ throws 0 7 ∷ value 9 ∷ exception 8 ∷ truth true ∷ []

-- from the throw on: it is told, and arises at line 4; then the handler's line, and that it takes 8; the line of its yield, and the
-- yield
abbrev pub throwing_rows : List TraceRow
throwing_rows =
    event 4 4 ∷ log_line 4 ∷ hook 9 ∷ event 12 4 ∷ log_line 4 ∷ hook 9 ∷ event 9 5 ∷ log_line 5 ∷ event 14 5
    ∷ event 9 6 ∷ log_line 6 ∷ event 3 6 ∷ log_line 6 ∷ event 2 9 ∷ log_line 9 ∷ []

-- 1 def g():
-- 2     yield v
-- 3 g()
-- 4 s()
-- 5 n()
abbrev pub resuming : Stms
resuming =
    more (function 1 1 (codes "g") (more (yield 2) none)) (more (call 3 (codes "g")) (more (call 4 (codes "s")) (more (call 5 (codes "n")) none)))

-- g is made; the trace function 9 is set; g goes on, 9 answers 9 to the call, and tries at line 2 to have g go on
abbrev pub resuming_answers : List Cue
resuming_answers = makes 1 ∷ traces (Some 9) ∷ resumes 0 ∷ value 9 ∷ tries 0 ∷ []

-- line 2 is told to 9, which answers 8; that is the trace function from then on, and is told of the yield; then the module returns
abbrev pub resuming_rows : List TraceRow
resuming_rows =
    event 9 2 ∷ log_line 2 ∷ hook 9 ∷ event 3 2 ∷ log_line 2 ∷ hook 8 ∷ event 2 5 ∷ log_line 5 ∷ []

-- in the script `jumping`: at line 1 into the `for`, at line 6 out of the `finally` part, and so not
abbrev pub bad_jumps : List Plan
bad_jumps =
    record { line = 1; advice = jump_to 2 } ∷ record { line = 1; advice = go } ∷ record { line = 6; advice = jump_to 7 } ∷ record { line = 6; advice = go } ∷ []

-- the jumps are refused, and the debugger is asked again
abbrev pub refused_at_1 : List TraceRow
refused_at_1 = log_line 1 ∷ reply 1 ∷ refusal 2 into_block ∷ reply 1 ∷ []

abbrev pub refused_at_6 : List TraceRow
refused_at_6 = log_line 6 ∷ reply 6 ∷ refusal 7 out_of_finally ∷ reply 6 ∷ []

-- at line 2 out of the `for`
abbrev pub good_jump : List Plan
good_jump = record { line = 2; advice = jump_to 7 } ∷ []

abbrev pub one_item : List Cue
one_item = value 0 ∷ value 0 ∷ no_more ∷ []

abbrev pub pass_alone : Stms
pass_alone = more (S.pass 1) none

-- 1 def t():
-- 2     j()
-- 3 def f():
-- 4     a()
-- 5     b()
-- 6 s()
-- 7 f()
abbrev pub writing : Stms
writing =
    more (function 1 1 (codes "t") (more (call 2 (codes "j")) none))
    (more (function 3 2 (codes "f") (more (call 4 (codes "a")) (more (call 5 (codes "b")) none)))
    (more (call 6 (codes "s")) (more (call 7 (codes "f")) none)))

-- the trace function 9 answers 9 to the call of f; at line 4 it runs t, which writes 5 to the `f_lineno` of f; at line 5 it is
-- asked again
abbrev pub writing_cues : List Cue
writing_cues = traces (Some 9) ∷ runs 2 ∷ value 9 ∷ runs 1 ∷ jumps 1 5 ∷ value 9 ∷ []

-- a isn't called, and b is
abbrev pub writing_rows : List TraceRow
writing_rows =
    event 9 4 ∷ log_line 4 ∷ hook 9 ∷ event 9 5 ∷ log_line 5 ∷ hook 9 ∷ event 6 5 ∷ event 2 5 ∷ log_line 5 ∷ hook 9
    ∷ event 2 7 ∷ log_line 7 ∷ []

-- it writes to the module's `f_lineno`, which is not the frame of the event: the error leaves the trace function, f and the module
abbrev pub writing_badly : List Cue
writing_badly = traces (Some 9) ∷ runs 2 ∷ value 9 ∷ runs 1 ∷ jumps 0 7 ∷ []

abbrev pub writing_badly_rows : List TraceRow
writing_badly_rows =
    event 9 4 ∷ log_line 4 ∷ hook 9 ∷ event 5 4 ∷ log_line 4 ∷ event 12 7 ∷ log_line 7 ∷ event 5 7 ∷ log_line 7 ∷ []

-- 1 def g():
-- 2     yield v
-- 3 g()
-- 4 try:
-- 5     t()
-- 6 except:
-- 7     pass
-- 8 n()
abbrev pub throwing_early : Stms
throwing_early =
    more (function 1 1 (codes "g") (more (yield 2) none))
    (more (call 3 (codes "g"))
    (more (S.try 4 (more (call 5 (codes "t")) none) (S.handler 6 S.absent None (more (S.pass 7) none) S.no_handlers) none none)
    (more (call 8 (codes "n")) none)))

-- 7 is thrown to g, which has not started and so is finished; it doesn't go on
abbrev pub throwing_early_cues : List Cue
throwing_early_cues = makes 1 ∷ throws 0 7 ∷ tries 0 ∷ []

abbrev pub named : (line : ℕ) → Name → Exp
named l x = S.name l x

-- a `try` with a single handler of a class
abbrev pub try_except : (line : ℕ) → (body : Stms) → (handler_line : ℕ) → (class : Name) → Option Name → (handler : Stms) → Stm
try_except l body hl c x handler = S.try l body (S.handler hl (S.given (named hl c)) x handler S.no_handlers) none none

abbrev pub raise_name : (line : ℕ) → Name → Stm
raise_name l x = S.raise l (named l x) S.absent

-- 1 def f():
-- 2     raise
-- 3 try:
-- 4     raise z
-- 5 except z:
-- 6     try:
-- 7         f()
-- 8     except z:
-- 9         pass
abbrev pub raising_alone : Stms
raising_alone =
    more (function 1 1 (codes "f") (more (S.raise_again 2) none))
    (more (try_except 3 (more (raise_name 4 (codes "z")) none) 5 (codes "z") None
    (more (try_except 6 (more (call 7 (codes "f")) none) 8 (codes "z") None (more (S.pass 9) none)) none)) none)

-- 7 is raised and taken; f is called in its handler; the inner handler takes what comes of that
abbrev pub raising_alone_cues : List Cue
raising_alone_cues = exception 7 ∷ truth true ∷ runs 1 ∷ truth true ∷ []

-- from the call on: f starts, line 2, the exception goes on, it leaves f; it arrives in the module, and the handler takes it
abbrev pub raising_alone_events : List TraceRow
raising_alone_events =
    event 6 7 ∷ event 0 1 ∷ event 9 2 ∷ event 13 2 ∷ event 5 2
    ∷ event 12 7 ∷ event 9 8 ∷ event 14 8 ∷ event 9 9 ∷ event 2 9 ∷ []

--  1 s()
--  2 def f():
--  3     try:
--  4         raise v
--  5     except v:
--  6         try:
--  7             try:
--  8                 raise i
--  9             finally:
-- 10                 pass
-- 11         except k:
-- 12             p()
-- 13 f()
abbrev pub passing_finally : Stm
passing_finally = S.try 7 (more (raise_name 8 (codes "i")) none) S.no_handlers none (more (S.pass 10) none)

abbrev pub raise_held : Stms
raise_held =
    more (call 1 (codes "s"))
    (more (function 2 1 (codes "f")
    (more (try_except 3 (more (raise_name 4 (codes "v")) none) 5 (codes "v") None
    (more (try_except 6 (more passing_finally none) 11 (codes "k") None (more (call 12 (codes "p")) none)) none)) none))
    (more (call 13 (codes "f")) none))

-- 44 is a callback for RERAISE; f is called, raises 1, takes it, and raises 2; where that goes on behind the `finally` part 44
-- looks, and raises 3, which line 11 takes
abbrev pub raise_held_cues : List Cue
raise_held_cues =
    tells_tool 4 8192 44 ∷ runs 1 ∷ exception 1 ∷ truth true ∷ exception 2 ∷ looks ∷ exception 3 ∷ truth true ∷ []

-- 1 is active there, and not 2, whose `finally` part is left
abbrev pub raise_held_rows : List TraceRow
raise_held_rows =
    event 13 10 ∷ sees 44 1 ∷ event 9 11 ∷ log_line 11 ∷ event 14 11 ∷ event 9 12 ∷ log_line 12 ∷ event 6 12
    ∷ event 2 12 ∷ log_line 12 ∷ event 2 13 ∷ log_line 13 ∷ []

-- 1 s()
-- 2 e = 5
-- 3 try:
-- 4     try:
-- 5         raise v
-- 6     except v as e:
-- 7         pass
-- 8 except k:
-- 9     print(e)
abbrev pub naming_handler : Stm
naming_handler = try_except 4 (more (raise_name 5 (codes "v")) none) 6 (codes "v") (Some (codes "e")) (more (S.pass 7) none)

abbrev pub raise_at_handler : Stms
raise_at_handler =
    more (call 1 (codes "s"))
    (more (S.assign 2 (S.more_targets (S.single (S.name_at 2 (codes "e"))) S.no_targets) (S.constant 2 (Int (pos 5))))
    (more (try_except 3 (more naming_handler none) 8 (codes "k") None
    (more (S.expr 9 (S.call 9 (named 9 (codes "print")) (S.positional (named 9 (codes "e")) S.no_args))) none)) none))

-- 44 is a callback for EXCEPTION_HANDLED; 1 is raised, and where line 6 takes it 44 raises 3; line 8 takes that, 44 answers, and
-- line 9 prints
abbrev pub raise_at_handler_cues : List Cue
raise_at_handler_cues =
    tells_tool 4 16384 44 ∷ exception 1 ∷ truth true ∷ exception 3 ∷ truth true ∷ value 0 ∷ prints ∷ []

-- the handler of line 6 isn't entered: `e` is as it was, and no exception goes on there
abbrev pub raise_at_handler_rows : List TraceRow
raise_at_handler_rows =
    event 14 6 ∷ hook 44 ∷ event 9 8 ∷ log_line 8 ∷ event 14 8 ∷ hook 44 ∷ event 9 9 ∷ log_line 9 ∷ event 6 9
    ∷ printed (5 ∷ []) ∷ event 2 9 ∷ log_line 9 ∷ []

-- 1 def f():
-- 2     f()
-- 3 f()
abbrev pub calling_itself : Stms
calling_itself = more (function 1 1 (codes "f") (more (call 2 (codes "f")) none)) (more (call 3 (codes "f")) none)

-- 101 moves lead to the start of the f that f calls; 60 moves from there, where so many activations wait, and the next call runs f
-- too
abbrev pub sixty_moves : (openers : ℕ) → Trace
sixty_moves n =
    follow calling_itself 1000 60
    (with_openers n (moved calling_itself 1000 101 (from_start calling_itself (runs 1 ∷ runs 1 ∷ runs 1 ∷ []) [])))

-- f starts, line 2, the call; f starts again, line 2
abbrev pub with_room_events : List TraceRow
with_room_events = event 0 1 ∷ event 9 2 ∷ event 6 2 ∷ event 0 1 ∷ event 9 2 ∷ []

-- an exception comes to line 2 instead, and leaves f
abbrev pub too_deep_events : List TraceRow
too_deep_events = event 0 1 ∷ event 9 2 ∷ event 6 2 ∷ event 12 2 ∷ event 5 2 ∷ []
