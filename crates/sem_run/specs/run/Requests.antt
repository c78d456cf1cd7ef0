-- What a run does at a host's request: blocks run and generators go on (Language Reference 6.2.9, 6.3.4), and the calls of `sys`
-- and of frames are done (Library Reference, sys).
use Rattle.std.specs.Prelude.{ℕ, ◌+◌, ◌==◌, ◌&&◌, ℤ, pos, negsuc, List, [], ◌∷◌, ◌++◌, length, Bool, true, false, Option, Some}
use Rattle.std.specs.Prelude.{None}
use Rattle.std.specs.Prelude.{if◌then◌else◌}
use Rattle.sem_control.specs.control.Turn as T
use Rattle.sem_control.specs.control.Turn.{Reply, got, End, left_by}
use Rattle.sem_run.specs.run.Machine as M
use Rattle.sem_run.specs.run.Machine.{Machine, Reason, not_at_line, not_newest, no_statement, Jump}
use Rattle.sem_run.specs.run.Events.{Happening, starts, resumes, throws, is_line}
use Rattle.sem_run.specs.run.Rows.{row_at, put_at}
use Rattle.sem_run.specs.run.Tools as Tool
use Rattle.sem_run.specs.run.Host as H
use Rattle.sem_run.specs.run.Host.{Host, Hook, Store, Opening, BlockResult, How, by_next, by_send, by_throw, by_close, GeneratorResult}
use Rattle.sem_run.specs.run.Host.{Made, made, beyond}
use Rattle.sem_run.specs.run.Host.{ends_by, cannot, throws_back, nothing_to_close, is_running, is_fresh, is_finished, Request, Response, Failure, too_deep}
use Rattle.sem_run.specs.run.Host.{generator_exit}
use Rattle.sem_run.specs.run.State.{Activation, OpenYield, Pending, starting, going, going_on, Hearing, Rest, of_ask, of_hook, Purpose}
use Rattle.sem_run.specs.run.State.{for_block, for_generator, Opener, Generator, fresh, suspended, running, finished, Phase, telling}
use Rattle.sem_run.specs.run.State.{State, at, by_rest, by_leaving, is_full, store, begin}
use Rattle.sem_run.specs.run.Views.{here_of, frame_numbered, visible_numbers, new_names, new_trace, new_lines, change_frame}

abbrev pub is_tracer : Hook → Bool
is_tracer H.tracer = true
is_tracer h = false

abbrev pub line_number : ℤ → Option ℕ
line_number (pos l) = Some l
line_number (negsuc n) = None

-- the activations that wait, one of which a jump changes, or why none
pub data JumpBelow (S N V W : Type 0) : Type 0 where
  cannot_jump : Reason → JumpBelow S N V W
  changes : List (Opener S N V W) → JumpBelow S N V W

-- another state of a generator
abbrev pub with_generator : {S N V W : Type 0} → (generator : ℕ) → Generator S N V → State S N V W → State S N V W
with_generator g x s = record s { generators = put_at g x s.generators }

module _ {S N V W : Type 0} (machine : Machine S V) (host : Host N V W) where
  -- what a request gives goes to the rest of the answer
  abbrev pub give : {G : Type 0} → Rest S N V W G → G → State S N V W → State S N V W
  give r g s = at (by_rest r g (store s)) s

  abbrev pub in_world : W → State S N V W → State S N V W
  in_world w s = record s { world = w }

  -- an activation opens above the newest one
  abbrev pub open_above : Activation S N V → Phase S N V W → Purpose S N V W → State S N V W → State S N V W
  open_above a p u s = record s { here = a; phase = p; openers = record { activation = s.here; purpose = u } ∷ s.openers }

  -- in place of one too many there is a RecursionError
  abbrev pub fail_opening : {G : Type 0} → Rest S N V W G → (V → G) → Made V W → State S N V W → State S N V W
  fail_opening r f (made v w) s = give r (f v) (in_world w s)
  fail_opening r f (beyond what) s = at (by_leaving r what) s

  abbrev pub run_block : Opening N V → Rest S N V W (BlockResult N V) → State S N V W → State S N V W
  run_block o r s =
      if is_full s then fail_opening r (λ v. record { end = left_by v; names = o.names }) (host.makes too_deep (here_of machine s) s.world) s
      else open_above (begin machine o s.frames false) (telling (starts ∷ []) (starting (machine.start o.block o.iterator))) (for_block r) (record s { frames = s.frames + 1 })

  abbrev pub make_generator : Opening N V → Rest S N V W ℕ → State S N V W → State S N V W
  make_generator o r s =
      give r (length s.generators) (record s { generators = s.generators ++ fresh (begin machine o s.frames true) ∷ []; frames = s.frames + 1 })

  -- a generator's activation opens, and something is told of that
  abbrev pub wake : (generator : ℕ) → Activation S N V → Happening V → Pending S V → Rest S N V W (GeneratorResult V) →
      State S N V W → State S N V W
  wake g a h p r s =
      if is_full s then fail_opening r (λ v. ends_by (left_by v)) (host.makes too_deep (here_of machine s) s.world) s
      else open_above a (telling (h ∷ []) p) (for_generator g r) (with_generator g running s)

  -- a fresh one starts with `next`, or where None is sent to it
  abbrev pub send_early : Option V → (generator : ℕ) → Activation S N V → Rest S N V W (GeneratorResult V) → State S N V W →
      State S N V W
  send_early None g a r s = wake g a starts (starting a.state) r s
  send_early (Some v) g a r s = give r (cannot is_fresh) s

  abbrev pub throw_exit : (generator : ℕ) → Activation S N V → OpenYield S V → Rest S N V W (GeneratorResult V) → Made V W →
      State S N V W → State S N V W
  throw_exit g a y r (made v w) s = wake g a (throws v) (going_on y (T.raised v)) r (in_world w s)
  throw_exit g a y r (beyond what) s = at (by_leaving r what) s

  -- how a generator goes on by its state (6.2.9); only `throw` and `close` finish one that has not started, and go no further
  abbrev pub resume_by : Option (Generator S N V) → How V → (generator : ℕ) → Rest S N V W (GeneratorResult V) → State S N V W →
      State S N V W
  resume_by (Some (fresh a)) by_next g r s = wake g a starts (starting a.state) r s
  resume_by (Some (fresh a)) (by_send v) g r s = send_early (host.unless_null v) g a r s
  resume_by (Some (fresh a)) (by_throw v) g r s = give r (throws_back v) (with_generator g finished s)
  resume_by (Some (fresh a)) by_close g r s = give r nothing_to_close (with_generator g finished s)
  resume_by (Some (suspended a y)) by_next g r s = wake g a resumes (going_on y (got host.null)) r s
  resume_by (Some (suspended a y)) (by_send v) g r s = wake g a resumes (going_on y (got v)) r s
  resume_by (Some (suspended a y)) (by_throw v) g r s = wake g a (throws v) (going_on y (T.raised v)) r s
  resume_by (Some (suspended a y)) by_close g r s = throw_exit g a y r (host.makes generator_exit (here_of machine s) s.world) s
  resume_by (Some running) h g r s = give r (cannot is_running) s
  resume_by (Some finished) (by_throw v) g r s = give r (throws_back v) s
  resume_by (Some finished) by_close g r s = give r nothing_to_close s
  resume_by (Some finished) h g r s = give r (cannot is_finished) s
  resume_by None h g r s = give r (cannot is_finished) s

  -- a trace function's jump: the frame at whose line event it was asked is in another state, what else was to be told there
  -- isn't, and the frame goes on from there
  abbrev pub land_hearing : (onward : S) → (instead : V → S) → Hearing S V → Hearing S V
  land_hearing c f h = record h { telling = record h.telling { behind = []; pending = going c f } }

  abbrev pub land_in : (to : S) → (line : ℕ) → Activation S N V → Activation S N V
  land_in to l a = record a { frame = record a.frame { line = Some l }; state = to; behind_jump = true }

  abbrev pub land_here : (to : S) → (line : ℕ) → State S N V W → State S N V W
  land_here to l s = record s { here = land_in to l s.here }

  abbrev pub land_rest : {G : Type 0} → (onward : S) → (instead : V → S) → Rest S N V W G → Rest S N V W G
  land_rest c f (of_ask q k) = of_ask q k
  land_rest c f (of_hook h k) = of_hook (land_hearing c f h) k

  abbrev pub land_purpose : (onward : S) → (instead : V → S) → Purpose S N V W → Purpose S N V W
  land_purpose c f (for_block r) = for_block (land_rest c f r)
  land_purpose c f (for_generator g r) = for_generator g (land_rest c f r)

  -- a hook that an activation waits for
  abbrev pub hook_of_rest : {G : Type 0} → Rest S N V W G → Option (Hearing S V)
  hook_of_rest (of_ask q k) = None
  hook_of_rest (of_hook h k) = Some h

  abbrev pub hook_of : Purpose S N V W → Option (Hearing S V)
  hook_of (for_block r) = hook_of_rest r
  hook_of (for_generator g r) = hook_of_rest r

  abbrev pub behind_one : Opener S N V W → JumpBelow S N V W → JumpBelow S N V W
  behind_one o (changes os) = changes (o ∷ os)
  behind_one o (cannot_jump r) = cannot_jump r

  abbrev pub by_jump : (line : ℕ) → Opener S N V W → List (Opener S N V W) → Jump S V → JumpBelow S N V W
  by_jump l o os (M.refuses r) = cannot_jump r
  by_jump l o os (M.lands to c f) =
      changes (record { activation = land_in to l o.activation; purpose = land_purpose c f o.purpose } ∷ os)

  abbrev pub to_line : Option ℕ → Opener S N V W → List (Opener S N V W) → JumpBelow S N V W
  to_line (Some l) o os = by_jump l o os (machine.jump o.activation.frame.block o.activation.state l)
  to_line None o os = cannot_jump no_statement

  -- the trace function, at a line event, in the frame of that event
  abbrev pub from_hook : (frame : ℕ) → ℤ → Hearing S V → Opener S N V W → List (Opener S N V W) → JumpBelow S N V W
  from_hook k l h o os =
      if is_tracer h.hook && is_line h.telling.event.what
      then (if o.activation.frame.number == k then to_line (line_number l) o os else cannot_jump not_newest)
      else cannot_jump not_at_line

  abbrev pub by_hook : Option (Hearing S V) → (frame : ℕ) → ℤ → Opener S N V W → List (Opener S N V W) →
      (otherwise : JumpBelow S N V W) → JumpBelow S N V W
  by_hook (Some h) k l o os j = from_hook k l h o os
  by_hook None k l o os j = j

  abbrev pub jump_below : (frame : ℕ) → ℤ → List (Opener S N V W) → JumpBelow S N V W
  jump_below k l [] = cannot_jump not_at_line
  jump_below k l (o ∷ os) = by_hook (hook_of o.purpose) k l o os (behind_one o (jump_below k l os))

  abbrev pub write_line : Rest S N V W (Option Reason) → JumpBelow S N V W → State S N V W → State S N V W
  write_line r (changes os) s = give r None (record s { openers = os })
  write_line r (cannot_jump e) s = give r (Some e) s

  abbrev pub call_tools : Rest S N V W (Tool.ToolAnswer V) → Tool.ToolResult V → State S N V W → State S N V W
  call_tools r c s = give r c.0 (record s { tools = c.1 })

  -- the state of the run behind a request, whose rest waits
  abbrev pub perform : (q : Request N V) → Rest S N V W (Response N V q) → State S N V W → State S N V W
  perform (H.opens o) r s = run_block o r s
  perform (H.makes o) r s = make_generator o r s
  perform (H.resumes g h) r s = resume_by (row_at g s.generators) h g r s
  perform (H.gives_trace f) r s = give r tt (record s { trace = f })
  perform H.trace r s = give r s.trace s
  perform (H.calls_tools c) r s = call_tools r (Tool.tool_call c s.tools) s
  perform H.frames r s = give r (visible_numbers s) s
  perform (H.frame k) r s = give r (frame_numbered host.first_line k s) s
  perform (H.gives_frame_names k n) r s = give r tt (change_frame k (new_names n) s)
  perform (H.gives_frame_trace k f) r s = give r tt (change_frame k (new_trace f) s)
  perform (H.gives_frame_lines k b) r s = give r tt (change_frame k (new_lines b) s)
  perform (H.jumps_to k l) r s = write_line r (jump_below k l s.openers) s
