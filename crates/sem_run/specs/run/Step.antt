-- One step of a run: the next act begins and takes a unit, or an event is told, or an act is done, or a result or the end of a
-- block is passed on (Language Reference 4.1, 4.3, 6.2.9, 6.3.4; PEP 479, PEP 626, PEP 669).
use Rattle.std.specs.Prelude.{ℕ, suc, nat_lt, List, [], ◌∷◌, ◌++◌, map, Bool, true, false, Option, Some, None, if◌then◌else◌}
use Rattle.pt_base.specs.declared.what.What.TheVariants.{Exit}
use Rattle.sem_control.specs.control.Turn as T
use Rattle.sem_control.specs.control.Turn.{Mark, Ask, Answer, seek, leave, Reply, got, raised, Delegated, Note, End, gave, left_by, Turn}
use Rattle.sem_control.specs.control.Events as E
use Rattle.sem_control.specs.control.LineEvents.{is_told}
use Rattle.sem_run.specs.run.Machine.{Machine}
use Rattle.sem_run.specs.run.Events as Told
use Rattle.sem_run.specs.run.Events.{Happening, Event}
use Rattle.sem_run.specs.run.Host as H
use Rattle.sem_run.specs.run.Host.{Host, Frame, Store, BlockResult, GeneratorResult, gives_on, Answering, Finding, Callee}
use Rattle.sem_run.specs.run.Host.{stop_iteration, Leaving, Made}
use Rattle.sem_run.specs.run.State.{Activation, OpenAsk, OpenYield, Pending, starting, doing, going, giving_on, going_on, ending}
use Rattle.sem_run.specs.run.State.{Hearing, Rest, of_ask, of_hook, Purpose, for_block, for_generator, Opener, suspended, finished}
use Rattle.sem_run.specs.run.State.{Phase, turning, telling, asking, answering, hearing, closing, State, at, is_silent, store}
use Rattle.sem_run.specs.run.State.{with_store, in_state, by_leaving}
use Rattle.sem_run.specs.run.Views.{here_of, active, visible_line, frames_of_trace}
use Rattle.sem_run.specs.run.Outcome as O
use Rattle.sem_run.specs.run.Outcome.{Output, begins, prints, gives, Ending, Step, goes, ends, is_stuck}
use Rattle.sem_run.specs.run.Requests.{with_generator, give, perform}
use Rattle.sem_run.specs.run.Hooks.{all_hooks, event_of, enter_told, raise_of_hook, ask_next, take_hook_answer}

abbrev pub first_of : {V : Type 0} → (otherwise : V) → Option (Callee V) → V
first_of v (Some c) = c.first
first_of v None = v

-- what control tells of an ask, with the act that comes next and with what is told of a call
abbrev pub happening : {V : Type 0} → (destination : ℕ) → (null : V) → Option (Callee V) → E.Event V → Happening V
happening d n c E.jumps = Told.jumps d
happening d n c E.branches = Told.branches d
happening d n c (E.calls f rs vs) = Told.calls f (first_of n c)
happening d n c (E.raises v) = Told.raises v
happening d n c (E.raises_again v) = Told.raises_again v
happening d n c (E.handled v) = Told.handled v

-- behind a call of a builtin
abbrev pub of_builtin : {V A : Type 0} → (callee : V) → Callee V → Reply V A → List (Happening V)
of_builtin f c (got u) = if c.is_builtin then Told.returns_from f c.first ∷ [] else []
of_builtin f c (raised v) = if c.is_builtin then Told.raises_from f c.first ∷ [] else []

abbrev pub of_call : {V A : Type 0} → Ask V → Option (Callee V) → Reply V A → List (Happening V)
of_call (seek (T.operate (T.call rs) (f ∷ vs))) (Some c) r = of_builtin f c r
of_call a c r = []

-- an ask that isn't an act tells only what arises
abbrev pub only_raises : {V : Type 0} → List (Happening V) → List (Happening V)
only_raises [] = []
only_raises (Told.raises v ∷ hs) = Told.raises v ∷ only_raises hs
only_raises (h ∷ hs) = only_raises hs

abbrev pub jump_line : (behind_jump : Bool) → (line : Option ℕ) → Option ℕ
jump_line true l = None
jump_line false l = l

-- the line by which the next one is told: none before the first act and behind a jump (PEP 626)
abbrev pub line_before : {S N V : Type 0} → Activation S N V → Option ℕ
line_before a = jump_line a.behind_jump a.frame.line

-- what is told of a call
abbrev pub callee_of : {N V W : Type 0} → Host N V W → Ask V → W → Option (Callee V)
callee_of host (seek (T.operate (T.call rs) (f ∷ vs))) w = Some (host.callee f rs vs w)
callee_of host a w = None

-- the exception that ended an iterator is told, if one did
abbrev pub stop_event : {V : Type 0} → Option V → List (Happening V)
stop_event (Some e) = Told.stops e ∷ []
stop_event None = []

module _ {S N V W : Type 0} (machine : Machine S V) (host : Host N V W) where
  abbrev pub destination : S → State S N V W → ℕ
  destination c s = machine.destination s.here.frame.block c

  -- where a `break` or `continue` leads
  abbrev pub leads_to : (a : Ask V) → (Reply V (Answer V a) → S) → State S N V W → ℕ
  leads_to (leave T.jumping) k s = destination (k (got tt)) s
  leads_to a k s = 0

  -- before an act: its line, and then what control tells
  abbrev pub line_event : Mark → State S N V W → List (Happening V)
  line_event m s = if is_told (line_before s.here) m then Told.line s.here.behind_jump ∷ [] else []

  abbrev pub events_before : Mark → (a : Ask V) → (Reply V (Answer V a) → S) → Option (Callee V) → State S N V W →
      List (Happening V)
  events_before m a k c s = line_event m s ++ map (happening (leads_to a k s) host.null c) (E.before a)

  -- an act takes its unit, and its frame has its line
  abbrev pub take_unit : Mark → State S N V W → State S N V W
  take_unit m s = record s {
    here = record s.here { frame = record s.here.frame { line = Some m.line }; act = m.act; behind_jump = false };
    units = suc s.units;
  }

  abbrev pub act_with : Mark → (a : Ask V) → (Reply V (Answer V a) → S) → Option (Callee V) → State S N V W → State S N V W
  act_with m a k c s =
      at (telling (events_before m a k c s) (doing (record { ask = a; next = k; is_act = true; callee = c }))) (take_unit m s)

  -- what the machine's turn begins, where n units may be taken
  abbrev pub begin_turn : (n : ℕ) → Turn S V → State S N V W → Step S N V W
  begin_turn n (T.act (Some m) a k) s =
      if nat_lt s.units n then goes (begins s.here.frame.block m ∷ []) (act_with m a k (callee_of host a s.world) s) else ends O.spent
  begin_turn n (T.act None a k) s =
      goes [] (at (telling [] (doing (record { ask = a; next = k; is_act = false; callee = None }))) s)
  begin_turn n (T.note a k) s =
      goes [] (at (telling (map (happening 0 host.null None) (E.at_note a)) (going (k (got tt)) (λ v. k (raised v)))) s)
  begin_turn n (T.move c) s = goes [] (in_state c s)
  begin_turn n (T.over (gave v)) s = goes [] (at (telling (Told.returns v ∷ []) (ending (gave v))) s)
  begin_turn n (T.over (left_by v)) s = goes [] (at (telling (Told.unwinds v ∷ []) (ending (left_by v))) s)
  begin_turn n T.stuck s = is_stuck

  abbrev pub reply_and_tell : (q : OpenAsk S V) → Reply V (Answer V q.ask) → List (Happening V) → State S N V W → State S N V W
  reply_and_tell q r hs s = at (telling hs (going (q.next r) (λ v. q.next (raised v)))) s

  abbrev pub events_behind : (q : OpenAsk S V) → Reply V (Answer V q.ask) → (stop : List (Happening V)) → State S N V W →
      List (Happening V)
  events_behind q r es s =
      of_call q.ask q.callee r ++ es ++ map (happening (destination (q.next r) s) host.null None) (E.after (active machine s) q.ask r)

  -- a reply: what is told of it, and the state that it leads to
  abbrev pub reply_to : (q : OpenAsk S V) → Reply V (Answer V q.ask) → (stop : List (Happening V)) → State S N V W → State S N V W
  reply_to q r es s = reply_and_tell q r (if q.is_act then events_behind q r es s else only_raises (events_behind q r es s)) s

  -- a value is given on, and then the ask goes on with what comes back
  abbrev pub begin_yield : OpenYield S V → V → State S N V W → State S N V W
  begin_yield y v s = at (telling (Told.yields v ∷ []) (giving_on y v)) s

  -- what the host found for an ask
  abbrev pub take_finding : (a : Ask V) → (Reply V (Answer V a) → S) → (is_act : Bool) → Option (Callee V) → Finding V a →
      State S N V W → State S N V W
  take_finding (T.next_of i) k b c (H.an_item v) s =
      reply_to (record { ask = T.next_of i; next = k; is_act = b; callee = c }) (got (Some v)) [] s
  take_finding (T.next_of i) k b c (H.no_item e) s =
      reply_to (record { ask = T.next_of i; next = k; is_act = b; callee = c }) (got None) (stop_event e) s
  take_finding (T.delegate i r) k b c (H.passes_on v) s =
      begin_yield (record { ask = record { ask = T.delegate i r; next = k; is_act = b; callee = c }; reply = λ q. got (T.resumed q) }) v s
  take_finding (T.delegate i r) k b c (H.ends_with v) s =
      reply_to (record { ask = T.delegate i r; next = k; is_act = b; callee = c }) (got (T.returned v)) [] s
  take_finding (T.seek a) k b c v s = reply_to (record { ask = T.seek a; next = k; is_act = b; callee = c }) (got v) [] s
  take_finding (T.deed a) k b c v s = reply_to (record { ask = T.deed a; next = k; is_act = b; callee = c }) (got v) [] s
  take_finding (T.leave a) k b c v s = reply_to (record { ask = T.leave a; next = k; is_act = b; callee = c }) (got v) [] s
  take_finding (T.throw a) k b c v s = reply_to (record { ask = T.throw a; next = k; is_act = b; callee = c }) (got v) [] s
  take_finding (T.test a) k b c v s = reply_to (record { ask = T.test a; next = k; is_act = b; callee = c }) (got v) [] s
  take_finding (T.iter_of a) k b c v s = reply_to (record { ask = T.iter_of a; next = k; is_act = b; callee = c }) (got v) [] s
  take_finding (T.enter a) k b c v s = reply_to (record { ask = T.enter a; next = k; is_act = b; callee = c }) (got v) [] s
  take_finding (T.unpack a n t) k b c v s =
      reply_to (record { ask = T.unpack a n t; next = k; is_act = b; callee = c }) (got v) [] s

  -- the host's answer to an ask goes on
  abbrev pub take_answer : (q : OpenAsk S V) → Answering N V W (Finding V q.ask) → State S N V W → Step S N V W
  take_answer q (H.answer r st) s = goes [] (take_finding q.ask q.next q.is_act q.callee r (with_store st s))
  take_answer q (H.raise v st) s = goes [] (reply_to q (raised v) [] (with_store st s))
  take_answer q (H.print x f) s = goes (prints x ∷ []) (at (answering q f) s)
  take_answer q (H.leave what) s = ends (O.outside what (visible_line host.first_line s))
  take_answer q (H.request r st f) s = goes [] (perform machine host r (of_ask q f) (with_store st s))

  -- so does a hook's
  abbrev pub take_hearing : Hearing S V → Answering N V W V → State S N V W → Step S N V W
  take_hearing h (H.answer v st) s = goes [] (take_hook_answer machine host h.hook v h (with_store st s))
  take_hearing h (H.raise v st) s = goes [] (raise_of_hook machine host h v (with_store st s))
  take_hearing h (H.print x f) s = goes (prints x ∷ []) (at (hearing h f) s)
  take_hearing h (H.leave what) s = ends (O.outside what (visible_line host.first_line s))
  take_hearing h (H.request r st f) s = goes [] (perform machine host r (of_hook h f) (with_store st s))

  -- an ask is done: a `yield` gives its value on, and the host answers the others
  abbrev pub ask_host : OpenAsk S V → State S N V W → State S N V W
  ask_host q s = at (answering q (host.answers q.ask (here_of machine s) (store s))) s

  abbrev pub do_ask : (a : Ask V) → (Reply V (Answer V a) → S) → (is_act : Bool) → Option (Callee V) → State S N V W → State S N V W
  do_ask (seek (T.yielding v)) k b c s =
      begin_yield (record { ask = record { ask = seek (T.yielding v); next = k; is_act = b; callee = c }; reply = λ r. r }) v s
  do_ask a k b c s = ask_host (record { ask = a; next = k; is_act = b; callee = c }) s

  -- what an activation leaves behind: its frame with the names as they are then, and the one that waited for it
  abbrev pub return_to : Opener S N V W → List (Opener S N V W) → State S N V W → State S N V W
  return_to o os s = record s { here = o.activation; openers = os }

  abbrev pub frame_left : State S N V W → Frame N V
  frame_left s = record s.here.frame { names = host.names_left s.here.frame.names s.world }

  abbrev pub close_frame : State S N V W → State S N V W
  close_frame s = record s { past = frame_left s ∷ s.past }

  -- a value that is given on closes the activation into its generator, with all that it has; outside of one the ask goes on with
  -- None
  abbrev pub go_on_alone : OpenYield S V → State S N V W → State S N V W
  go_on_alone y s = reply_to y.ask (y.reply (got host.null)) [] s

  abbrev pub give_on_for : Purpose S N V W → Opener S N V W → List (Opener S N V W) → OpenYield S V → V → State S N V W →
      State S N V W
  give_on_for (for_generator g r) o os y v s =
      give machine host r (gives_on v) (return_to o os (with_generator g (suspended s.here y) s))
  give_on_for (for_block r) o os y v s = go_on_alone y s

  abbrev pub give_on : List (Opener S N V W) → OpenYield S V → V → State S N V W → State S N V W
  give_on (o ∷ os) y v s = give_on_for o.purpose o os y v s
  give_on [] y v s = go_on_alone y s

  -- the result of a block goes to what waits for it; a generator is finished then, and a StopIteration that leaves it becomes a
  -- RuntimeError (PEP 479)
  abbrev pub finish_by : (generator : ℕ) → Rest S N V W (GeneratorResult V) → End V → Opener S N V W → List (Opener S N V W) →
      State S N V W → State S N V W
  finish_by g r e o os s = give machine host r (H.ends_by e) (return_to o os (close_frame (with_generator g finished s)))

  abbrev pub finish_by_stop : (generator : ℕ) → Rest S N V W (GeneratorResult V) → Made V W → Opener S N V W →
      List (Opener S N V W) →
      State S N V W → State S N V W
  finish_by_stop g r (H.made v w) o os s = finish_by g r (left_by v) o os (record s { world = w })
  finish_by_stop g r (H.beyond what) o os s = at (by_leaving r what) (return_to o os s)

  abbrev pub pass_result : Purpose S N V W → End V → Opener S N V W → List (Opener S N V W) → State S N V W → State S N V W
  pass_result (for_block r) e o os s =
      give machine host r (record { end = e; names = s.here.frame.names }) (return_to o os (close_frame s))
  pass_result (for_generator g r) (gave v) o os s = finish_by g r (gave v) o os s
  pass_result (for_generator g r) (left_by v) o os s =
      if host.is_stop v s.world then finish_by_stop g r (host.makes (stop_iteration v) (here_of machine s) s.world) o os s else finish_by g r (left_by v) o os s

  abbrev pub end_by_exception : V → Leaving → State S N V W → Ending N V W
  end_by_exception v (H.exits n x) s = O.exited n x
  end_by_exception v H.exits_oddly s = O.outside Exit (visible_line host.first_line s)
  end_by_exception v (H.fails es) s = O.raised v (record { frames = frames_of_trace host.first_line es s; world = s.world })

  abbrev pub end_of_module : End V → State S N V W → Ending N V W
  end_of_module (gave v) s = O.done
  end_of_module (left_by v) s = end_by_exception v (host.leaving v s.world) s

  abbrev pub close : End V → List (Opener S N V W) → State S N V W → Step S N V W
  close e [] s = ends (end_of_module e (close_frame s))
  close e (o ∷ os) s = goes [] (pass_result o.purpose e o os s)

  -- an ask that gave a value on goes on with what comes back: an exception that was thrown arises there, unless the iterator of a
  -- delegation gets it
  abbrev pub arise_by : {A : Type 0} → Reply V A → State S N V W → State S N V W
  arise_by (raised v) s = record s { world = host.arises v (here_of machine s) s.world }
  arise_by (got u) s = s

  abbrev pub reply_to_yield : OpenYield S V → Reply V V → State S N V W → State S N V W
  reply_to_yield y r s = reply_to y.ask (y.reply r) [] (arise_by (y.reply r) s)

  -- what waited goes on
  abbrev pub proceed : Pending S V → State S N V W → State S N V W
  proceed (starting c) s = at turning (in_state c s)
  proceed (doing q) s = do_ask q.ask q.next q.is_act q.callee s
  proceed (going to f) s = at turning (in_state to s)
  proceed (giving_on y v) s = give_on s.openers y v s
  proceed (going_on y r) s = reply_to_yield y r s
  proceed (ending e) s = at (closing e) s

  abbrev pub first_event : Happening V → List (Happening V) → Pending S V → State S N V W → Step S N V W
  first_event h hs p s =
      goes (gives (event_of machine host h s) ∷ [])
      (at (asking (record { event = event_of machine host h s; hooks = all_hooks; behind = hs; pending = p })) s)

  -- a hidden block tells nothing, and nothing is told while a hook runs
  abbrev pub tell_first : Happening V → List (Happening V) → Pending S V → State S N V W → Step S N V W
  tell_first h hs p s = if is_silent s then goes [] (at (telling hs p) s) else first_event h hs p s

  abbrev pub tell : List (Happening V) → Pending S V → State S N V W → Step S N V W
  tell [] p s = goes [] (proceed p s)
  tell (h ∷ hs) p s = tell_first h hs p (enter_told machine host h s)

  abbrev pub by_phase : (n : ℕ) → Phase S N V W → State S N V W → Step S N V W
  by_phase n turning s = begin_turn n (machine.turn s.here.frame.block s.here.state) s
  by_phase n (telling hs p) s = tell hs p s
  by_phase n (asking t) s = ask_next machine host t.hooks t s
  by_phase n (answering q a) s = take_answer q a s
  by_phase n (hearing h a) s = take_hearing h a s
  by_phase n (closing e) s = close e s.openers s

  -- a step of a run that may take n units
  abbrev pub step : (n : ℕ) → State S N V W → Step S N V W
  step n s = by_phase n s.phase s
