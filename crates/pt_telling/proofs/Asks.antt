-- Those whom the machine asks at an event a run asks by steps.
use Rattle.std.proofs.Common.{◌≡◌, ◌∙◌, ℕ, List, [], ◌∷◌, ◌++◌, map, Bool, true, false, ◌&&◌, Option, Some, None, refl, sym, ap, subst, append-nil}
use Rattle.std.specs.Prelude.{if◌then◌else◌, pos}
use Rattle.pt_base.specs.declared.numbers.BlockId.{BlockId}
use Rattle.pt_heap.specs.declared.value.Value.{Value}
use Rattle.sem_run.specs.run.Machine.{Machine}
use Rattle.sem_run.specs.run.Events.{Event, TraceKind, trace_kind, is_for_debugger}
use Rattle.sem_run.specs.run.Host as H
use Rattle.sem_run.specs.run.Host.{Host, Hook}
use Rattle.sem_run.specs.run.State as run
use Rattle.sem_run.specs.run.State.{State, at}
use Rattle.sem_run.specs.run.Outcome as O
use Rattle.sem_run.specs.run.Outcome.{Output, Question, about}
use Rattle.sem_run.specs.run.Hooks.{log_of}
use Rattle.sem_run.specs.run.Run.{writes, Write, write, to_out, to_log}
use Rattle.sem_steps.specs.Steps.{Steps, minded}
use Rattle.sem_steps.specs.Asking as steps
use Rattle.sem_steps.specs.Asking.{asked, behind_log, if_minded, if_due, due_in}
use Rattle.sem_steps.specs.Laws.{ComesTo, asked_of, with_hooks, asking_these, heard, calling}
use Rattle.sem_steps.proofs.Moves.{join}
use Rattle.sem_steps.proofs.InOrder.{asks_in_order}
use Rattle.pt_tracing.specs.pt_purposes.sem_rows.pt_host.World.{Names, World, Program}
use Rattle.pt_tracing.specs.pt_purposes.sem_rows.pt_host.HeapHost.{heap_host}
use Rattle.pt_tracing.specs.pt_purposes.sem_rows.pt_host.LogLines.{log_text, kind_word, class_behind}
use Rattle.pt_settrace.specs.Tracing.{Tracing, function_in, lines_in}
use Rattle.pt_settrace.specs.Laws.{IsKept}
use Rattle.pt_happenings.specs.declared.event.Event.{Event as Told}
use Rattle.pt_happenings.specs.Views.{happening_view, event_view}
use Rattle.pt_pendings.specs.declared.telling.Left.{Left}
use Rattle.pt_pendings.specs.declared.telling.Telling.{Telling}
use Rattle.pt_pendings.specs.Stands.{IsTold}
use Rattle.pt_pendings.specs.Views.{left_view}
use Rattle.pt_asking.specs.declared.asked.Asked.{Asked}
use Rattle.pt_asking.specs.declared.asked.Next.{Next}
use Rattle.pt_asking.specs.declared.asked.Next.TheVariants.{Nobody, Consulted, Called}
use Rattle.pt_asking.specs.Due.{due_by}
use Rattle.pt_asking.specs.Asking.{asked_view, next_view, question_view, hook_view}
use Rattle.pt_asking.specs.Laws.{AreHooksOf}
use Rattle.pt_asking.proofs.Alike.{asks_as_run as asks-alike}
use Rattle.pt_tracing.specs.pt_machine_state.declared.blocks.BlockCode.{BlockCode}
use Rattle.pt_tracing.specs.pt_machine_state.Writing.{event_line}
use Rattle.pt_tracing.specs.pt_purposes.declared.standing.Standing.{Standing}
use Rattle.pt_tracing.specs.pt_purposes.declared.standing.Standing.TheVariants.{AtPlace}
use Rattle.pt_tracing.specs.pt_purposes.Seen.{block_of, frame_of}
use Rattle.pt_tracing.specs.pt_purposes.Openers.{Ways, IsEventIn, UnlessGone, standpoint}
use Rattle.pt_tracing.specs.pt_run_state.declared.machine.Machine.{Machine as Held}
use Rattle.pt_tracing.specs.pt_run_state.declared.machine.Phase.{Phase}
use Rattle.pt_tracing.specs.pt_run_state.declared.machine.Phase.TheVariants.{Turning, Telling as Tells}
use Rattle.pt_tracing.specs.pt_run_state.declared.machine.Waiting.{Waiting}
use Rattle.pt_tracing.specs.pt_run_state.Stands as stands
use Rattle.pt_tracing.specs.pt_run_state.Stands.{newest, Stands, StandsAround, IsPhase, IsToTell}
use Rattle.pt_telling.specs.Telling as telling
use Rattle.pt_telling.specs.Telling.{is_silent, told}
use Rattle.pt_telling.specs.Asks.{FoundSo, IsNext, lines_of_kind, event_lines, leaving, waiting_of, beyond, told_behind, found_by}
use Rattle.pt_telling.specs.Laws as laws
use Rattle.pt_telling.specs.Laws.{IsNamed, Comes, BehindTold, BehindAsked, AsksAsRun}
use Rattle.pt_telling.proofs.Tells.{tells}

-- what is written of several steps
pub writes-append : (b : Bool) (os ps : List (Output Value))
    → writes b (os ++ ps) ≡ writes b os ++ writes b ps
writes-append b [] ps = refl
writes-append b (O.prints x ∷ os) ps = ap (λ ws. write to_out x ∷ ws) (writes-append b os ps)
writes-append true (O.logs x ∷ os) ps = ap (λ ws. write to_log x ∷ ws) (writes-append true os ps)
writes-append false (O.logs x ∷ os) ps = writes-append false os ps
writes-append b (O.replies x ∷ os) ps = ap (λ ws. write to_log x ∷ ws) (writes-append b os ps)
writes-append b (O.begins c m ∷ os) ps = writes-append b os ps
writes-append b (O.gives e ∷ os) ps = writes-append b os ps
writes-append b (O.refuses l r ∷ os) ps = writes-append b os ps

append-none : (os ws : List Write) → os ≡ [] → ws ++ os ≡ ws
append-none os ws e = ap (λ vs. ws ++ vs) e ∙ append-nil ws

-- a debugger is asked at this event alone
module _ (minds : Event Value → Bool) (lines : List (Output Value)) (due : Hook → Option Value)
    (e : Event Value) where
  abbrev by_one : List Hook → steps.Asked Value
  by_one hs = asked (minded (λ x. minds e)) lines due e hs

  abbrev by_all : List Hook → steps.Asked Value
  by_all hs = asked (minded minds) lines due e hs

  minded-alike : (hs : List Hook) → by_one hs ≡ by_all hs
  minded-alike [] = refl
  minded-alike (H.log ∷ hs) = ap (λ a. behind_log lines a) (minded-alike hs)
  minded-alike (H.debugger ∷ hs) =
      ap (λ a. if_minded (is_for_debugger e.what && minds e) (about e) hs a) (minded-alike hs)
  minded-alike (H.landing l ∷ hs) = refl
  minded-alike (H.refusal r ∷ hs) = refl
  minded-alike (H.tool k ∷ hs) = ap (λ a. if_due (due (H.tool k)) (H.tool k) hs a) (minded-alike hs)
  minded-alike (H.tracer ∷ hs) = ap (λ a. if_due (due H.tracer) H.tracer hs a) (minded-alike hs)

-- the log's lines for an event
module _ (program : Program) (block : BlockCode) (e : Told) (w : World)
    (named : block.name ≡ (program.facts (event_view e).block).name) where
  abbrev line_by : Option TraceKind → List ℕ → List Write
  line_by k name = write to_log (log_text k name (event_view e) w) ∷ []

  by-kind : (k : Option TraceKind) → trace_kind (event_view e).what ≡ k
      → writes true (log_of (heap_host program) k (event_view e) w) ≡ lines_of_kind k block e w.heap
  by-kind (Some k) is =
      ap (λ o. line_by o (program.facts (event_view e).block).name) is
      ∙ ap (λ name. line_by (Some k) name) (sym named)
  by-kind None is = refl

  pub logged-lines : writes true (log_of (heap_host program) (trace_kind (event_view e).what) (event_view e) w)
      ≡ event_lines block e w.heap
  logged-lines = by-kind (trace_kind (event_view e).what) refl

module _ {S : Type 0} (program : Program) (machine : Machine S Value) (ways : Ways S)
    (minds : Event Value → Bool) (n : ℕ) (m : Held) (standing : Standing) (active : Option Value)
    (t : Telling) (s : State S Names Value World)
    (is : Stands program machine ways m s) (telling_now : m.phase ≡ Tells standing active t)
    (block : BlockCode) (named : IsNamed program (block_of m.code.here) block) where
  abbrev Run : Type 0
  Run = State S Names Value World

  abbrev host : Host Names Value World
  host = heap_host program

  abbrev Go : Run → List (Output Value) → Run → Type 0
  Go = Steps machine host (minded minds) n

  -- what is told in the run
  record Now (z : Standing) (u : Telling) : Type 0 where
    pub told : run.Telling S Value
    pub phase : s.phase ≡ run.asking told
    pub event : IsEventIn m.code.here u.event
    pub so : IsTold machine (standpoint ways s.here.state z m.code.here) u told
    pub stands : UnlessGone u.pending z (s.here.state ≡ ways.position z m.code.here)

  abbrev Tells_now : Phase → Type 0
  Tells_now (Turning z) = Unit {0}
  Tells_now (Tells z o u) = Now z u

  now-in : (p : Phase) (q : run.Phase S Names Value World) → s.phase ≡ q
      → IsPhase program machine ways m.hooks m.code.here s.here.state p q → Tells_now p
  now-in _ _ e (stands.turning st c) = tt
  now-in _ _ e (stands.telling st a u x event so un) =
      record { told = x; phase = e; event = event; so = so; stands = un }

  now : Now standing t
  now = subst Tells_now telling_now (now-in m.phase s.phase refl is.phase)

  abbrev e : Event Value
  e = event_view t.event

  abbrev x : run.Telling S Value
  x = now.told

  active-is : machine.active s.here.state ≡ active
  active-is = is.active ∙ ap (λ p. stands.active_in p m.code.here.slots) telling_now

  in-place : at (run.asking x) s ≡ s
  in-place = ap (λ p. at p s) (sym now.phase)

  kept : IsKept m.hooks s.here.frame
  kept = record {
    function = ap (λ f. f.trace) is.around.here.frame ∙ ap (λ f. function_in f.number m.hooks) (sym is.around.here.frame);
    lines = ap (λ f. f.traces_lines) is.around.here.frame ∙ ap (λ f. lines_in f.number m.hooks) (sym is.around.here.frame);
  }

  hooks-of : AreHooksOf m.hooks m.tools s
  hooks-of = record { global = is.around.trace; frame = kept; tools = is.around.tools }

  event-here : e.frame ≡ s.here.frame.number
  event-here = ap (λ k. k.0) now.event.frame ∙ ap (λ f. f.number) (sym is.around.here.frame)

  abbrev lines : List (Output Value)
  lines = log_of host (trace_kind e.what) e s.world

  asked-so : (a : Asked) → IsNext (minds e) m t a
      → asked_view lines e a ≡ asked_of machine host (minded minds) n x.hooks x s
  asked-so a next =
      next lines
      ∙ minded-alike minds lines (due_by m.hooks m.tools e) e (left_view t.left)
      ∙ asks-alike machine host (minded minds) m.hooks m.tools s hooks-of e event-here lines (left_view t.left)
      ∙ ap (λ hs. asked (minded minds) lines (due_in machine host e s) e hs) (sym now.so.hooks)
      ∙ ap (λ u. asked (minded minds) (log_of host (trace_kind u.what) u s.world) (due_in machine host u s) u x.hooks) (sym now.so.event)

  abbrev Comes_to : steps.Asked Value → Type 0
  Comes_to a = ComesTo machine host (minded minds) n a.next a.outputs x s

  comes : (a : Asked) → IsNext (minds e) m t a → Comes_to (asked_view lines e a)
  comes a next =
      subst Comes_to (sym (asked-so a next)) (asks_in_order machine host (minded minds) n x s)

  -- the machine keeps what is around
  around-in : (p : Phase) (q : run.Phase S Names Value World)
      → StandsAround program machine ways (record m { phase = p }) (at q s)
  around-in p q = record {
    at_place = is.around.at_place;
    here = is.around.here;
    openers = is.around.openers;
    generators = is.around.generators;
    world = is.around.world;
    trace = is.around.trace;
    tools = is.around.tools;
    units = is.around.units;
    frames = is.around.frames;
    numbers = is.around.numbers;
    untraced = is.around.untraced;
  }

  -- with others left to be asked the machine stands where these are left
  left-stands : (left : Left)
      → Stands program machine ways (leaving left standing active t m)
      (asking_these machine host (minded minds) n (left_view left) x s)
  left-stands left = record {
    around = around-in (Tells standing active (record t { left = left })) (run.asking (with_hooks machine host (minded minds) n (left_view left) x));
    active = active-is;
    phase = stands.telling standing active (record t { left = left })
        (with_hooks machine host (minded minds) n (left_view left) x) now.event
        (record {
          event = now.so.event;
          hooks = refl;
          behind = now.so.behind;
          pending = now.so.pending;
        }) now.stands;
  }

  abbrev To : List (Output Value) → FoundSo → Type 0
  To os f = (z : Run) × (Comes program machine ways minds n s (writes true os) z × BehindAsked program machine ways minds n z f)

  behind-told : (w : Waiting) (z : Run) (r : telling.Told)
      → BehindTold program machine ways minds n w z r
      → BehindAsked program machine ways minds n z (beyond w r)
  behind-told w z _ (laws.event m2 st) = laws.event m2 st
  behind-told w z _ (laws.onward m2 st) = laws.onward m2 w st

  abbrev w : Waiting
  w = waiting_of standing active t

  abbrev m1 : Held
  m1 = record m { phase = Turning AtPlace }

  abbrev s1 : Run
  s1 = at (run.telling x.behind x.pending) s

  to-tell : IsToTell program machine ways m1 w t.behind s1
  to-tell = record {
    around = around-in (Turning AtPlace) (run.telling x.behind x.pending);
    active = active-is;
    pending = x.pending;
    phase = ap (λ hs. run.telling hs x.pending) now.so.behind;
    waits = now.so.pending;
    stands = now.stands;
  }

  by-next : (next : Next) (os : List (Output Value))
      → ComesTo machine host (minded minds) n (next_view e next) os x s
      → To os (found_by block next standing active t m)
  by-next Nobody os go =
      let to = tells program machine ways minds n w block t.behind m1 s1 to-tell (is_silent m1) refl named in (
        to.0,
        (
          record {
            outputs = os ++ to.1.0.outputs;
            steps = join machine host (minded minds) n s s1 to.0 os to.1.0.outputs (subst (λ u. Go u os s1) in-place go) to.1.0.steps;
            written = writes-append true os to.1.0.outputs ∙ append-none (writes true to.1.0.outputs) (writes true os) to.1.0.written;
          },
          behind-told w to.0 (told block w t.behind m1) to.1.1,
        ),
      )
  by-next (Consulted q left) os go =
      let z = asking_these machine host (minded minds) n go.0 x s in (
        z,
        (
          record { outputs = os; steps = subst (λ u. Go u os z) in-place go.1.0; written = refl },
          laws.asks (leaving left standing active t m) q (with_hooks machine host (minded minds) n (left_view left) x) z
              (go.1.1 ∙ ap (λ u. O.consults (question_view u q) (with_hooks machine host (minded minds) n (left_view left) x) z) (sym now.so.event))
              (left-stands left),
        ),
      )
  by-next (Called h f left) os go =
      let z = calling machine host (minded minds) n (hook_view h) f (left_view left) x s in (
        z,
        (
          record { outputs = os; steps = subst (λ u. Go u os z) in-place go; written = refl },
          laws.calls (leaving left standing active t m) h f (heard machine host (minded minds) n (hook_view h) (left_view left) x) refl refl
              (left-stands left),
        ),
      )

  name-is : block.name ≡ (program.facts e.block).name
  name-is =
      named.name
      ∙ ap (λ b. (program.facts (record { hidden = b; number = m.code.here.block.0 })).name) now.event.visible
      ∙ ap (λ (b : BlockId). (program.facts (record { hidden = false; number = b.0 })).name) (sym now.event.block)

  written-so : (logs : Bool)
      → writes true (if logs then lines else [])
      ≡ (if logs then event_lines block t.event m.code.heap else [])
  written-so true =
      ap (λ u. writes true (log_of host (trace_kind e.what) e u)) is.around.world
      ∙ logged-lines program block t.event (stands.world_of m) name-is
  written-so false = refl

  asks : (a : Asked) → IsNext (minds e) m t a
      → (z : Run) × (Comes program machine ways minds n s (if a.logs then event_lines block t.event m.code.heap else []) z
      × BehindAsked program machine ways minds n z (found_by block a.next standing active t m))
  asks a next =
      let to = by-next a.next (if a.logs then lines else []) (comes a next) in (
        to.0,
        (
          record { outputs = to.1.0.outputs; steps = to.1.0.steps; written = to.1.0.written ∙ written-so a.logs },
          to.1.1,
        ),
      )

pub asks_as_run : {S : Type 0} (program : Program) (machine : Machine S Value) (ways : Ways S)
    (minds : Event Value → Bool) (n : ℕ) → AsksAsRun program machine ways minds n
asks_as_run program machine ways minds n m standing active t s is telling_now block named a next =
    asks program machine ways minds n m standing active t s is telling_now block named a next
