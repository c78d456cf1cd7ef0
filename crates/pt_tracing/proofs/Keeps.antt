-- What is kept of the newest frame changes, and nothing else does.
use Rattle.std.proofs.Common.{◌≡◌, ◌≢◌, ◌∙◌, ◌<◌, ◌≤◌, ℕ, List, [], ◌∷◌, ◌++◌, map, Bool, Option, Some, None, refl, sym, ap, subst, arith}
use Rattle.pt_heap.specs.declared.value.Value.{Value}
use Rattle.pt_heap.specs.declared.value.Value.TheVariants as value
use Rattle.pt_events.specs.declared.EventKind.{EventKind}
use Rattle.sem_run.specs.run.Machine.{BlockId, Machine}
use Rattle.sem_run.specs.run.Host.{Frame}
use Rattle.sem_run.specs.run.State as run
use Rattle.sem_run.specs.run.State.{State}
use Rattle.sem_run.specs.run.Hooks.{trace_behind}
use Rattle.pt_run_state.specs.pt_purposes.sem_rows.heap_rows.Views.{names_view}
use Rattle.std.specs.Option.{option_map}
use Rattle.std.specs.Prelude.{unwrap_or}
use Rattle.pt_run_state.specs.pt_purposes.sem_rows.pt_host.World.{Names, World, Program}
use Rattle.pt_run_state.specs.pt_purposes.sem_rows.pt_host.HeapHost.{unless_null}
use Rattle.pt_gen.specs.declared.generator.Generator.{Generator}
use Rattle.pt_gen.specs.declared.generator.Generator.TheVariants as gen
use Rattle.pt_settrace.specs.declared.frames.FrameTracing.{FrameTracing}
use Rattle.pt_settrace.specs.Frames.{untraced}
use Rattle.pt_settrace.specs.Tracing.{Tracing, kind_of, unless_none, tracing_in, function_in, lines_in, with_function}
use Rattle.pt_settrace.proofs.FrameLemmas.{get-here, get-apart}
use Rattle.pt_run_state.specs.pt_purposes.declared.opener.Running.{Running}
use Rattle.pt_run_state.specs.pt_purposes.declared.opener.Opener.{Opener}
use Rattle.pt_run_state.specs.pt_purposes.Seen.{block_of, frame_of}
use Rattle.pt_run_state.specs.pt_purposes.Openers as openers
use Rattle.pt_run_state.specs.pt_purposes.Openers.{Ways, IsRunning, AreOpeners}
use Rattle.pt_run_state.specs.pt_purposes.Kept as kept
use Rattle.pt_run_state.specs.pt_purposes.Kept.{IsAtPlace, IsKept, AreKept}
use Rattle.pt_run_state.specs.declared.machine.Machine.{Machine as Held}
use Rattle.pt_run_state.specs.Stands.{newest, numbers_kept, frame_numbers, IsNotAmong, AreGivenOnce, StandsAround}
use Rattle.pt_tracing.specs.Answers.{with_hooks, answered, failed}
use Rattle.pt_tracing.specs.Laws.{AnswersAsRun, FailsAsRun}

not-in-first : (k : ℕ) (js ks : List ℕ) → IsNotAmong k (js ++ ks) → IsNotAmong k js
not-in-first k [] ks apart = tt
not-in-first k (j ∷ js) ks apart = (apart.0, not-in-first k js ks apart.1)

not-in-second : (k : ℕ) (js ks : List ℕ) → IsNotAmong k (js ++ ks) → IsNotAmong k ks
not-in-second k [] ks apart = apart
not-in-second k (j ∷ js) ks apart = not-in-second k js ks apart.1

-- a frame by what is kept of it
abbrev framed : Program → Running → FrameTracing → Frame Names Value
framed program r t = record {
  number = r.activation.frame.0;
  block = block_of r.activation;
  names = names_view (program.facts (block_of r.activation)) r.activation;
  line = option_map (λ l. l.0) r.activation.line;
  trace = t.function;
  traces_lines = t.lines;
  of_generator = r.course.generator;
}

module _ {S : Type 0} (program : Program) (machine : Machine S Value) (ways : Ways S)
    (h g : Tracing) (k : ℕ) (elsewhere : (j : ℕ) → j ≢ k → tracing_in j g ≡ tracing_in j h) where
  running-kept : (r : Running) (a : run.Activation S Names Value) → r.activation.frame.0 ≢ k
      → IsRunning program h r a → IsRunning program g r a
  running-kept r a apart is = record {
    frame = is.frame ∙ ap (λ t. framed program r t) (sym (elsewhere r.activation.frame.0 apart));
    act = is.act;
    behind_jump = is.behind_jump;
  }

  openers-kept : (above : BlockId) (es : List Opener)
      (os : List (run.Opener S Names Value World))
      → IsNotAmong k (map (λ o. o.running.activation.frame.0) es)
      → AreOpeners program machine ways h above es os
      → AreOpeners program machine ways g above es os
  openers-kept _ _ _ apart (openers.none above) = openers.none above
  openers-kept _ _ _ apart (openers.more above e o es os is rest) =
      openers.more above e o es os
      (record { running = running-kept e.running o.activation apart.0 is.running; active = is.active; purpose = is.purpose })
      (openers-kept (block_of e.running.activation) es os apart.1 rest)

  at-place-kept : (r : Running) (a : run.Activation S Names Value) → r.activation.frame.0 ≢ k
      → IsAtPlace program machine ways h r a → IsAtPlace program machine ways g r a
  at-place-kept r a apart is = record { runs = running-kept r a apart is.runs; state = is.state }

  all-kept : (gs : List (Generator Running)) (xs : List (run.Generator S Names Value))
      → IsNotAmong k (numbers_kept gs) → AreKept program machine ways h gs xs
      → AreKept program machine ways g gs xs
  all-kept _ _ apart kept.none = kept.none
  all-kept _ _ apart (kept.more _ _ gs xs (kept.fresh r a is) rest) =
      kept.more (gen.Fresh r) (run.fresh a) gs xs (kept.fresh r a (at-place-kept r a apart.0 is)) (all-kept gs xs apart.1 rest)
  all-kept _ _ apart (kept.more _ _ gs xs (kept.suspended r a y is y_is) rest) =
      kept.more (gen.Suspended r) (run.suspended a y) gs xs
      (kept.suspended r a y (at-place-kept r a apart.0 is) y_is) (all-kept gs xs apart.1 rest)
  all-kept _ _ apart (kept.more _ _ gs xs kept.running rest) =
      kept.more gen.Running run.running gs xs kept.running (all-kept gs xs apart rest)
  all-kept _ _ apart (kept.more _ _ gs xs kept.finished rest) =
      kept.more gen.Finished run.finished gs xs kept.finished (all-kept gs xs apart rest)

module _ {S : Type 0} (program : Program) (machine : Machine S Value) (ways : Ways S) (m : Held)
    (s : State S Names Value World) (around : StandsAround program machine ways m s) where
  abbrev number : ℕ
  number = m.code.here.frame.0

  abbrev traced_so : Option Value → Option Value → State S Names Value World
  traced_so f g = record s {
    here = record s.here { frame = record s.here.frame { trace = f } };
    trace = g;
  }

  abbrev traced_frame : Option Value → Frame Names Value → Frame Names Value
  traced_frame f x = record x { trace = f }

  keeps : (g : Tracing) (f : Option Value)
      → ((j : ℕ) → j ≢ number → tracing_in j g ≡ tracing_in j m.hooks)
      → tracing_in number g ≡ record { function = f; lines = lines_in number m.hooks }
      → StandsAround program machine ways (with_hooks g m) (traced_so f g.global)
  keeps g f elsewhere here = record {
    at_place = around.at_place;
    here = record {
      frame = ap (λ x. traced_frame f x) around.here.frame ∙ ap (λ t. framed program (newest m) t) (sym here);
      act = around.here.act;
      behind_jump = around.here.behind_jump;
    };
    openers = openers-kept program machine ways m.hooks g number elsewhere (block_of m.code.here) m.openers s.openers
        (not-in-first number _ (numbers_kept m.generators) around.numbers.1.0) around.openers;
    generators = all-kept program machine ways m.hooks g number elsewhere m.generators s.generators
        (not-in-second number (map (λ o. o.running.activation.frame.0) m.openers) _ around.numbers.1.0) around.generators;
    world = around.world;
    trace = refl;
    tools = around.tools;
    units = around.units;
    frames = around.frames;
    numbers = around.numbers;
    untraced = λ j later. elsewhere j (λ e. let no : ⊥ = omega (arith, around.numbers.0, later, e) in no) ∙ around.untraced j later;
  }

  function-is : s.here.frame.trace ≡ function_in number m.hooks
  function-is = ap (λ x. x.trace) around.here.frame

unless-same : (v : Value) → unless_null v ≡ unless_none v
unless-same value.None = refl
unless-same (value.Bool b) = refl
unless-same (value.Int z) = refl
unless-same (value.Obj id) = refl
unless-same value.Ellipsis = refl
unless-same value.NotImplemented = refl

pub answers_as_run : {S : Type 0} (program : Program) (machine : Machine S Value) (ways : Ways S)
    → AnswersAsRun program machine ways
answers_as_run program machine ways m s around k v =
    let f : Option Value = trace_behind (Some (kind_of k)) (unless_none v) (function_in m.code.here.frame.0 m.hooks) in
    let t : FrameTracing = record { function = f; lines = lines_in m.code.here.frame.0 m.hooks } in
    let is = keeps program machine ways m s around (with_function m.code.here.frame.0 f m.hooks) f
    (λ j apart. ap (λ o. unwrap_or o untraced) (get-apart m.hooks.frames m.code.here.frame.0 t j apart))
    (ap (λ o. unwrap_or o untraced) (get-here m.hooks.frames m.code.here.frame.0 t)) in
    let same : trace_behind (Some (kind_of k)) (unless_null v) s.here.frame.trace ≡ f =
    ap (λ o. trace_behind (Some (kind_of k)) o s.here.frame.trace) (unless-same v)
    ∙ ap (λ o. trace_behind (Some (kind_of k)) (unless_none v) o) (function-is program machine ways m s around) in
    subst (λ (p : Option Value × Option Value). StandsAround program machine ways (answered k v m) (traced_so program machine ways m s around p.0 p.1))
    (ap (λ o. (o, m.hooks.global)) (sym same) ∙ ap (λ o. (trace_behind (Some (kind_of k)) (unless_null v) s.here.frame.trace, o)) (sym around.trace)) is

pub fails_as_run : {S : Type 0} (program : Program) (machine : Machine S Value) (ways : Ways S)
    → FailsAsRun program machine ways
fails_as_run program machine ways m s around =
    subst (λ o. StandsAround program machine ways (failed m) (traced_so program machine ways m s around o None))
    (sym (function-is program machine ways m s around))
    (keeps program machine ways m s around (record m.hooks { global = None }) (function_in m.code.here.frame.0 m.hooks) (λ j apart. refl) refl)
