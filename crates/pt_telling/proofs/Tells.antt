-- What the machine tells a run tells by steps.
use Rattle.std.proofs.Common.{◌≡◌, ◌∙◌, ℕ, List, [], ◌∷◌, map, Bool, true, false, refl, sym, ap}
use Rattle.std.specs.Prelude.{if◌then◌else◌}
use Rattle.pt_heap.specs.declared.value.Value.{Value}
use Rattle.sem_run.specs.run.Machine.{Machine}
use Rattle.sem_run.specs.run.Events.{Happening as Said, Event}
use Rattle.sem_run.specs.run.Host.{Host}
use Rattle.sem_run.specs.run.State as run
use Rattle.sem_run.specs.run.State.{State, at}
use Rattle.sem_run.specs.run.Outcome as O
use Rattle.sem_run.specs.run.Outcome.{Output, gives}
use Rattle.sem_run.specs.run.Hooks.{all_hooks, event_of, enter_told}
use Rattle.sem_run.specs.run.Step.{step, by_phase, first_event}
use Rattle.sem_steps.specs.Steps.{Steps, stays, behind_step, minded}
use Rattle.pt_tracing.specs.pt_purposes.sem_rows.pt_host.World.{Names, World, Program}
use Rattle.pt_tracing.specs.pt_purposes.sem_rows.pt_host.HeapHost.{heap_host}
use Rattle.pt_happenings.specs.declared.happening.Happening.{Happening}
use Rattle.pt_happenings.specs.Views.{happening_view}
use Rattle.pt_pendings.specs.declared.telling.Left.TheVariants.{From}
use Rattle.pt_tracing.specs.pt_machine_state.declared.blocks.BlockCode.{BlockCode}
use Rattle.pt_tracing.specs.pt_purposes.Seen.{block_of}
use Rattle.pt_tracing.specs.pt_purposes.Openers.{Ways}
use Rattle.pt_tracing.specs.pt_run_state.declared.machine.Machine.{Machine as Held}
use Rattle.pt_tracing.specs.pt_run_state.declared.machine.Waiting.{Waiting}
use Rattle.pt_tracing.specs.pt_run_state.Stands.{telling, Stands, StandsAround, IsToTell}
use Rattle.pt_telling.specs.Telling.{Told, is_silent, event_at, entered_by, entered_by_all, with_event, told_in}
use Rattle.pt_telling.specs.Laws.{IsNamed, Comes, BehindTold, event, onward, TellsAsRun}
use Rattle.pt_telling.proofs.Around.{first-false, silent-is, around-told, event-is}

module _ {S : Type 0} (program : Program) (machine : Machine S Value) (ways : Ways S)
    (minds : Event Value → Bool) (n : ℕ) (w : Waiting) (block : BlockCode) where
  abbrev Run : Type 0
  Run = State S Names Value World

  abbrev host : Host Names Value World
  host = heap_host program

  abbrev To : Run → Told → Type 0
  To s r = (t : Run) × (Comes program machine ways minds n s [] t × BehindTold program machine ways minds n w t r)

  abbrev Is : Held → List Happening → Run → Type 0
  Is m hs s = IsToTell program machine ways m w hs s

  -- the rest is to be told behind the first
  abbrev behind_first : (h : Happening) (hs : List Happening) → run.Pending S Value → Run → Run
  behind_first h hs p s =
      at (run.telling (map happening_view hs) p) (enter_told machine host (happening_view h) s)

  stepped : (h : Happening) (hs : List Happening) (m : Held) (s : Run) (is : Is m (h ∷ hs) s)
      (b : Bool) → is_silent m ≡ b
      → step machine host n s
      ≡ (if b then O.goes [] (behind_first h hs is.pending s)
      else first_event machine host (happening_view h) (map happening_view hs) is.pending (enter_told machine host (happening_view h) s))
  stepped h hs m s is b e =
      ap (λ q. by_phase machine host n q s) is.phase
      ∙ ap (λ c. if c then O.goes [] (behind_first h hs is.pending s)
      else first_event machine host (happening_view h) (map happening_view hs) is.pending (enter_told machine host (happening_view h) s))
      (silent-is program machine ways m block s is.around ∙ e)

  silently : (hs : List Happening) (m : Held) (s : Run) → Is m hs s → is_silent m ≡ true
      → IsNamed program (block_of m.code.here) block
      → To s (record { event = false; machine = entered_by_all block hs m })
  silently [] m s is silent named =
      (s, (record { outputs = []; steps = stays s; written = refl }, onward m is))
  silently (h ∷ hs) m s is silent named =
      let around : StandsAround program machine ways (entered_by block h m) (behind_first h hs is.pending s)
      = record {
        at_place = is.around.at_place;
        here = is.around.here;
        openers = is.around.openers;
        generators = is.around.generators;
        world = (around-told program machine ways m block named h s is.around).world;
        trace = is.around.trace;
        tools = is.around.tools;
        units = is.around.units;
        frames = is.around.frames;
        numbers = is.around.numbers;
        untraced = is.around.untraced;
      } in
      let rest : Is (entered_by block h m) hs (behind_first h hs is.pending s) = record {
        around = around;
        active = is.active;
        pending = is.pending;
        phase = refl;
        waits = is.waits;
        stands = is.stands;
      } in
      let to : To (behind_first h hs is.pending s) (record { event = false; machine = entered_by_all block hs (entered_by block h m) })
      = silently hs (entered_by block h m) (behind_first h hs is.pending s) rest silent named in (
        to.0,
        (
          record {
            outputs = to.1.0.outputs;
            steps = behind_step s (behind_first h hs is.pending s) to.0 [] to.1.0.outputs (stepped h hs m s is true silent) to.1.0.steps;
            written = to.1.0.written;
          },
          to.1.1,
        ),
      )

  aloud : (hs : List Happening) (m : Held) (s : Run) → Is m hs s → is_silent m ≡ false
      → IsNamed program (block_of m.code.here) block → To s (told_in block false w hs m)
  aloud [] m s is heard named =
      (s, (record { outputs = []; steps = stays s; written = refl }, onward m is))
  aloud (h ∷ hs) m s is heard named =
      let m1 : Held = entered_by block h m in
      let s1 : Run = enter_told machine host (happening_view h) s in
      let around : StandsAround program machine ways m1 s1 = around-told program machine ways m block named h s is.around in
      let shown : m.code.here.hidden ≡ false = first-false m.code.here.hidden _ heard in
      let t : run.Telling S Value = record {
        event = event_of machine host (happening_view h) s1;
        hooks = all_hooks;
        behind = map happening_view hs;
        pending = is.pending;
      } in
      let s2 : Run = at (run.asking t) s1 in
      let m2 : Held = with_event w (event_at block h m1) hs m1 in
      let around2 : StandsAround program machine ways m2 s2 = record {
        at_place = around.at_place;
        here = around.here;
        openers = around.openers;
        generators = around.generators;
        world = around.world;
        trace = around.trace;
        tools = around.tools;
        units = around.units;
        frames = around.frames;
        numbers = around.numbers;
        untraced = around.untraced;
      } in
      let stands : Stands program machine ways m2 s2 = record {
        around = around2;
        active = is.active;
        phase = telling w.standing w.active (record {
          event = event_at block h m1;
          left = From 0;
          behind = hs;
          pending = w.pending;
        }) t
            (record { frame = refl; block = refl; visible = shown })
            (record {
              event = event-is program machine ways m1 block named h s1 around shown;
              hooks = refl;
              behind = refl;
              pending = is.waits;
            })
            is.stands;
      } in (
        s2,
        (
          record {
            outputs = gives t.event ∷ [];
            steps = behind_step s s2 s2 (gives t.event ∷ []) [] (stepped h hs m s is false heard) (stays s2);
            written = refl;
          },
          event m2 stands,
        ),
      )

  pub tells : (hs : List Happening) (m : Held) (s : Run) → Is m hs s → (b : Bool)
      → is_silent m ≡ b → IsNamed program (block_of m.code.here) block
      → To s (told_in block b w hs m)
  tells hs m s is true e named = silently hs m s is e named
  tells hs m s is false e named = aloud hs m s is e named

pub tells_as_run : {S : Type 0} (program : Program) (machine : Machine S Value) (ways : Ways S)
    (minds : Event Value → Bool) (n : ℕ) → TellsAsRun program machine ways minds n
tells_as_run program machine ways minds n m w hs s is block named =
    tells program machine ways minds n w block hs m s is (is_silent m) refl named
