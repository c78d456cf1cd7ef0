-- What the machine sees of itself is what a run sees for which it stands: whether anything is told,
-- the entry that an exception gets, the event.
use Rattle.std.proofs.Common.{◌≡◌, ◌∙◌, ℕ, List, [], ◌∷◌, map, Bool, true, false, ◌||◌, Option, refl, sym, ap}
use Rattle.std.specs.Prelude.{if◌then◌else◌}
use Rattle.std.specs.Option.{option_map}
use Rattle.pt_heap.specs.declared.value.Value.{Value}
use Rattle.pt_heap.specs.declared.value.Value.TheVariants as value
use Rattle.pt_heap.specs.declared.object.Object.{Object}
use Rattle.pt_frames.specs.declared.frames.Frames.{Frames}
use Rattle.sem_run.specs.run.Machine.{Machine, BlockId}
use Rattle.sem_run.specs.run.Events.{Happening as Said, Event}
use Rattle.sem_run.specs.run.Host.{Host, Frame, Entry}
use Rattle.sem_run.specs.run.State as run
use Rattle.sem_run.specs.run.State.{State}
use Rattle.sem_run.specs.run.Views as views
use Rattle.sem_run.specs.run.Views.{line_or}
use Rattle.sem_run.specs.run.Hooks.{world_behind, event_of, enter_told}
use Rattle.law_steps.specs.waiting.Seen.{Seen, IsSeenSo}
use Rattle.law_steps.specs.waiting.Laws.{IsToldBySeen}
use Rattle.law_steps.proofs.waiting.Telling.{seen_tells}
use Rattle.pt_tracing.specs.pt_purposes.sem_rows.pt_host.World.{Names, World, Program}
use Rattle.pt_tracing.specs.pt_purposes.sem_rows.pt_host.Errors.{enters}
use Rattle.pt_tracing.specs.pt_purposes.sem_rows.pt_host.HeapHost.{heap_host}
use Rattle.pt_tracing.specs.pt_purposes.sem_rows.heap_rows.Views.{world_view}
use Rattle.pt_happenings.specs.declared.happening.Happening.{Happening}
use Rattle.pt_happenings.specs.declared.happening.Happening.TheVariants as happening
use Rattle.pt_happenings.specs.Views.{happening_view, event_view}
use Rattle.pt_tracing.specs.pt_machine_state.declared.blocks.BlockCode.{BlockCode}
use Rattle.pt_tracing.specs.pt_machine_state.Changes.{line_of, entry_of, heap_with_entry}
use Rattle.pt_tracing.specs.pt_purposes.Seen.{block_of, frame_of, seen_of}
use Rattle.pt_tracing.specs.pt_purposes.Openers.{Ways}
use Rattle.pt_tracing.proofs.pt_purposes.Seeing.{openers_are_seen, parts_tell}
use Rattle.pt_tracing.specs.pt_run_state.declared.machine.Machine.{Machine as Held}
use Rattle.pt_tracing.specs.pt_run_state.Stands.{world_of, newest, StandsAround}
use Rattle.pt_telling.specs.Telling.{is_silent, event_at, entered_heap, entered_by}
use Rattle.pt_telling.specs.Laws.{IsNamed}

pub first-false : (b c : Bool) → (b || c) ≡ false → b ≡ false
first-false true c e = absurd (cc)
first-false false c e = refl

-- the entry that an exception gets, in the world of the machine
module _ (frames : Frames) (heap : List Object) (v : Value) (e : Entry) where
  enters-view : enters v e (world_view frames heap) ≡ world_view frames (heap_with_entry v e heap)
  enters-view = by v
    where
      by : (v : Value) → enters v e (world_view frames heap) ≡ world_view frames (heap_with_entry v e heap)
      by (value.Obj id) = refl
      by value.None = refl
      by (value.Bool b) = refl
      by (value.Int z) = refl
      by value.Ellipsis = refl
      by value.NotImplemented = refl

  entered-world : (hidden : Bool)
      → (if hidden then world_view frames heap else enters v e (world_view frames heap))
      ≡ world_view frames (if hidden then heap else heap_with_entry v e heap)
  entered-world true = refl
  entered-world false = enters-view

module _ {S : Type 0} (program : Program) (machine : Machine S Value) (ways : Ways S) (m : Held)
    (block : BlockCode) where
  abbrev Run : Type 0
  Run = State S Names Value World

  abbrev host : Host Names Value World
  host = heap_host program

  abbrev the_frame : Frame Names Value
  the_frame = frame_of program m.hooks (newest m)

  module _ (s : Run) (around : StandsAround program machine ways m s) where
    abbrev seen_here : Seen Names Value
    seen_here = record {
      frame = the_frame;
      active = machine.active s.here.state;
      waits_for_hook = false;
    }

    abbrev seen_waiting : List (Seen Names Value)
    seen_waiting = map (seen_of program m.hooks) m.openers

    pub are-seen : IsSeenSo machine seen_here seen_waiting s
    are-seen = record {
      frame = around.here.frame;
      active = refl;
      others = openers_are_seen program machine ways m.hooks (block_of m.code.here) m.openers s.openers around.openers;
    }

    pub silent-is : run.is_silent s ≡ is_silent m
    silent-is =
        (seen_tells Names World machine seen_here seen_waiting s are-seen).silent
        ∙ ap (λ b. m.code.here.hidden || b) (sym (parts_tell program m.hooks m.openers).hook)

  module _ (named : IsNamed program (block_of m.code.here) block) where
    line-is : views.line_of host.first_line the_frame ≡ line_of block m.code
    line-is = ap (λ l. line_or l (option_map (λ k. k.0) m.code.here.line)) (sym named.first_line)

    -- an exception comes to the newest frame
    raised-world : (v : Value) (f : Frame Names Value) (w : World) → f ≡ the_frame → w ≡ world_of m
        → world_behind host (happening_view (happening.Raises v)) f w
        ≡ world_view m.code.frames (entered_heap block (happening.Raises v) m)
    raised-world v f w same is =
        ap (λ g. world_behind host (happening_view (happening.Raises v)) g w) same
        ∙ ap (λ u. world_behind host (happening_view (happening.Raises v)) the_frame u) is
        ∙ ap (λ l. if m.code.here.hidden then world_of m else enters v (record { frame = m.code.here.frame.0; block = block_of m.code.here; line = l }) (world_of m)) line-is
        ∙ entered-world m.code.frames m.code.heap v (entry_of block m.code) m.code.here.hidden

    pub told-world : (h : Happening) (f : Frame Names Value) (w : World) → f ≡ the_frame
        → w ≡ world_of m
        → world_behind host (happening_view h) f w
        ≡ world_view m.code.frames (entered_heap block h m)
    told-world (happening.Raises v) f w same is = raised-world v f w same is
    told-world happening.Starts f w same is = is
    told-world happening.Resumes f w same is = is
    told-world (happening.Returns v) f w same is = is
    told-world (happening.Yields v) f w same is = is
    told-world (happening.Throws v) f w same is = is
    told-world (happening.Unwinds v) f w same is = is
    told-world (happening.Calls g a) f w same is = is
    told-world (happening.ReturnsFrom g a) f w same is = is
    told-world (happening.RaisesFrom g a) f w same is = is
    told-world (happening.Line j) f w same is = is
    told-world (happening.Jumps d) f w same is = is
    told-world (happening.Branches d) f w same is = is
    told-world (happening.RaisesAgain v) f w same is = is
    told-world (happening.Handled v) f w same is = is
    told-world (happening.Stops v) f w same is = is

    pub around-told : (h : Happening) (s : Run) → StandsAround program machine ways m s
        → StandsAround program machine ways (entered_by block h m) (enter_told machine host (happening_view h) s)
    around-told h s around = record {
      at_place = around.at_place;
      here = around.here;
      openers = around.openers;
      generators = around.generators;
      world = told-world h s.here.frame s.world around.here.frame around.world;
      trace = around.trace;
      tools = around.tools;
      units = around.units;
      frames = around.frames;
      numbers = around.numbers;
      untraced = around.untraced;
    }

    -- the event of what happens
    abbrev event_in : Said Value → Frame Names Value → (act : ℕ) → Event Value
    event_in what f act = record {
      what = what;
      frame = f.number;
      block = f.block;
      act = act;
      line = views.line_of host.first_line f;
      of_generator = f.of_generator;
    }

    abbrev event_with : Said Value → (hidden : Bool) → (line : ℕ) → Event Value
    event_with what hidden line = record {
      what = what;
      frame = m.code.here.frame.0;
      block = record { hidden = hidden; number = m.code.here.block.0 };
      act = m.course.act.0;
      line = line;
      of_generator = m.course.generator;
    }

    pub event-is : (h : Happening) (s : Run) → StandsAround program machine ways m s
        → m.code.here.hidden ≡ false
        → event_of machine host (happening_view h) s ≡ event_view (event_at block h m)
    event-is h s around shown =
        ap (λ f. event_in (happening_view h) f s.here.act) around.here.frame
        ∙ ap (λ k. event_in (happening_view h) the_frame k) around.here.act
        ∙ ap (λ l. event_with (happening_view h) m.code.here.hidden l) line-is
        ∙ ap (λ b. event_with (happening_view h) b (line_of block m.code)) shown
