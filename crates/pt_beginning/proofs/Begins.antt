-- Acts begin as in a run.
use Rattle.std.proofs.Common.{◌≡◌, ◌∙◌, ℕ, suc, List, [], ◌∷◌, ◌++◌, map, Bool, true, false, Option, Some, None, refl, sym, ap, subst}
use Rattle.std.proofs.lemmas.List.{map-append}
use Rattle.std.specs.Prelude.{nat_lt, if◌then◌else◌}
use Rattle.std.specs.Option.{option_map}
use Rattle.pt_heap.specs.declared.value.Value.{Value}
use Rattle.pt_ranges.specs.declared.lines.ActMark.{ActMark}
use Rattle.sem_control.specs.control.Turn as T
use Rattle.sem_control.specs.control.Turn.{Mark, Ask, Answer, Reply}
use Rattle.sem_control.specs.control.LineEvents.{is_told}
use Rattle.sem_control.specs.control.Events.{before as told_before}
use Rattle.sem_code.specs.slots.Steps.{mark_of}
use Rattle.sem_run.specs.run.Machine.{Machine}
use Rattle.sem_run.specs.run.Events as Told
use Rattle.sem_run.specs.run.Events.{Event, Happening as Said}
use Rattle.sem_run.specs.run.Host.{Host, Frame, Callee as Called}
use Rattle.sem_run.specs.run.State as run
use Rattle.sem_run.specs.run.State.{State}
use Rattle.sem_run.specs.run.Outcome as O
use Rattle.sem_run.specs.run.Outcome.{Output}
use Rattle.sem_run.specs.run.Step.{step, by_phase, begin_turn, act_with, jump_line, happening, callee_of, leads_to, events_before, take_unit}
use Rattle.sem_steps.specs.Steps.{Steps, behind_step}
use Rattle.pt_turning.specs.pt_telling.pt_run_state.pt_purposes.sem_rows.pt_host.World.{Names, World, Program}
use Rattle.pt_turning.specs.pt_telling.pt_run_state.pt_purposes.sem_rows.pt_host.HeapHost.{heap_host}
use Rattle.pt_happenings.specs.declared.happening.Happening.{Happening}
use Rattle.pt_happenings.specs.declared.happening.Happening.TheVariants as happening_of
use Rattle.pt_happenings.specs.Views.{happening_view}
use Rattle.pt_pendings.specs.declared.reply.Callee.{Callee}
use Rattle.pt_pendings.specs.Stands as pend
use Rattle.pt_turning.specs.pt_telling.pt_transfers.pt_machine_state.declared.blocks.BlockCode.{BlockCode}
use Rattle.pt_turning.specs.pt_telling.pt_run_state.pt_purposes.declared.standing.Standing.{Standing}
use Rattle.pt_turning.specs.pt_telling.pt_run_state.pt_purposes.Seen.{block_of, active_at, frame_of}
use Rattle.pt_turning.specs.pt_telling.pt_run_state.pt_purposes.Openers.{Ways}
use Rattle.pt_turning.specs.pt_telling.pt_run_state.declared.machine.Machine.{Machine as Held}
use Rattle.pt_turning.specs.pt_telling.pt_run_state.declared.machine.Phase.{Phase}
use Rattle.pt_turning.specs.pt_telling.pt_run_state.declared.machine.Phase.TheVariants.{Turning, Telling}
use Rattle.pt_turning.specs.pt_telling.pt_run_state.Stands as stands
use Rattle.pt_turning.specs.pt_telling.pt_run_state.Stands.{newest, Stands, StandsAround, IsPhase, IsToTell}
use Rattle.pt_turning.specs.pt_telling.Laws.{IsNamed, Comes, BehindTold}
use Rattle.pt_turning.proofs.pt_telling.Tells.{tells_as_run}
use Rattle.pt_beginning.specs.Acts.{act_taken, line_before, line_told, listed, doing, act_begun}
use Rattle.pt_beginning.specs.Laws.{IsAct, StandByPlace, BeginsAsRun, EndsWithoutUnits}

module _ {S : Type 0} (program : Program) (machine : Machine S Value) (ways : Ways S)
    (minds : Event Value → Bool) (n : ℕ) (m : Held) (z : Standing) (k : ActMark)
    (before : Option Happening) (callee : Option Callee) (s : State S Names Value World)
    (is : IsAct program machine ways minds n m z k before callee s) where
  abbrev Run : Type 0
  Run = State S Names Value World

  abbrev host : Host Names Value World
  host = heap_host program

  abbrev Stands_so : Phase → Type 0
  Stands_so (Turning y) = (s.phase ≡ run.turning) × (s.here.state ≡ ways.position y m.code.here)
  Stands_so (Telling y active t) = Unit {0}

  so-in : (p : Phase) (q : run.Phase S Names Value World) → s.phase ≡ q
      → IsPhase program machine ways m.hooks m.code.here s.here.state p q → Stands_so p
  so-in _ _ e (stands.turning y c) = (e, c)
  so-in _ _ e (stands.telling y a t x event told un) = tt

  so : Stands_so (Turning z)
  so = subst Stands_so is.turning (so-in m.phase s.phase refl is.stands.phase)

  active-so : machine.active s.here.state ≡ active_at z m.code.here.slots
  active-so = is.stands.active ∙ ap (λ p. stands.active_in p m.code.here.slots) is.turning

  block-so : s.here.frame.block ≡ block_of m.code.here
  block-so = ap (λ f. f.block) is.stands.around.here.frame

  abbrev mark : Mark
  mark = mark_of k

  abbrev called : Option (Called Value)
  called = callee_of host is.ask s.world

  abbrev s1 : Run
  s1 = act_with machine host mark is.ask is.next called s

  -- the machine's turn begins
  turns : (left : Bool) → nat_lt m.code.units n ≡ left
      → step machine host n s
      ≡ (if left then O.goes (O.begins s.here.frame.block mark ∷ []) s1 else O.ends O.spent)
  turns left e =
      ap (λ q. by_phase machine host n q s) so.0
      ∙ ap (λ t. begin_turn machine host n t s) is.turn
      ∙ ap (λ u. if nat_lt u n then O.goes (O.begins s.here.frame.block mark ∷ []) s1 else O.ends O.spent) is.stands.around.units
      ∙ ap (λ b. if b then O.goes (O.begins s.here.frame.block mark ∷ []) s1 else O.ends O.spent) e

  abbrev m1 : Held
  m1 = act_taken k m

  abbrev with_line : Frame Names Value → Frame Names Value
  with_line f = record f { line = Some k.line.0 }

  around-taken : StandsAround program machine ways m1 s1
  around-taken = record {
    at_place = is.stands.around.at_place;
    here = record {
      frame = ap with_line is.stands.around.here.frame;
      act = refl;
      behind_jump = refl;
    };
    openers = is.stands.around.openers;
    generators = is.stands.around.generators;
    world = is.stands.around.world;
    trace = is.stands.around.trace;
    tools = is.stands.around.tools;
    units = ap suc is.stands.around.units;
    frames = is.stands.around.frames;
    numbers = is.stands.around.numbers;
    untraced = is.stands.around.untraced;
  }

  -- what is told before it
  abbrev line_by : (behind_jump : Bool) → Option ℕ → List (Said Value)
  line_by b l = if is_told (jump_line b l) mark then Told.line b ∷ [] else []

  viewed : (b : Bool) → map happening_view (if b then happening_of.Line m.course.behind_jump ∷ [] else []) ≡ (if b then Told.line m.course.behind_jump ∷ [] else [])
  viewed true = refl
  viewed false = refl

  line-so : map happening_view (line_told k m) ≡ line_by s.here.behind_jump s.here.frame.line
  line-so =
      viewed (is_told (line_before m) mark)
      ∙ ap (λ l. line_by m.course.behind_jump l) (sym (ap (λ f. f.line) is.stands.around.here.frame))
      ∙ ap (λ b. line_by b s.here.frame.line) (sym is.stands.around.here.behind_jump)

  told-so : map happening_view (line_told k m ++ listed before)
      ≡ events_before machine host mark is.ask is.next called s
  told-so =
      map-append happening_view (line_told k m) (listed before)
      ∙ ap (λ hs. hs ++ map happening_view (listed before)) line-so
      ∙ ap (λ hs. line_by s.here.behind_jump s.here.frame.line ++ hs) is.before_it

  abbrev act : run.OpenAsk S Value
  act = record { ask = is.ask; next = is.next; is_act = true; callee = called }

  module _ (by_place : StandByPlace program machine ways minds n) where
    to-tell : IsToTell program machine ways m1 (doing z callee m) (line_told k m ++ listed before) s1
    to-tell = record {
      around = around-taken;
      active = active-so;
      pending = run.doing act;
      phase = ap (λ hs. run.telling hs (run.doing act)) (sym told-so);
      waits = pend.doing act callee (record {
        mark = Some mark;
        turn = ap (λ b. machine.turn b s.here.state) (sym block-so) ∙ is.turn;
        is_act = refl;
        raises = is.raises;
      }) is.called;
      stands = so.1 ∙ by_place z m.code.here m1.code.here (record { block = refl; hidden = refl; pc = refl; slots = refl });
    }

    begins : nat_lt m.code.units n ≡ true → (block : BlockCode)
        → IsNamed program (block_of m.code.here) block
        → (t : Run) × (Comes program machine ways minds n s [] t
        × BehindTold program machine ways minds n (doing z callee m) t (act_begun block k z before callee m))
    begins left block named =
        let to = tells_as_run program machine ways minds n m1 (doing z callee m) (line_told k m ++ listed before) s1 to-tell block named in (
          to.0,
          (
            record {
              outputs = O.begins s.here.frame.block mark ∷ to.1.0.outputs;
              steps = behind_step s s1 to.0 (O.begins s.here.frame.block mark ∷ []) to.1.0.outputs (turns true left) to.1.0.steps;
              written = to.1.0.written;
            },
            to.1.1,
          ),
        )

pub begins_as_run : {S : Type 0} (program : Program) (machine : Machine S Value) (ways : Ways S)
    (minds : Event Value → Bool) (n : ℕ) → StandByPlace program machine ways minds n
    → BeginsAsRun program machine ways minds n
begins_as_run program machine ways minds n by_place m z k before callee s is left block named =
    begins program machine ways minds n m z k before callee s is by_place left block named

pub ends_without_units : {S : Type 0} (program : Program) (machine : Machine S Value) (ways : Ways S)
    (minds : Event Value → Bool) (n : ℕ) → EndsWithoutUnits program machine ways minds n
ends_without_units program machine ways minds n m z k before callee s is none =
    turns program machine ways minds n m z k before callee s is false none
