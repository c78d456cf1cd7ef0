-- What instructions begin with a mark and without.
use Rattle.std.proofs.Common.{◌≡◌, ◌∙◌, ◌⊎◌, inl, inr, ℕ, [], Bool, false, Option, Some, None, refl, ap, subst}
use Rattle.std.specs.Option.{option_map}
use Rattle.pt_heap.specs.declared.value.Value.{Value}
use Rattle.pt_ranges.specs.declared.lines.ActMark.{ActMark}
use Rattle.pt_frames.specs.Slots.{active_in}
use Rattle.pt_code.specs.View.{Ins}
use Rattle.sem_control.specs.control.Turn as T
use Rattle.sem_control.specs.control.Turn.{Turn, Ask, Reply, Answer}
use Rattle.sem_code.specs.slots.Slots.{State as CodeState}
use Rattle.sem_code.specs.slots.Steps.{mark_of}
use Rattle.sem_code.specs.slots.Needs.{Begins}
use Rattle.sem_code_machine.specs.code_machine.CodeBlocks.{CodeBlocks}
use Rattle.sem_run.specs.run.Machine.{Machine, turn_in}
use Rattle.sem_run.specs.run.Events.{Event}
use Rattle.sem_run.specs.run.Host.{Host}
use Rattle.sem_run.specs.run.State as run
use Rattle.sem_run.specs.run.State.{State, OpenAsk, at}
use Rattle.sem_run.specs.run.Outcome as O
use Rattle.sem_run.specs.run.Step.{step, begin_turn}
use Rattle.sem_steps.specs.Steps.{behind_step, stays}
use Rattle.pt_happenings.specs.declared.happening.Happening.{Happening}
use Rattle.pt_pendings.specs.declared.reply.Callee.{Callee}
use Rattle.pt_pendings.specs.declared.pending.Pending.TheVariants.{Doing}
use Rattle.pt_pendings.specs.Stands as pend
use Rattle.pt_pendings.specs.Stands.{IsAsked}
use Rattle.pt_applying.specs.law_doing.pt_answering.pt_opening.pt_host.World.{Names, World, Program}
use Rattle.pt_applying.specs.law_doing.pt_answering.pt_opening.pt_host.HeapHost.{heap_host}
use Rattle.pt_applying.specs.law_doing.pt_answering.pt_opening.pt_purposes.declared.standing.Standing.TheVariants.{AtPlace}
use Rattle.pt_applying.specs.law_doing.pt_answering.pt_opening.pt_purposes.Openers.{Ways, standpoint}
use Rattle.pt_applying.specs.law_doing.pt_answering.pt_opening.pt_run_state.declared.machine.Machine.{Machine as Held}
use Rattle.pt_applying.specs.law_doing.pt_answering.pt_opening.pt_run_state.Stands.{StandsAround, IsToTell}
use Rattle.pt_applying.specs.law_doing.pt_answering.pt_opening.pt_telling.Laws.{Comes}
use Rattle.pt_applying.specs.law_doing.pt_answering.pt_opening.pt_hearing.pt_closing.pt_beginning.Laws.{IsAct}
use Rattle.pt_applying.specs.law_doing.pt_answering.pt_replying.pt_turning.Laws.{waiting}
use Rattle.pt_applying.specs.law_doing.pt_answering.pt_replying.pt_turning.Ways.{IsOfCode}
use Rattle.law_marks.specs.Places.{AsksByPlace, CodeAsksByPlace}
use Rattle.law_marks.specs.Laws.{IsNext, turn_here, TellsBefore, MarkedAsRun, BehindUnmarked, is_stuck, asks, moves, UnmarkedAsRun}
use Rattle.law_marks.proofs.Next as next

pub code_asks_by_place : (code : CodeBlocks Value) → CodeAsksByPlace code
code_asks_by_place code program = record { asked = λ a. refl; decides = λ a. refl }

module _ {S : Type 0} (program : Program) (code : CodeBlocks Value) (machine : Machine S Value)
    (embed : CodeState Value → S) (ways : Ways S) (is_of : IsOfCode code machine embed ways)
    (by_place : AsksByPlace code ways) (minds : Event Value → Bool) (n : ℕ) (m : Held) (i : Ins)
    (s : State S Names Value World) (is : IsNext program code machine embed ways minds n m i s) where
  abbrev Run : Type 0
  Run = State S Names Value World

  abbrev host : Host Names Value World
  host = heap_host program

  abbrev turn : Turn (CodeState Value) Value
  turn = turn_here program code machine embed ways minds n m i

  abbrev Tells : Option Happening → Option Callee → Turn (CodeState Value) Value → Type 0
  Tells before callee t = TellsBefore program code machine embed ways minds n before callee s t

  stepped : step machine host n s ≡ begin_turn machine host n (turn_in embed turn) s
  stepped = next.stepped program code machine embed ways is_of minds n m i s is

  stuck-so : turn ≡ T.stuck → step machine host n s ≡ O.is_stuck
  stuck-so e = stepped ∙ ap (λ t. begin_turn machine host n (turn_in embed t) s) e

  module _ (k : ActMark) (marked : i.mark ≡ Some k) (before : Option Happening)
      (callee : Option Callee) where
    begins-so : Begins (Some (mark_of k)) turn
    begins-so =
        subst (λ o. Begins (option_map mark_of o) turn) marked
        (next.begins program code machine embed ways is_of minds n m i s is)

    by-turn : (t : Turn (CodeState Value) Value) → turn ≡ t → Begins (Some (mark_of k)) t
        → Tells before callee t
        → (step machine host n s ≡ O.is_stuck) ⊎ IsAct program machine ways minds n m AtPlace k before callee s
    by-turn (T.act mark a f) e begins tells = inr (record {
      stands = is.stands;
      turning = is.turning;
      ask = a;
      next = λ r. embed (f r);
      turn = next.turn-so program code machine embed ways is_of minds n m i s is
          ∙ ap (λ t. turn_in embed t) e
          ∙ ap (λ o. T.act o a (λ r. embed (f r))) begins;
      before_it = tells.0;
      called = tells.1;
      raises = next.raises-so program code machine embed ways is_of minds n m i s is by_place (Some k.line) mark a f e;
    })
    by-turn (T.move c) e begins tells = absurd cc
    by-turn (T.note a f) e begins tells = absurd begins
    by-turn (T.over x) e begins tells = absurd begins
    by-turn T.stuck e begins tells = inl (stuck-so e)

    pub marked-so : Tells before callee turn
        → (step machine host n s ≡ O.is_stuck) ⊎ IsAct program machine ways minds n m AtPlace k before callee s
    marked-so tells = by-turn turn refl begins-so tells

  module _ (unmarked : i.mark ≡ None) where
    abbrev Behind : Type 0
    Behind = BehindUnmarked program code machine embed ways minds n m i s

    begins-none : Begins None turn
    begins-none =
        subst (λ o. Begins (option_map mark_of o) turn) unmarked
        (next.begins program code machine embed ways is_of minds n m i s is)

    around-at : (q : run.Phase S Names Value World) → StandsAround program machine ways m (at q s)
    around-at q = record {
      at_place = is.stands.around.at_place;
      here = is.stands.around.here;
      openers = is.stands.around.openers;
      generators = is.stands.around.generators;
      world = is.stands.around.world;
      trace = is.stands.around.trace;
      tools = is.stands.around.tools;
      units = is.stands.around.units;
      frames = is.stands.around.frames;
      numbers = is.stands.around.numbers;
      untraced = is.stands.around.untraced;
    }

    asks-so : (a : Ask Value) (f : Reply Value (Answer Value a) → CodeState Value)
        → turn ≡ T.act None a f → Behind
    asks-so a f e =
        let q : OpenAsk S Value =
        record { ask = a; next = λ r. embed (f r); is_act = false; callee = None } in
        let t : Run = at (run.telling [] (run.doing q)) s in
        let went : step machine host n s ≡ O.goes [] t =
        stepped ∙ ap (λ x. begin_turn machine host n (turn_in embed x) s) e in
        let asked : IsAsked machine (standpoint ways s.here.state AtPlace m.code.here) q = record {
          mark = None;
          turn = next.turn-placed program code machine embed ways is_of minds n m i s is
              ∙ ap (λ x. turn_in embed x) e;
          is_act = refl;
          raises = next.raises-so program code machine embed ways is_of minds n m i s is by_place m.code.here.line None a f e;
        } in
        let comes : Comes program machine ways minds n s [] t = record {
          outputs = [];
          steps = behind_step s t t [] [] went (stays t);
          written = refl;
        } in
        let to_tell : IsToTell program machine ways m (waiting AtPlace (active_in m.code.here.slots) (Doing None)) [] t = record {
          around = around-at (run.telling [] (run.doing q));
          active = next.active-so program code machine embed ways is_of minds n m i s is;
          pending = run.doing q;
          phase = refl;
          waits = pend.doing q None asked refl;
          stands = (next.so program code machine embed ways is_of minds n m i s is).1;
        } in
        asks t comes to_tell

    by-kind : (t : Turn (CodeState Value) Value) → turn ≡ t → Begins None t → Behind
    by-kind (T.act None a f) e begins = asks-so a f e
    by-kind (T.act (Some x) a f) e begins = absurd cc
    by-kind (T.move c) e begins = moves c e
    by-kind (T.note a f) e begins = absurd begins
    by-kind (T.over x) e begins = absurd begins
    by-kind T.stuck e begins = is_stuck (stuck-so e)

    pub unmarked-so : Behind
    unmarked-so = by-kind turn refl begins-none

pub marked_as_run : {S : Type 0} (program : Program) (code : CodeBlocks Value)
    (machine : Machine S Value) (embed : CodeState Value → S) (ways : Ways S)
    → IsOfCode code machine embed ways → AsksByPlace code ways → (minds : Event Value → Bool) (n : ℕ)
    → MarkedAsRun program code machine embed ways minds n
marked_as_run program code machine embed ways is_of by_place minds n m i s is k marked before callee tells =
    marked-so program code machine embed ways is_of by_place minds n m i s is k marked before callee tells

pub unmarked_as_run : {S : Type 0} (program : Program) (code : CodeBlocks Value)
    (machine : Machine S Value) (embed : CodeState Value → S) (ways : Ways S)
    → IsOfCode code machine embed ways → AsksByPlace code ways → (minds : Event Value → Bool) (n : ℕ)
    → UnmarkedAsRun program code machine embed ways minds n
unmarked_as_run program code machine embed ways is_of by_place minds n m i s is unmarked =
    unmarked-so program code machine embed ways is_of by_place minds n m i s is unmarked
