-- Acts that wait are done as in a run.
use Rattle.std.proofs.Common.{◌≡◌, ◌∙◌, ℕ, List, [], Bool, true, Option, Some, None, is_some, refl, sym, ap, subst}
use Rattle.std.specs.Option.{option_map}
use Rattle.pt_heap.specs.declared.value.Value.{Value}
use Rattle.pt_code.specs.View.{Ins}
use Rattle.sem_control.specs.control.Turn as T
use Rattle.sem_control.specs.control.Turn.{Ask, Answer, Reply, Mark, Turn}
use Rattle.sem_code.specs.slots.Slots.{Slots, State as CodeState, on}
use Rattle.sem_code.specs.slots.CodeObject.{CodeObject}
use Rattle.sem_code.specs.slots.Instructions.{perform}
use Rattle.sem_code.specs.slots.Machine as slots
use Rattle.sem_code_machine.specs.code_machine.CodeBlocks.{CodeBlocks}
use Rattle.sem_code_machine.specs.rows.Rows.{row_of}
use Rattle.law_leads.specs.Leads.{AnswersSo, in_run, Leads}
use Rattle.law_leads.proofs.Leading.{asks_lead}
use Rattle.law_takes.specs.Taking.{taken}
use Rattle.law_takes.specs.Laws.{TakesIfAsked}
use Rattle.law_takes.proofs.Taking.{instructions_take}
use Rattle.law_heap_leads.proofs.Ends.{iterators_end_by_themselves}
use Rattle.sem_run.specs.run.Machine.{Machine, turn_in}
use Rattle.sem_run.specs.run.Events.{Event}
use Rattle.sem_run.specs.run.Host.{Host, Here, Callee}
use Rattle.sem_run.specs.run.State as run
use Rattle.sem_run.specs.run.State.{State, OpenAsk, at, store}
use Rattle.sem_run.specs.run.Views.{here_of}
use Rattle.sem_run.specs.run.Outcome as O
use Rattle.sem_run.specs.run.Step.{step, by_phase, do_ask}
use Rattle.sem_run.specs.transitions.Transitions.{of_open_ask, transition}
use Rattle.sem_run.specs.transitions.Successors.{Successor, successor}
use Rattle.sem_steps.specs.Steps.{stays, behind_step, minded}
use Rattle.pt_making.specs.pt_host.World.{Names, World, Stores, Program}
use Rattle.pt_making.specs.pt_host.HeapHost.{heap_host}
use Rattle.pt_making.specs.pt_purposes.sem_rows.heap_rows.Views.{slots_view}
use Rattle.pt_pendings.specs.declared.reply.Callee.{Callee as Told}
use Rattle.pt_pendings.specs.declared.pending.Pending.{Pending}
use Rattle.pt_pendings.specs.declared.pending.Pending.TheVariants as pending
use Rattle.pt_pendings.specs.Stands as pend
use Rattle.pt_pendings.specs.Stands.{IsAsked, IsPending}
use Rattle.pt_pendings.specs.Views.{callee_view}
use Rattle.pt_making.specs.pt_purposes.declared.standing.Standing.TheVariants.{AtPlace}
use Rattle.pt_making.specs.pt_purposes.Seen.{block_of}
use Rattle.pt_making.specs.pt_purposes.Openers.{Ways, standpoint}
use Rattle.pt_making.specs.pt_turning.pt_telling.pt_run_state.declared.machine.Machine.{Machine as Held}
use Rattle.pt_making.specs.pt_turning.pt_telling.pt_run_state.Stands.{IsToTell}
use Rattle.pt_making.specs.pt_turning.pt_telling.Laws.{Comes}
use Rattle.pt_making.specs.pt_turning.Laws.{waiting}
use Rattle.pt_making.specs.pt_turning.Ways.{IsOfCode}
use Rattle.law_doing.specs.Laws.{object_here, IsDone, ActsAsRun}
use Rattle.law_doing.proofs.Successors.{turned, phase-alone}

-- an ask of a machine whose turn is one of code is one of code
module _ {C S V : Type 0} (embed : C → S) (q : OpenAsk S V) where
  record IsOfTurn (t : Turn C V) (mark : Option Mark) : Type 0 where
    ask : OpenAsk C V
    turn : t ≡ T.act mark ask.ask ask.next
    is_act : ask.is_act ≡ q.is_act
    called : ask.callee ≡ q.callee
    same : in_run embed ask ≡ q

  of-turn : (t : Turn C V) (mark : Option Mark) → turn_in embed t ≡ T.act mark q.ask q.next
      → IsOfTurn t mark
  of-turn (T.act m a k) mark e =
      let one = subst Same e (refl, refl) in
      record {
        ask = code_ask;
        turn = ap (λ x. T.act x a k) one.0;
        is_act = refl;
        called = refl;
        same = one.1;
      }
    where
      code_ask : OpenAsk C V
      code_ask = record { ask = a; next = k; is_act = q.is_act; callee = q.callee }

      Same : Turn S V → Type 0
      Same (T.act x b j) =
          (m ≡ x) × (in_run embed code_ask ≡ record { ask = b; next = j; is_act = q.is_act; callee = q.callee })
      Same t = Unit {0}
  of-turn (T.note a k) mark e = absurd cc
  of-turn (T.move c) mark e = absurd cc
  of-turn (T.over x) mark e = absurd cc
  of-turn T.stuck mark e = absurd cc

module _ {S : Type 0} (program : Program) (code : CodeBlocks Value) (machine : Machine S Value)
    (embed : CodeState Value → S) (ways : Ways S) (is_of : IsOfCode code machine embed ways)
    (minds : Event Value → Bool) (n : ℕ) (ends : Option Value → Bool)
    (by_itself : ends None ≡ true) (m : Held) (active : Option Value) (callee : Option Told)
    (s : State S Names Value World)
    (is : IsToTell program machine ways m (waiting AtPlace active (pending.Doing callee)) [] s)
    (i : Ins) (there : (code.object (block_of m.code.here)).at m.code.here.pc.0 ≡ Some i) where
  abbrev Run : Type 0
  Run = State S Names Value World

  abbrev host : Host Names Value World
  host = heap_host program

  abbrev obj : CodeObject Value
  obj = code.object (block_of m.code.here)

  abbrev ss : Slots Value
  ss = slots_view m.code.here.slots

  abbrev here : pend.Standpoint S
  here = standpoint ways s.here.state AtPlace m.code.here

  -- what waits in the run is an act
  record Waits (r : run.Pending S Value) : Type 0 where
    ask : OpenAsk S Value
    these : r ≡ run.doing ask
    asked : IsAsked machine here ask
    called : ask.callee ≡ option_map callee_view callee

  abbrev Waits_so : Pending → run.Pending S Value → Type 0
  Waits_so (pending.Doing c) r = (c ≡ callee) → Waits r
  Waits_so p r = Unit {0}

  waits-so : (p : Pending) (r : run.Pending S Value) → IsPending machine here p r → Waits_so p r
  waits-so _ _ pend.starting = tt
  waits-so _ _ (pend.doing q c asked e) = λ same. record {
    ask = q;
    these = refl;
    asked = asked;
    called = e ∙ ap (λ o. option_map callee_view o) same;
  }
  waits-so _ _ (pend.going from f e) = tt
  waits-so _ _ (pend.giving_on y v x) = tt
  waits-so _ _ (pend.going_on y r x) = tt
  waits-so _ _ (pend.ending e) = tt

  waits : Waits is.pending
  waits = waits-so (pending.Doing callee) is.pending is.waits refl

  -- its turn is that of the instruction
  turn-is : turn_in embed (perform obj m.code.here.pc.0 i i.instr ss) ≡ T.act waits.asked.mark waits.ask.ask waits.ask.next
  turn-is =
      ap (λ o. turn_in embed (slots.here obj m.code.here.pc.0 o ss)) (sym there)
      ∙ sym (is_of.turn (block_of m.code.here) (on m.code.here.pc.0 ss))
      ∙ ap (λ c. machine.turn (block_of m.code.here) c) (sym (is.stands ∙ is_of.stands AtPlace m.code.here))
      ∙ waits.asked.turn

  of_code : IsOfTurn embed waits.ask (perform obj m.code.here.pc.0 i i.instr ss) waits.asked.mark
  of_code = of-turn embed waits.ask (perform obj m.code.here.pc.0 i i.instr ss) waits.asked.mark turn-is

  abbrev ask : OpenAsk (CodeState Value) Value
  ask = of_code.ask

  -- the run asks
  abbrev begun : OpenAsk S Value → Run
  begun q = do_ask machine host q.ask q.next q.is_act q.callee s

  stepped : step machine host n s ≡ O.goes [] (begun (in_run embed ask))
  stepped =
      ap (λ p. by_phase machine host n p s) (is.phase ∙ ap (λ r. run.telling [] r) waits.these)
      ∙ ap (λ q. O.goes [] (begun q)) (sym of_code.same)

  abbrev phase_then : run.Phase S Names Value World
  phase_then = (begun (in_run embed ask)).phase

  begun-is : begun (in_run embed ask) ≡ at phase_then s
  begun-is =
      phase-alone machine host (in_run embed ask).ask (in_run embed ask).next (in_run embed ask).is_act (in_run embed ask).callee s

  abbrev then_s : Run
  then_s = at phase_then s

  row-is : row_of host obj m.code.here.pc.0 i i.instr ss (here_of machine s) (store s)
      ≡ successor (of_open_ask host ask (here_of machine s) (store s))
  row-is =
      ap (λ t. successor (transition host t (here_of machine s) (store s))) of_code.turn
      ∙ turned host (here_of machine s) (store s) ask waits.asked.mark

  leads-so : Leads machine host (minded minds) n ends embed ask
      (successor (of_open_ask host ask (here_of machine s) (store s))) then_s
  leads-so =
      subst (λ t. Leads machine host (minded minds) n ends embed ask (successor (of_open_ask host ask (here_of machine s) (store s))) t) begun-is
      (asks_lead machine host (minded minds) n ends embed ask s (λ h st. iterators_end_by_themselves ends by_itself program ask.ask h st))

  done : IsDone program code machine embed ways minds n ends m i callee (here_of machine s) (store s) then_s
  done = record {
    ask = ask;
    mark = waits.asked.mark;
    turn = of_code.turn;
    takes = subst (λ t. TakesIfAsked obj i (taken obj.pool i.instr) ss t) of_code.turn (instructions_take obj i m.code.here.pc.0 i.instr ss);
    is_act = of_code.is_act ∙ waits.asked.is_act;
    called = of_code.called ∙ waits.called;
    leads = λ l row. subst (λ x. Leads machine host (minded minds) n ends embed ask x then_s) (sym (row ∙ row-is)) leads-so;
  }

  comes : Comes program machine ways minds n s [] then_s
  comes = record {
    outputs = [];
    steps = behind_step s then_s then_s [] [] (stepped ∙ ap (λ t. O.goes [] t) begun-is) (stays then_s);
    written = refl;
  }

pub acts_as_run : {S : Type 0} (program : Program) (code : CodeBlocks Value)
    (machine : Machine S Value) (embed : CodeState Value → S) (ways : Ways S)
    → IsOfCode code machine embed ways → (minds : Event Value → Bool) (n : ℕ)
    (ends : Option Value → Bool) → ends None ≡ true
    → ActsAsRun program code machine embed ways minds n ends
acts_as_run program code machine embed ways is_of minds n ends by_itself m active callee s is i there =
    let p = phase_then program code machine embed ways is_of minds n ends by_itself m active callee s is i there in (
      p,
      (
        comes program code machine embed ways is_of minds n ends by_itself m active callee s is i there,
        done program code machine embed ways is_of minds n ends by_itself m active callee s is i there,
      ),
    )
