-- `raise` alone does as in a run.
use Rattle.std.proofs.Common.{◌≡◌, ◌∙◌, ℕ, List, [], ◌∷◌, ◌++◌, map, Bool, true, false, Option, Some, None, refl, sym, ap, subst}
use Rattle.std.specs.Prelude.{if◌then◌else◌, codes}
use Rattle.pt_heap.specs.declared.value.Value.{Value}
use Rattle.pt_code.specs.View.{Ins}
use Rattle.sem_control.specs.control.Bases.{or_else}
use Rattle.sem_control.specs.control.Turn as T
use Rattle.sem_control.specs.control.Turn.{raised, Answer}
use Rattle.sem_control.specs.control.Events as E
use Rattle.sem_code.specs.slots.Slots as C
use Rattle.sem_code.specs.slots.Slots.{Slots, State as CodeState}
use Rattle.sem_code.specs.slots.CodeObject.{CodeObject}
use Rattle.sem_code.specs.slots.Landing.{land}
use Rattle.sem_code_machine.specs.code_machine.CodeBlocks.{CodeBlocks}
use Rattle.law_leads.specs.Leads.{Leads, in_run}
use Rattle.law_takes.proofs.Alike.{lands_alike}
use Rattle.law_steps.proofs.waiting.Telling.{seen_tells}
use Rattle.sem_run.specs.run.Machine.{Machine}
use Rattle.sem_run.specs.run.Events as Told
use Rattle.sem_run.specs.run.Events.{Event, Happening as Said}
use Rattle.sem_run.specs.run.Host.{Host}
use Rattle.sem_run.specs.run.State.{State, OpenAsk, with_store}
use Rattle.sem_run.specs.run.Views as views
use Rattle.sem_run.specs.run.Views.{here_of}
use Rattle.sem_run.specs.run.Outcome.{Output}
use Rattle.sem_run.specs.run.Step.{happening, destination, only_raises, events_behind}
use Rattle.sem_run.specs.transitions.Successors as leads
use Rattle.sem_steps.specs.Steps.{Steps, minded}
use Rattle.sem_steps.proofs.Moves.{join}
use Rattle.pt_happenings.specs.Views.{happening_view}
use Rattle.pt_openers.specs.Openers.{active_in}
use Rattle.pt_failing.specs.pt_arising.pt_replying.pt_turning.sem_rows.pt_host.World.{Names, World, Stores, Program}
use Rattle.pt_failing.specs.pt_arising.pt_replying.pt_turning.sem_rows.pt_host.Raising.{raise_active}
use Rattle.pt_failing.specs.pt_arising.pt_replying.pt_turning.sem_rows.pt_host.HeapHost.{heap_host}
use Rattle.pt_failing.specs.pt_arising.pt_replying.pt_turning.sem_rows.heap_rows.Leads.{by_tree, giving}
use Rattle.pt_failing.specs.pt_arising.pt_replying.pt_turning.sem_rows.heap_rows.Views.{slots_view}
use Rattle.pt_failing.specs.pt_arising.pt_replying.pt_turning.pt_telling.pt_transfers.pt_machine_state.declared.blocks.BlockCode.{BlockCode}
use Rattle.pt_failing.specs.pt_arising.pt_replying.pt_turning.pt_telling.pt_transfers.pt_machine_state.Blocks.{IsBlockOf}
use Rattle.pt_failing.specs.pt_arising.pt_replying.pt_turning.pt_telling.pt_transfers.pt_machine_state.Views.{stores_of}
use Rattle.pt_failing.specs.pt_arising.pt_replying.pt_turning.pt_telling.pt_run_state.pt_purposes.Seen.{block_of, active_of}
use Rattle.pt_failing.specs.pt_arising.pt_replying.pt_turning.pt_telling.pt_run_state.pt_purposes.Openers.{Ways}
use Rattle.pt_failing.proofs.pt_arising.pt_replying.pt_turning.pt_tracing.pt_purposes.Seeing.{parts_tell}
use Rattle.pt_failing.proofs.pt_arising.pt_replying.pt_turning.pt_telling.Around.{are-seen}
use Rattle.pt_failing.specs.pt_arising.pt_replying.pt_turning.pt_telling.pt_run_state.declared.machine.Machine.{Machine as Held}
use Rattle.pt_failing.specs.pt_arising.pt_replying.pt_turning.pt_telling.pt_run_state.Stands.{Stands}
use Rattle.pt_failing.specs.pt_arising.pt_replying.pt_turning.pt_telling.Laws.{Comes}
use Rattle.pt_failing.specs.pt_arising.pt_replying.pt_turning.Ways.{IsOfCode, rows_of, rows_at}
use Rattle.pt_failing.specs.pt_arising.Laws.{TellsRaise}
use Rattle.pt_failing.proofs.pt_arising.Arises.{by_act, lands_telling}
use Rattle.pt_failing.specs.declared.failing.Failed.{Failed}
use Rattle.pt_failing.specs.Failing.{FailedSo, context_of}
use Rattle.pt_failing.specs.Laws.{IsFailing, BehindFailure, goes_on}
use Rattle.pt_failing.proofs.Fails.{fails_as_run}
use Rattle.pt_reraising.specs.Raising.{again_told, raised_again, none_active, alone, RaisesIn, RaisesSo}
use Rattle.pt_reraising.specs.Laws.{IsRaising, RaisesAgainAsRun}

module _ {S : Type 0} (program : Program) (code : CodeBlocks Value) (machine : Machine S Value)
    (embed : CodeState Value → S) (ways : Ways S) (is_of : IsOfCode code machine embed ways)
    (minds : Event Value → Bool) (n : ℕ) (ends : Option Value → Bool) (m : Held)
    (q : OpenAsk (CodeState Value) Value) (i : Ins) (acts : Bool) (active : Option Value)
    (s : State S Names Value World)
    (is : IsRaising program code machine embed ways minds n ends m q i acts active s)
    (block : BlockCode) (known : IsBlockOf program code (block_of m.code.here) block) where
  abbrev Run : Type 0
  Run = State S Names Value World

  abbrev host : Host Names Value World
  host = heap_host program

  abbrev Go : Run → List (Output Value) → Run → Type 0
  Go = Steps machine host (minded minds) n

  abbrev st : Stores
  st = stores_of program m.code

  abbrev here_s : Run
  here_s = with_store st s

  abbrev obj : CodeObject Value
  obj = code.object (block_of m.code.here)

  abbrev ss : Slots Value
  ss = slots_view m.code.here.slots

  abbrev asked : OpenAsk S Value
  asked = in_run embed q

  abbrev Leading : leads.Successor (CodeState Value) Names Value World → Type 0
  Leading l = Leads machine host (minded minds) n ends embed q l s

  rows-are : i.rows ≡ rows_at code m.code.here m.code.here.pc
  rows-are = ap rows_of (sym is.there)

  -- the exception that is active in the run
  context-is : views.active machine s ≡ context_of active m
  context-is =
      ap (λ h. h.active) (seen_tells Names World machine _ _ here_s (are-seen program machine ways m block here_s is.around)).here
      ∙ ap (λ o. or_else (machine.active s.here.state) o) (sym (parts_tell program m.hooks m.openers).active)
      ∙ ap (λ o. or_else o (active_in active_of m.openers)) is.active_is

  leads-by : (o : Option Value) → context_of active m ≡ o
      → Leading (by_tree obj i (giving obj i ss) ss (raise_active o (here_of machine s) st))
  leads-by o e =
      subst (λ x. Leading (by_tree obj i (giving obj i ss) ss (raise_active x (here_of machine s) st))) (context-is ∙ e) is.leads

  abbrev Behind : FailedSo → Type 0
  Behind x = BehindFailure program code machine embed ways minds n ends s x.failed x.machine

  -- it goes on
  module _ (v : Value) (same : context_of active m ≡ Some v) where
    abbrev led : Leading (leads.arises v (land obj i.rows (C.raise v) ss) st)
    led = leads-by (Some v) same

    lands-so : (w : Value) → asked.next (raised w) ≡ embed (land obj (rows_at code m.code.here m.code.here.pc) (C.raise w) ss)
    lands-so w =
        ap embed
        (is.raises w
        ∙ sym (lands_alike obj i.rows ss is.below v w (sym led.0 ∙ is.raises v))
        ∙ ap (λ rows. land obj rows (C.raise w) ss) rows-are)

    abbrev by_control : List (E.Event Value) → List (Said Value)
    by_control es = map (happening (destination machine host (asked.next (raised v)) here_s) host.null None) es

    again-so : (b : Bool) → by_act v b (Told.raises_again v ∷ []) ≡ map happening_view (again_told b v)
    again-so true = refl
    again-so false = refl

    tells-so : by_act v acts (events_behind machine host asked (raised v) [] here_s) ≡ map happening_view (again_told acts v)
    tells-so =
        ap (λ hs. by_act v acts (hs ++ [] ++ by_control (E.after (views.active machine here_s) q.ask (raised v)))) (is.tells.call v)
        ∙ ap (λ es. by_act v acts (by_control es)) (is.tells.control (views.active machine here_s) v)
        ∙ ap (λ o. by_act v acts (by_control (E.arisen o (T.throw T.raising_again) v ∷ []))) (context-is ∙ same)
        ∙ again-so acts

    comes-behind : (u t : Run) → Go s [] u → Comes program machine ways minds n u [] t
        → Comes program machine ways minds n s [] t
    comes-behind u t g c = record {
      outputs = c.outputs;
      steps = join machine host (minded minds) n s u t [] c.outputs g c.steps;
      written = c.written;
    }

    goes-again : (t : Run)
        × (Comes program machine ways minds n s [] t
        × Stands program machine ways (raised_again block v acts active m).machine t)
    goes-again =
        let to = lands_telling program code machine embed ways is_of minds n m asked acts active here_s is.around is.active_is is.tells.is_act lands-so i is.there v
        (again_told acts v) tells-so block known in
        (to.0, (comes-behind _ to.0 led.1 to.1.0, to.1.1))

  -- or an exception arises where none is active
  tells-none : context_of active m ≡ None → TellsRaise asked None acts (views.active machine s)
  tells-none none = record {
    is_act = is.tells.is_act;
    call = λ v. is.tells.call v;
    control = λ v. is.tells.control (views.active machine s) v
        ∙ ap (λ o. E.arisen o (T.throw T.raising_again) v ∷ []) (context-is ∙ none);
  }

  fails-so : context_of active m ≡ None
      → IsFailing program code machine embed ways minds n ends m q i none_active (alone acts active) s
  fails-so none = record {
    around = is.around;
    active_is = is.active_is;
    tells = tells-none none;
    there = is.there;
    below = is.below;
    raises = is.raises;
    leads = leads-by None none;
  }

  raises : (o : Option Value) → context_of active m ≡ o → (r : Failed) (new : Held)
      → RaisesIn o block acts active m r new
      → BehindFailure program code machine embed ways minds n ends s r new
  raises (Some v) same r new did =
      let to = goes-again v same in subst Behind (sym did) (goes_on _ _ to.0 to.1.0 to.1.1)
  raises None none r new did =
      fails_as_run program code machine embed ways is_of minds n ends m q i none_active (alone acts active) s (fails-so none) block known r new did

pub raises_again_as_run : {S : Type 0} (program : Program) (code : CodeBlocks Value)
    (machine : Machine S Value) (embed : CodeState Value → S) (ways : Ways S)
    → IsOfCode code machine embed ways → (minds : Event Value → Bool) (n : ℕ)
    (ends : Option Value → Bool) → RaisesAgainAsRun program code machine embed ways minds n ends
raises_again_as_run program code machine embed ways is_of minds n ends m q i acts active s is block known r new did =
    raises program code machine embed ways is_of minds n ends m q i acts active s is block known
    (context_of active m) refl r new did
