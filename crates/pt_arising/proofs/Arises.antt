-- An exception arises as in a run.
use Rattle.std.proofs.Common.{◌≡◌, ◌∙◌, ℕ, List, [], ◌∷◌, ◌++◌, ◌-◌, length, map, Bool, true, false, Option, Some, None, refl, sym, ap, append-nil}
use Rattle.std.specs.Prelude.{if◌then◌else◌}
use Rattle.pt_heap.specs.declared.value.Value.{Value}
use Rattle.pt_code.specs.View.{Ins}
use Rattle.sem_control.specs.control.Turn.{Reply, raised, Answer}
use Rattle.sem_control.specs.control.Events as E
use Rattle.sem_code.specs.slots.Slots.{raise, State as CodeState}
use Rattle.sem_code.specs.slots.Landing.{land}
use Rattle.sem_code_machine.specs.code_machine.CodeBlocks.{CodeBlocks}
use Rattle.sem_run.specs.run.Machine.{Machine}
use Rattle.sem_run.specs.run.Events as Told
use Rattle.sem_run.specs.run.Events.{Event, Happening as Said}
use Rattle.sem_run.specs.run.Host.{Host}
use Rattle.sem_run.specs.run.State as run
use Rattle.sem_run.specs.run.State.{State, OpenAsk, at}
use Rattle.sem_run.specs.run.Views as views
use Rattle.sem_run.specs.run.Step.{reply_to, reply_and_tell, happening, destination, of_call, only_raises, events_behind}
use Rattle.pt_replying.specs.pt_turning.sem_rows.pt_host.World.{Names, World, Program}
use Rattle.pt_replying.specs.pt_turning.sem_rows.pt_host.HeapHost.{heap_host}
use Rattle.pt_replying.specs.pt_turning.sem_rows.heap_rows.Views.{slots_view}
use Rattle.pt_happenings.specs.declared.happening.Happening.{Happening}
use Rattle.pt_happenings.specs.Views.{happening_view}
use Rattle.pt_pendings.specs.declared.pending.Origin.{Origin}
use Rattle.pt_pendings.specs.Stands as pend
use Rattle.pt_replying.specs.pt_turning.pt_telling.pt_transfers.pt_machine_state.declared.blocks.BlockCode.{BlockCode}
use Rattle.pt_replying.specs.pt_turning.pt_telling.pt_transfers.pt_machine_state.declared.machine.Standing.{Standing as CodeStanding}
use Rattle.pt_replying.specs.pt_turning.pt_telling.pt_transfers.pt_machine_state.Blocks.{IsBlockOf}
use Rattle.pt_replying.specs.pt_turning.pt_telling.pt_run_state.pt_purposes.declared.purpose.Called.{Called}
use Rattle.pt_replying.specs.pt_turning.pt_telling.pt_run_state.pt_purposes.Seen.{block_of}
use Rattle.pt_replying.specs.pt_turning.pt_telling.pt_run_state.pt_purposes.Asks.{told_of_call, told_by_control, TellsSo}
use Rattle.pt_replying.specs.pt_turning.pt_telling.pt_run_state.pt_purposes.Openers.{Ways, settled}
use Rattle.pt_replying.specs.pt_turning.pt_telling.pt_run_state.declared.machine.Machine.{Machine as Held}
use Rattle.pt_replying.specs.pt_turning.pt_telling.pt_run_state.Stands.{Stands, StandsAround, IsToTell}
use Rattle.pt_replying.specs.pt_turning.pt_telling.Laws.{Comes}
use Rattle.pt_replying.specs.pt_turning.Ways.{IsOfCode, rows_at}
use Rattle.pt_replying.specs.pt_turning.Turning.{standing_of, behind_raise, raised_in}
use Rattle.pt_replying.proofs.pt_turning.Turns.{onward-is, lands-so, around-raised, not-landed}
use Rattle.pt_replying.specs.Replying.{told_on}
use Rattle.pt_replying.proofs.Goes.{tells_on_as_run}
use Rattle.pt_arising.specs.Arising.{arising_told, arising, arisen}
use Rattle.pt_arising.specs.Laws.{TellsRaise, IsReplied, ArisesAsRun}

-- what is told of it in a run
module _ (v : Value) where
  abbrev pub by_act : Bool → List (Said Value) → List (Said Value)
  by_act b hs = if b then hs else only_raises hs

  of_none : (b : Bool) → map happening_view (arising_told None b v) ≡ by_act b (Told.raises v ∷ [])
  of_none true = refl
  of_none false = refl

  of_builtin : (f first : Value) (b builtin : Bool)
      → map happening_view (arising_told (Some (record { function = f; told = record { first = first; builtin = builtin } })) b v)
      ≡ by_act b ((if builtin then Told.raises_from f first ∷ [] else []) ++ Told.raises v ∷ [])
  of_builtin f first true true = refl
  of_builtin f first true false = refl
  of_builtin f first false true = refl
  of_builtin f first false false = refl

  told-so : (A : Type 0) (called : Option Called) (b : Bool)
      → map happening_view (arising_told called b v)
      ≡ by_act b (told_of_call {A = A} called (raised v) ++ Told.raises v ∷ [])
  told-so A None b = of_none b
  told-so A (Some c) b = of_builtin c.function c.told.first b c.told.builtin

-- an exception lands, and what the run tells of it is this
module _ {S : Type 0} (program : Program) (code : CodeBlocks Value) (machine : Machine S Value)
    (embed : CodeState Value → S) (ways : Ways S) (is_of : IsOfCode code machine embed ways)
    (minds : Event Value → Bool) (n : ℕ) (m : Held) (q : OpenAsk S Value) (acts : Bool)
    (active : Option Value) (s : State S Names Value World)
    (around : StandsAround program machine ways m s) (active_is : machine.active s.here.state ≡ active)
    (is_act : q.is_act ≡ acts)
    (lands : (w : Value) → q.next (raised w)
    ≡ embed (land (code.object (block_of m.code.here)) (rows_at code m.code.here m.code.here.pc) (raise w) (slots_view m.code.here.slots)))
    (i : Ins) (there : (code.object (block_of m.code.here)).at m.code.here.pc.0 ≡ Some i) (v : Value)
    (hs : List Happening)
    (tells : by_act v acts (events_behind machine (heap_host program) q (raised v) [] s) ≡ map happening_view hs)
    (block : BlockCode) (known : IsBlockOf program code (block_of m.code.here) block) where
  abbrev Run : Type 0
  Run = State S Names Value World

  abbrev host : Host Names Value World
  host = heap_host program

  abbrev cs : CodeStanding
  cs = (behind_raise block v m).standing

  abbrev m2 : Held
  m2 = raised_in block v m

  abbrev came_from : Origin
  came_from = record {
    pc = m.code.here.pc;
    below = length (behind_raise block v m).here.slots - 1;
  }

  abbrev s1 : Run
  s1 = reply_to machine host q (raised v) [] s

  abbrev instead : Value → S
  instead w = q.next (raised w)

  abbrev telling_so : List (Said Value) → S → run.Phase S Names Value World
  telling_so ks c = run.telling ks (run.going c (λ w. instead w))

  phase-is : s1.phase ≡ telling_so (map happening_view hs) (ways.position (settled (standing_of cs)) m2.code.here)
  phase-is =
      ap (λ b. telling_so (by_act v b (events_behind machine host q (raised v) [] s)) (instead v)) is_act
      ∙ ap (λ ks. telling_so ks (instead v)) tells
      ∙ ap (λ c. telling_so (map happening_view hs) c)
      (lands v ∙ sym (onward-is program code machine embed ways is_of minds n m v i around.at_place there block known))

  around-is : StandsAround program machine ways m2 s1
  around-is = around-raised program code machine embed ways is_of minds n m v i around.at_place there block known s s1.phase around

  to-tell : IsToTell program machine ways m2 (arising block v active m) hs s1
  to-tell = record {
    around = around-is;
    active = active_is;
    pending = run.going (ways.position (settled (standing_of cs)) m2.code.here) (λ w. instead w);
    phase = phase-is;
    waits = pend.going came_from (λ w. instead w)
        (λ w. lands w ∙ lands-so program code machine embed ways is_of minds n m v i around.at_place there block known w);
    stands = not-landed program code machine embed ways is_of minds n cs came_from (s1.here.state ≡ ways.position (standing_of cs) m2.code.here);
  }

  pub lands_telling : (t : Run)
      × (Comes program machine ways minds n s1 [] t
      × Stands program machine ways (told_on block (arising block v active m) hs m2).machine t)
  lands_telling =
      tells_on_as_run program code machine embed ways is_of minds n m2 (standing_of cs) active came_from
      hs s1 to-tell block known

module _ {S : Type 0} (program : Program) (code : CodeBlocks Value) (machine : Machine S Value)
    (embed : CodeState Value → S) (ways : Ways S) (is_of : IsOfCode code machine embed ways)
    (minds : Event Value → Bool) (n : ℕ) (m : Held) (q : OpenAsk S Value) (called : Option Called)
    (acts : Bool) (active : Option Value) (s : State S Names Value World)
    (is : IsReplied program code machine embed ways minds n m q called acts active s) (v : Value)
  where
    abbrev by_control : List (E.Event Value) → List (Said Value)
    by_control es = map (happening (destination machine (heap_host program) (q.next (raised v)) s) (heap_host program).null None) es

    abbrev call_part : List (Said Value)
    call_part = told_of_call {A = Answer Value q.ask} called (raised v)

    behind-is : events_behind machine (heap_host program) q (raised v) [] s ≡ call_part ++ Told.raises v ∷ []
    behind-is =
        ap (λ hs. hs ++ [] ++ by_control (E.after (views.active machine s) q.ask (raised v))) (is.told.call v)
        ∙ ap (λ es. call_part ++ [] ++ by_control es) (is.told.control v)
        ∙ ap (λ hs. hs ++ Told.raises v ∷ []) (append-nil call_part)

    tells-so : by_act v acts (events_behind machine (heap_host program) q (raised v) [] s) ≡ map happening_view (arising_told called acts v)
    tells-so = ap (λ hs. by_act v acts hs) behind-is ∙ sym (told-so v (Answer Value q.ask) called acts)

pub arises_as_run : {S : Type 0} (program : Program) (code : CodeBlocks Value)
    (machine : Machine S Value) (embed : CodeState Value → S) (ways : Ways S)
    → IsOfCode code machine embed ways → (minds : Event Value → Bool) (n : ℕ)
    → ArisesAsRun program code machine embed ways minds n
arises_as_run program code machine embed ways is_of minds n m q called acts active s is i there v block known =
    lands_telling program code machine embed ways is_of minds n m q acts active s is.around is.active_is is.told.is_act is.lands i there v
    (arising_told called acts v)
    (tells-so program code machine embed ways is_of minds n m q called acts active s is v) block known

-- where this is told of each exception, it is of one where any is active
pub tells_raise : {S : Type 0} (q : OpenAsk S Value) (called : Option Called) (acts decides : Bool)
    (active : Option Value) → TellsSo q called acts decides → TellsRaise q called acts active
tells_raise q called acts decides active tells = record {
  is_act = tells.is_act;
  call = λ v. tells.call (raised v);
  control = λ v. tells.control active (raised v) ∙ told_raise decides v;
}
  where
    told_raise : (d : Bool) (v : Value)
        → told_by_control {A = Answer Value q.ask} d (raised v) ≡ E.raises v ∷ []
    told_raise true v = refl
    told_raise false v = refl
