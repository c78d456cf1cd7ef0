-- An ask that waited gets a value or an exception, as in a run.
use Rattle.std.proofs.Common.{◌≡◌, ◌∙◌, ℕ, suc, List, [], ◌∷◌, ◌++◌, Bool, false, Option, Some, None, refl, sym, ap, subst}
use Rattle.std.specs.Prelude.{length}
use Rattle.pt_base.specs.declared.numbers.Pc.{Pc}
use Rattle.pt_heap.specs.declared.value.Value.{Value}
use Rattle.pt_ranges.specs.declared.handlers.Handler.{Handler}
use Rattle.pt_code.specs.View.{Ins}
use Rattle.pt_frames.specs.declared.slot.Slot.{Slot}
use Rattle.pt_frames.specs.Slots.{active_in}
use Rattle.pt_frames.specs.declared.purpose.Purpose.{Purpose as For}
use Rattle.sem_control.specs.control.Turn.{Reply, Answer, got, raised}
use Rattle.sem_control.specs.control.Events as E
use Rattle.sem_code.specs.slots.Slots as C
use Rattle.sem_code.specs.slots.Slots.{Slots, State as CodeState}
use Rattle.sem_code.specs.slots.CodeObject.{CodeObject}
use Rattle.sem_code.specs.slots.Landing.{land}
use Rattle.sem_code_machine.specs.code_machine.CodeBlocks.{CodeBlocks}
use Rattle.law_origins.specs.Landings.{lands_with}
use Rattle.law_origins.proofs.Landing.{below_what_is_given}
use Rattle.sem_run.specs.run.Machine.{Machine}
use Rattle.sem_run.specs.run.Events.{Event}
use Rattle.sem_run.specs.run.Host.{Host, Finding}
use Rattle.sem_run.specs.run.State.{State, OpenAsk, answering, at, with_store}
use Rattle.sem_run.specs.run.Views as views
use Rattle.sem_run.specs.run.Outcome as O
use Rattle.sem_run.specs.run.Step.{step, reply_to}
use Rattle.sem_run.specs.transitions.Transitions.{by_answer, replies}
use Rattle.sem_run.specs.transitions.Laws.{Does}
use Rattle.pt_giving.proofs.AnswersDone.{answers_done}
use Rattle.sem_steps.specs.Steps.{behind_step}
use Rattle.pt_calling.specs.pt_arising.pt_opening.pt_host.World.{Names, World, Stores, Program}
use Rattle.pt_calling.specs.pt_arising.pt_opening.pt_host.Trees.{Tree}
use Rattle.pt_calling.specs.pt_arising.pt_opening.pt_host.HeapHost.{heap_host}
use Rattle.pt_calling.specs.pt_machine_state.pt_code_facts.sem_rows.heap_rows.Leads.{giving}
use Rattle.pt_calling.specs.pt_machine_state.pt_code_facts.sem_rows.heap_rows.Views.{slots_view}
use Rattle.pt_pendings.specs.declared.pending.Origin.{Origin}
use Rattle.pt_calling.specs.pt_machine_state.declared.blocks.BlockCode.{BlockCode}
use Rattle.pt_calling.specs.pt_machine_state.Blocks.{IsBlockOf}
use Rattle.pt_calling.specs.pt_arising.pt_opening.pt_purposes.declared.purpose.Called.{Called}
use Rattle.pt_calling.specs.pt_arising.pt_opening.pt_purposes.declared.standing.Standing.TheVariants.{AtPlace}
use Rattle.pt_calling.specs.pt_arising.pt_opening.pt_purposes.Seen.{block_of}
use Rattle.pt_calling.specs.pt_arising.pt_opening.pt_purposes.Asks.{told_by_control}
use Rattle.pt_calling.specs.pt_arising.pt_opening.pt_purposes.Openers.{Ways, origin_in, origin_for, IsWaiting}
use Rattle.pt_calling.specs.pt_arising.pt_opening.pt_run_state.declared.machine.Machine.{Machine as Held}
use Rattle.pt_calling.specs.pt_arising.pt_opening.pt_run_state.Stands.{Stands, StandsAround}
use Rattle.pt_calling.specs.pt_arising.pt_opening.pt_telling.Telling.{Told}
use Rattle.pt_calling.specs.pt_arising.pt_opening.pt_telling.Laws.{Comes}
use Rattle.pt_calling.specs.pt_arising.pt_replying.pt_turning.Ways.{IsOfCode, rows_at}
use Rattle.pt_calling.specs.pt_arising.pt_replying.Laws.{IsGiven}
use Rattle.pt_calling.proofs.pt_replying.Replies.{replies_as_run}
use Rattle.pt_calling.specs.pt_arising.Laws.{IsReplied}
use Rattle.pt_calling.specs.pt_arising.Arising.{arisen}
use Rattle.pt_calling.proofs.pt_arising.Arises.{arises_as_run, tells_raise}
use Rattle.pt_giving.specs.Giving.{given_above, plainly, given_to}

length-view : (slots : List Slot) → length (slots_view slots) ≡ length slots
length-view [] = refl
length-view (s ∷ ss) = ap suc (length-view ss)

module _ {S : Type 0} (program : Program) (code : CodeBlocks Value) (machine : Machine S Value)
    (embed : CodeState Value → S) (ways : Ways S) (is_of : IsOfCode code machine embed ways)
    (minds : Event Value → Bool) (n : ℕ) (m : Held) (q : OpenAsk S Value)
    (u : Tree (Finding Value q.ask)) (i : Ins) (called : Option Called) (acts : Bool)
    (s : State S Names Value World) (st : Stores)
    (around : StandsAround program machine ways m (with_store st (at (answering q u) s)))
    (active_is : machine.active s.here.state ≡ active_in m.code.here.slots)
    (phase : s.phase ≡ answering q u) (why : For)
    (waits : IsWaiting ways m.code.here why called acts q)
    (plain : origin_for why m.code.here ≡ origin_in m.code.here)
    (there : (code.object (block_of m.code.here)).at m.code.here.pc.0 ≡ Some i)
    (block : BlockCode) (known : IsBlockOf program code (block_of m.code.here) block) where
  abbrev Run : Type 0
  Run = State S Names Value World

  abbrev host : Host Names Value World
  host = heap_host program

  abbrev obj : CodeObject Value
  obj = code.object (block_of m.code.here)

  abbrev ss : Slots Value
  ss = slots_view m.code.here.slots

  abbrev rows : List Handler
  rows = rows_at code m.code.here m.code.here.pc

  abbrev from : Origin
  from = origin_in m.code.here

  abbrev active : Option Value
  active = active_in m.code.here.slots

  -- the run with its phase as it is known, and with these stores
  abbrev there_s : Run
  there_s = at (answering q u) s

  abbrev then_s : Run
  then_s = with_store st there_s

  there-is : s ≡ there_s
  there-is = ap (λ p. at p s) phase

  abbrev To : Told → Type 0
  To r = (t : Run) × (Comes program machine ways minds n s [] t × Stands program machine ways r.machine t)

  -- the reply is taken
  pub taken : (x : Reply Value (Answer Value q.ask)) → by_answer q u ≡ replies q x None st
      → step machine host n s ≡ O.goes [] (reply_to machine host q x [] then_s)
  taken x is_reply =
      ap (λ t. step machine host n t) there-is
      ∙ subst (λ t. Does machine host n t there_s) is_reply (answers_done machine host n q u there_s)

  pub behind : (t1 t : Run) → step machine host n s ≡ O.goes [] t1
      → Comes program machine ways minds n t1 [] t → Comes program machine ways minds n s [] t
  behind t1 t is_step c = record {
    outputs = c.outputs;
    steps = behind_step s t1 t [] c.outputs is_step c.steps;
    written = c.written;
  }

  -- a raise lands by the slots that are left, whatever lies above them
  pub lands-below : (over : Slots Value) (v : Value)
      → lands_with obj rows (length m.code.here.slots) (over ++ ss) v ≡ land obj rows (C.raise v) ss
  lands-below over v =
      ap (λ k. lands_with obj rows k (over ++ ss) v) (sym (length-view m.code.here.slots))
      ∙ below_what_is_given obj rows over ss v

  pub raises-so : (v : Value) → q.next (raised v) ≡ embed (land obj rows (C.raise v) ss)
  raises-so v =
      waits.raises v ∙ ap (λ o. ways.lands m.code.here o v) plain ∙ is_of.lands m.code.here from v
      ∙ ap embed (lands-below [] v)

  -- a value is given, which lies above the slots then
  module _ (next : Pc) (next_is : i.next ≡ next.0) (decides : ways.decides m.code.here from ≡ false)
      (v : Value) where
    abbrev m2 : Held
    m2 = given_above next v m

    around-above : StandsAround program machine ways m2 then_s
    around-above = record {
      at_place = around.at_place;
      here = record {
        frame = around.here.frame;
        act = around.here.act;
        behind_jump = around.here.behind_jump;
      };
      openers = around.openers;
      generators = around.generators;
      world = around.world;
      trace = around.trace;
      tools = around.tools;
      units = around.units;
      frames = around.frames;
      numbers = around.numbers;
      untraced = around.untraced;
    }

    undecided : (x : Answer Value q.ask) → E.answered q.ask x ≡ []
    undecided x =
        waits.told.control None (got x)
        ∙ ap (λ d. told_by_control {A = Answer Value q.ask} d (got x)) decides

    given-so : (x : Answer Value q.ask) → q.next (got x) ≡ embed (giving obj i ss v)
        → IsGiven program code machine embed ways minds n m2 q x (plainly called) acts AtPlace active from then_s
    given-so x leads = record {
      around = around-above;
      active_is = active_is;
      is_act = waits.told.is_act;
      call = waits.told.call (got x);
      control = undecided x;
      destination = tt;
      leads = leads ∙ ap (λ k. embed (C.on k (C.value v ∷ ss))) next_is;
      settles = refl;
      lands = λ something w. raises-so w ∙ ap embed (sym (lands-below (C.value v ∷ []) w));
    }

    pub gives : (x : Answer Value q.ask) → by_answer q u ≡ replies q (got x) None st
        → q.next (got x) ≡ embed (giving obj i ss v) → To (given_to block next v called acts m)
    gives x is_reply leads =
        let to = replies_as_run program code machine embed ways is_of minds n m2 q x (plainly called) acts AtPlace active from then_s (given-so x leads) block known in
        (to.0, (behind _ to.0 (taken (got x) is_reply) to.1.0, to.1.1))

  -- an exception arises
  replied-so : IsReplied program code machine embed ways minds n m q called acts active then_s
  replied-so = record {
    around = around;
    active_is = active_is;
    told = tells_raise q called acts (ways.decides m.code.here from) (views.active machine then_s) waits.told;
    lands = raises-so;
  }

  pub arises : (v : Value) → by_answer q u ≡ replies q (raised v) None st
      → To (arisen block v called acts active m)
  arises v is_reply =
      let to = arises_as_run program code machine embed ways is_of minds n m q called acts active then_s replied-so i there v block known in
      (to.0, (behind _ to.0 (taken (raised v) is_reply) to.1.0, to.1.1))
