-- Instructions fail as in a run.
use Rattle.std.proofs.Common.{◌≡◌, ◌∙◌, ℕ, List, [], ◌∷◌, ◌++◌, Bool, true, false, Option, None, refl, sym, ap, subst}
use Rattle.std.specs.Prelude.{if◌then◌else◌, nat_eq, length}
use Rattle.pt_base.specs.declared.what.What.{What}
use Rattle.pt_base.specs.declared.what.What.TheVariants.{Heap}
use Rattle.pt_heap.specs.declared.value.Value.{Value}
use Rattle.pt_heap.specs.declared.value.Value.TheVariants.{Obj}
use Rattle.pt_heap.specs.declared.object.Object.{Object}
use Rattle.pt_content.specs.Changes.{next_object}
use Rattle.pt_code.specs.View.{Ins}
use Rattle.sem_control.specs.control.Bases.{or_else}
use Rattle.sem_code.specs.slots.Slots as C
use Rattle.sem_code.specs.slots.Slots.{Slots, State as CodeState}
use Rattle.sem_code.specs.slots.CodeObject.{CodeObject}
use Rattle.sem_code.specs.slots.Landing.{land}
use Rattle.sem_code_machine.specs.code_machine.CodeBlocks.{CodeBlocks}
use Rattle.law_leads.specs.Leads.{Leads, in_run}
use Rattle.law_takes.proofs.Alike.{lands_alike}
use Rattle.law_steps.proofs.waiting.Telling.{seen_tells}
use Rattle.sem_run.specs.run.Machine.{Machine}
use Rattle.sem_run.specs.run.Events.{Event}
use Rattle.sem_run.specs.run.Host.{Host, made, beyond}
use Rattle.sem_run.specs.run.State.{State, OpenAsk, with_store}
use Rattle.sem_run.specs.run.Views.{here_of, visible_line}
use Rattle.sem_run.specs.run.Outcome as O
use Rattle.sem_run.specs.run.Outcome.{Output}
use Rattle.sem_run.specs.run.Step.{step}
use Rattle.sem_run.specs.transitions.Successors as leads
use Rattle.sem_steps.specs.Steps.{Steps, minded}
use Rattle.sem_steps.proofs.Moves.{join}
use Rattle.pt_openers.specs.Openers.{active_in}
use Rattle.pt_answering.specs.pt_replying.pt_turning.sem_rows.pt_host.World.{Names, World, Stores, Program, Allotted, IsAllotted, allot, with_objects}
use Rattle.pt_answering.specs.pt_replying.pt_turning.sem_rows.pt_host.Calls.{arguments_of}
use Rattle.pt_answering.specs.pt_replying.pt_turning.sem_rows.pt_host.Errors.{arise_while, error, error_saying, object_place}
use Rattle.pt_answering.specs.pt_replying.pt_turning.sem_rows.pt_host.Trees.{raise_with}
use Rattle.pt_answering.specs.pt_replying.pt_turning.sem_rows.pt_host.HeapHost.{heap_host}
use Rattle.pt_answering.specs.pt_replying.pt_turning.sem_rows.heap_rows.Leads.{by_tree, giving}
use Rattle.pt_answering.specs.pt_replying.pt_turning.sem_rows.heap_rows.Views.{slots_view}
use Rattle.pt_answering.specs.pt_replying.pt_turning.sem_rows.declared.heap_rows.progress.Progress.{Progress}
use Rattle.pt_answering.specs.pt_replying.pt_turning.sem_rows.declared.heap_rows.progress.Progress.TheVariants as progress
use Rattle.pt_answering.specs.pt_replying.pt_turning.pt_telling.pt_transfers.pt_machine_state.declared.blocks.BlockCode.{BlockCode}
use Rattle.pt_answering.specs.pt_replying.pt_turning.pt_telling.pt_transfers.pt_machine_state.Blocks.{IsBlockOf}
use Rattle.pt_answering.specs.pt_replying.pt_turning.pt_telling.pt_transfers.pt_machine_state.Views.{stores_of}
use Rattle.pt_answering.specs.pt_replying.pt_turning.pt_telling.pt_run_state.pt_purposes.Seen.{block_of, active_of}
use Rattle.pt_answering.specs.pt_replying.pt_turning.pt_telling.pt_run_state.pt_purposes.Openers.{Ways}
use Rattle.pt_answering.proofs.pt_machine_state.FailLemmas.{saying-heap}
use Rattle.pt_answering.proofs.pt_purposes.Seeing.{parts_tell}
use Rattle.pt_answering.proofs.pt_telling.Around.{are-seen}
use Rattle.pt_answering.specs.pt_replying.pt_turning.pt_telling.pt_run_state.declared.machine.Machine.{Machine as Held}
use Rattle.pt_answering.specs.pt_replying.pt_turning.pt_telling.pt_run_state.Stands.{Stands, StandsAround}
use Rattle.pt_answering.specs.pt_replying.pt_turning.pt_telling.Laws.{Comes}
use Rattle.pt_answering.specs.pt_replying.pt_turning.Ways.{IsOfCode, rows_of, rows_at}
use Rattle.pt_answering.specs.pt_arising.Laws.{IsReplied}
use Rattle.pt_answering.proofs.pt_arising.Arises.{arises_as_run}
use Rattle.pt_failing.specs.declared.failing.Failed.{Failed}
use Rattle.pt_failing.specs.declared.failing.Failing.{Failing}
use Rattle.pt_failing.specs.Failing.{FailedSo, context_of, with_heap, arisen_by, failed_by, FailsOf, FailsSo}
use Rattle.pt_failing.specs.Laws.{IsFailing, BehindFailure, goes_on, leaves, further, FailsAsRun}

-- what is too much for a heap leaves the profile
pub beyond-heap : (o : Object) (h : List Object) (what : What) → allot o h ≡ beyond what → what ≡ Heap
beyond-heap o h what e = by (nat_eq (length h) _) (next_object h) (h ++ o ∷ []) e
  where
    by : (b : Bool) (v : Value) (k : List Object)
        → ◌≡◌ {A = Allotted} (if b then beyond Heap else made v k) (beyond what) → what ≡ Heap
    by true v k e = cc
    by false v k e = absurd cc

module _ {S : Type 0} (program : Program) (code : CodeBlocks Value) (machine : Machine S Value)
    (embed : CodeState Value → S) (ways : Ways S) (is_of : IsOfCode code machine embed ways)
    (minds : Event Value → Bool) (n : ℕ) (ends : Option Value → Bool) (m : Held)
    (q : OpenAsk (CodeState Value) Value) (i : Ins) (f : Failing)
    (s : State S Names Value World) (block : BlockCode)
    (known : IsBlockOf program code (block_of m.code.here) block) where
  abbrev Run : Type 0
  Run = State S Names Value World

  abbrev host : Host Names Value World
  host = heap_host program

  abbrev Go : Run → List (Output Value) → Run → Type 0
  Go = Steps machine host (minded minds) n

  abbrev Is : Progress → Type 0
  Is p = IsFailing program code machine embed ways minds n ends m q i p f s

  abbrev st : Stores
  st = stores_of program m.code

  abbrev obj : CodeObject Value
  obj = code.object (block_of m.code.here)

  abbrev ss : Slots Value
  ss = slots_view m.code.here.slots

  abbrev To : Held → Type 0
  To k = (t : Run) × (Comes program machine ways minds n s [] t × Stands program machine ways k t)

  comes-behind : (u t : Run) → Go s [] u → Comes program machine ways minds n u [] t
      → Comes program machine ways minds n s [] t
  comes-behind u t g c = record {
    outputs = c.outputs;
    steps = join machine host (minded minds) n s u t [] c.outputs g c.steps;
    written = c.written;
  }

  -- the heap is another one
  around-heap : (h : List Object) → StandsAround program machine ways m (with_store st s)
      → StandsAround program machine ways (with_heap h m) (with_store (with_objects h st) s)
  around-heap h around = record {
    at_place = around.at_place;
    here = record {
      frame = around.here.frame;
      act = around.here.act;
      behind_jump = around.here.behind_jump;
    };
    openers = around.openers;
    generators = around.generators;
    world = refl;
    trace = around.trace;
    tools = around.tools;
    units = around.units;
    frames = around.frames;
    numbers = around.numbers;
    untraced = around.untraced;
  }

  module _ (p : Progress) (is : Is p) where
    rows-are : i.rows ≡ rows_at code m.code.here m.code.here.pc
    rows-are = ap rows_of (sym is.there)

    -- the exception that is active in the run
    context-is : (here_of machine s).active ≡ context_of f.active m
    context-is =
        ap (λ h. h.active) (seen_tells Names World machine _ _ (with_store st s) (are-seen program machine ways m block (with_store st s) is.around)).here
        ∙ ap (λ o. or_else (machine.active s.here.state) o) (sym (parts_tell program m.hooks m.openers).active)
        ∙ ap (λ o. or_else o (active_in active_of m.openers)) is.active_is

    abbrev Leading : leads.Successor (CodeState Value) Names Value World → Type 0
    Leading l = Leads machine host (minded minds) n ends embed q l s

    -- an exception arises
    arisen-so : (v : Value) (h : List Object)
        → Leading (leads.arises v (land obj i.rows (C.raise v) ss) (with_objects h st))
        → To (arisen_by block v f (with_heap h m)).machine
    arisen-so v h (e, g) =
        let is2 : IsReplied program code machine embed ways minds n (with_heap h m) (in_run embed q) f.called f.is_act f.active (with_store (with_objects h st) s) = record {
          around = around-heap h is.around;
          active_is = is.active_is;
          told = is.tells;
          lands = λ w. ap embed
              (is.raises w
              ∙ sym (lands_alike obj i.rows ss is.below v w (sym e ∙ is.raises v))
              ∙ ap (λ rows. land obj rows (C.raise w) ss) rows-are);
        } in
        let to = arises_as_run program code machine embed ways is_of minds n (with_heap h m) (in_run embed q) f.called f.is_act f.active (with_store (with_objects h st) s) is2 i is.there v block known in
        (to.0, (comes-behind _ to.0 g to.1.0, to.1.1))

    abbrev Behind : Failed → Held → Type 0
    Behind r k = BehindFailure program code machine embed ways minds n ends s r k

    abbrev BehindSo : FailedSo → Type 0
    BehindSo x = Behind x.failed x.machine

    abbrev of_tree : Allotted → leads.Successor (CodeState Value) Names Value World
    of_tree a = by_tree obj i (giving obj i ss) ss (raise_with a st)

    -- one that was made, if there was room for it
    made-so : (a : Allotted) (o : Option Value) (h : List Object) → IsAllotted a o h
        → ((what : What) → a ≡ beyond what → what ≡ Heap) → Leading (of_tree a)
        → BehindSo (failed_by block o f (with_heap h m))
    made-so (made v k) o h (e, d) only l =
        subst (λ x. BehindSo (failed_by block x f (with_heap h m))) (sym e)
        (let to = arisen-so v h (subst (λ y. Leading (leads.arises v (land obj i.rows (C.raise v) ss) (with_objects y st))) (sym d) l) in
        goes_on _ _ to.0 to.1.0 to.1.1)
    made-so (beyond what) o h e only l =
        subst (λ x. BehindSo (failed_by block x f (with_heap h m))) (sym e)
        (leaves Heap _ (subst (λ w. step machine host n s ≡ O.ends (O.outside w (visible_line host.first_line s))) (only what refl) l))

    fails-of : (a : Allotted) (r : Failed) (new : Held) → FailsOf a block f m r new
        → ((what : What) → a ≡ beyond what → what ≡ Heap) → Leading (of_tree a) → Behind r new
    fails-of a r new did only l =
        subst BehindSo (sym did.comes) (made-so a did.exception did.heap did.allotted only l)

  fails : (p : Progress) → Is p → (r : Failed) (new : Held) → FailsSo block p f m r new
      → BehindFailure program code machine embed ways minds n ends s r new
  fails (progress.Raises e) is r new did =
      let p : Progress = progress.Raises e in
      let to = arisen-so p is (Obj e) (arise_while (object_place (context_of f.active m)) e m.code.heap)
      (subst (λ o. Leading p is (leads.arises (Obj e) (land obj i.rows (C.raise (Obj e)) ss) (with_objects (arise_while (object_place o) e m.code.heap) st)))
      (context-is p is) is.leads) in
      subst (BehindSo p is) (sym did) (goes_on _ _ to.0 to.1.0 to.1.1)
  fails (progress.Fails class arg) is r new did =
      let p : Progress = progress.Fails class arg in
      fails-of p is (allot (error class (arguments_of arg) None (context_of f.active m)) m.code.heap) r new did
      (λ what. beyond-heap (error class (arguments_of arg) None (context_of f.active m)) m.code.heap what)
      (subst (λ o. Leading p is (of_tree p is (allot (error class (arguments_of arg) None o) m.code.heap))) (context-is p is) is.leads)
  fails (progress.FailsSaying class t) is r new did =
      let p : Progress = progress.FailsSaying class t in
      fails-of p is (error_saying class t None (context_of f.active m) m.code.heap) r new did
      (λ what. saying-heap class t None (context_of f.active m) m.code.heap what)
      (subst (λ o. Leading p is (of_tree p is (error_saying class t None o m.code.heap))) (context-is p is) is.leads)
  fails (progress.Outside what) is r new did =
      subst (BehindSo (progress.Outside what) is) (sym did) (leaves what m is.leads)
  fails progress.Next is r new did = subst (BehindSo progress.Next is) (sym did) (further _ _)
  fails (progress.Goto pc) is r new did = subst (BehindSo (progress.Goto pc) is) (sym did) (further _ _)
  fails (progress.Leaves how) is r new did = subst (BehindSo (progress.Leaves how) is) (sym did) (further _ _)
  fails (progress.Reraises e) is r new did = subst (BehindSo (progress.Reraises e) is) (sym did) (further _ _)
  fails (progress.Print t) is r new did = subst (BehindSo (progress.Print t) is) (sym did) (further _ _)
  fails (progress.Calls b hidden ls why) is r new did = subst (BehindSo (progress.Calls b hidden ls why) is) (sym did) (further _ _)
  fails progress.RaisesAgain is r new did = subst (BehindSo progress.RaisesAgain is) (sym did) (further _ _)
  fails progress.Lacks is r new did = subst (BehindSo progress.Lacks is) (sym did) (further _ _)

pub fails_as_run : {S : Type 0} (program : Program) (code : CodeBlocks Value)
    (machine : Machine S Value) (embed : CodeState Value → S) (ways : Ways S)
    → IsOfCode code machine embed ways → (minds : Event Value → Bool) (n : ℕ)
    (ends : Option Value → Bool) → FailsAsRun program code machine embed ways minds n ends
fails_as_run program code machine embed ways is_of minds n ends m q i p f s is block known r new did =
    fails program code machine embed ways is_of minds n ends m q i f s block known p is r new did
