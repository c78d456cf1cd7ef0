-- Classes are made as in a run.
use Rattle.std.proofs.Common.{◌≡◌, ◌∙◌, ℕ, List, [], ◌∷◌, Bool, true, false, Option, Some, None, refl, sym, ap, subst}
use Rattle.std.specs.Prelude.{codes}
use Rattle.pt_base.specs.declared.numbers.ObjId.{ObjId}
use Rattle.pt_base.specs.declared.numbers.Pc.{Pc}
use Rattle.pt_base.specs.declared.what.What.{What}
use Rattle.pt_base.specs.declared.what.What.TheVariants.{Feature, Heap}
use Rattle.pt_heap.specs.declared.value.Value.{Value}
use Rattle.pt_heap.specs.declared.object.Object.{Object}
use Rattle.pt_names.specs.Names.{bindings_of}
use Rattle.pt_code.specs.View.{Ins}
use Rattle.pt_frames.specs.declared.activation.Activation.{Activation}
use Rattle.sem_control.specs.control.Turn as T
use Rattle.sem_control.specs.control.Turn.{gave, got}
use Rattle.sem_code.specs.slots.Slots.{Slots, State as CodeState}
use Rattle.sem_code.specs.slots.CodeObject.{CodeObject}
use Rattle.sem_code_machine.specs.code_machine.CodeBlocks.{CodeBlocks}
use Rattle.sem_run.specs.run.Machine.{Machine}
use Rattle.sem_run.specs.run.Events.{Event}
use Rattle.sem_run.specs.run.Host as H
use Rattle.sem_run.specs.run.Host.{Host, Here, BlockResult, Finding, made, beyond}
use Rattle.sem_run.specs.run.State.{State, OpenAsk, answering, at, store, with_store}
use Rattle.sem_run.specs.run.Views.{visible_line}
use Rattle.sem_run.specs.run.Outcome as O
use Rattle.sem_run.specs.run.Step.{step}
use Rattle.sem_run.specs.transitions.Transitions as turns
use Rattle.sem_run.specs.transitions.Transitions.{by_answer, replies}
use Rattle.sem_run.specs.transitions.Laws.{Does}
use Rattle.pt_giving.specs.pt_host.declared.classes.Base.{Base}
use Rattle.pt_giving.specs.pt_host.declared.classes.Base.TheVariants.{On, Unavailable, NoBase}
use Rattle.pt_giving.specs.pt_host.declared.places.TheConstants.{TYPE_ERROR}
use Rattle.pt_giving.specs.pt_host.Classes as classes
use Rattle.pt_giving.specs.pt_host.Classes.{base_of, bound_entries, class_object, class_with, own_names}
use Rattle.pt_giving.specs.pt_host.Errors.{error_saying}
use Rattle.pt_giving.specs.pt_host.HeapHost.{heap_host}
use Rattle.pt_giving.specs.pt_host.Trees.{Tree, raise_with}
use Rattle.pt_giving.specs.pt_host.Variables.{with_cell}
use Rattle.pt_giving.specs.pt_host.World.{Names, World, Stores, CodeFacts, Program, Allotted, IsAllotted, allot, with_objects, with_heap as in_heap}
use Rattle.pt_giving.specs.pt_purposes.sem_rows.heap_rows.Leads.{HeapSuccessor, by_tree, giving}
use Rattle.pt_giving.specs.pt_purposes.sem_rows.heap_rows.Told.{resumed}
use Rattle.pt_giving.specs.pt_purposes.sem_rows.heap_rows.Views.{slots_view}
use Rattle.pt_frames.specs.declared.purpose.Purpose.TheVariants.{Class}
use Rattle.law_leads.specs.Leads.{left_with}
use Rattle.pt_giving.specs.pt_turning.pt_telling.pt_transfers.pt_machine_state.declared.blocks.BlockCode.{BlockCode}
use Rattle.pt_giving.specs.pt_turning.pt_telling.pt_transfers.pt_machine_state.Blocks.{IsBlockOf}
use Rattle.pt_giving.proofs.pt_machine_state.FailLemmas.{saying-heap}
use Rattle.pt_giving.specs.pt_purposes.declared.purpose.Called.{Called}
use Rattle.pt_giving.specs.pt_purposes.Seen.{block_of}
use Rattle.pt_giving.specs.pt_purposes.Asks.{led_in, DoneSo}
use Rattle.pt_giving.specs.pt_purposes.Openers.{Ways}
use Rattle.pt_giving.specs.pt_turning.pt_telling.pt_run_state.declared.machine.Machine.{Machine as Held}
use Rattle.pt_giving.specs.pt_turning.pt_telling.pt_run_state.Stands.{world_of, Stands, StandsAround}
use Rattle.pt_giving.specs.pt_turning.pt_telling.Laws.{Comes}
use Rattle.pt_giving.specs.pt_turning.Ways.{IsOfCode, resumed_by}
use Rattle.pt_giving.proofs.pt_turning.Turns.{around-at}
use Rattle.pt_giving.specs.pt_failing.declared.failing.Failed.{Failed}
use Rattle.pt_giving.specs.pt_failing.Failing.{FailedSo, failed_by, FailsOf, with_heap}
use Rattle.pt_giving.proofs.pt_failing.Fails.{beyond-heap}
use Rattle.pt_giving.proofs.AnswersDone.{answers_done}
use Rattle.pt_giving.proofs.Gives.{none_stops}
use Rattle.pt_giving.proofs.Taken.{gives, arises}
use Rattle.pt_making.specs.Making.{class_of_body, filled, made_by, MakesOf, failing_here, MakesBy, MakesSo}
use Rattle.pt_making.specs.Laws.{Body, IsMaking, BehindClass, goes_on, leaves, MakesAsRun}

module _ {S : Type 0} (program : Program) (code : CodeBlocks Value) (machine : Machine S Value)
    (embed : CodeState Value → S) (ways : Ways S) (is_of : IsOfCode code machine embed ways)
    (minds : Event Value → Bool) (n : ℕ) (m : Held) (q : OpenAsk S Value)
    (u : Tree (Finding Value q.ask)) (i : Ins) (next : Pc) (x : Body) (called : Option Called)
    (acts : Bool) (here : Here Value) (facts : CodeFacts) (r : BlockResult Names Value)
    (s : State S Names Value World)
    (is : IsMaking program code machine embed ways minds n m q u i next x called acts here facts r s)
    (block : BlockCode) (known : IsBlockOf program code (block_of m.code.here) block) where
  abbrev Run : Type 0
  Run = State S Names Value World

  abbrev host : Host Names Value World
  host = heap_host program

  abbrev obj : CodeObject Value
  obj = code.object (block_of m.code.here)

  abbrev ss : Slots Value
  ss = slots_view m.code.here.slots

  abbrev there_s : Run
  there_s = at (answering q u) s

  abbrev Behind : Failed → Held → Type 0
  Behind f new = BehindClass program code machine embed ways minds n s f new

  abbrev BehindSo : FailedSo → Type 0
  BehindSo f = Behind f.failed f.machine

  abbrev Lead : Tree Value → Type 0
  Lead t = DoneSo q None (led_in embed (by_tree obj i (giving obj i ss) ss t)) (by_answer q u)

  there-is : s ≡ there_s
  there-is = ap (λ p. at p s) is.phase

  -- the run leaves the profile
  left-so : (what : What) → by_answer q u ≡ turns.leaves what
      → step machine host n s ≡ O.ends (O.outside what (visible_line host.first_line s))
  left-so what e =
      ap (λ t. step machine host n t) there-is
      ∙ subst (λ t. Does machine host n t there_s) e (answers_done machine host n q u there_s)

  -- the world of the machine with a heap
  heap-is : s.world.heap ≡ m.code.heap
  heap-is = ap (λ w. w.heap) is.around.world

  around-heap : (k : List Object) → StandsAround program machine ways (with_heap k m) (with_store (with_objects k (store s)) there_s)
  around-heap k = record {
    at_place = is.around.at_place;
    here = record {
      frame = is.around.here.frame;
      act = is.around.here.act;
      behind_jump = is.around.here.behind_jump;
    };
    openers = is.around.openers;
    generators = is.around.generators;
    world = ap (λ w. in_heap k w) is.around.world;
    trace = is.around.trace;
    tools = is.around.tools;
    units = is.around.units;
    frames = is.around.frames;
    numbers = is.around.numbers;
    untraced = is.around.untraced;
  }

  around-filled : (cell : Option ℕ) (v : Value) (k : List Object)
      → StandsAround program machine ways (filled cell v (with_heap k m)) (with_store (with_cell cell (Some v) (with_objects k (store s))) there_s)
  around-filled None v k = around-heap k
  around-filled (Some c) v k = record {
    at_place = is.around.at_place;
    here = record {
      frame = is.around.here.frame;
      act = is.around.here.act;
      behind_jump = is.around.here.behind_jump;
    };
    openers = is.around.openers;
    generators = is.around.generators;
    world = ap (λ w. (with_cell (Some c) (Some v) (record { names = s.here.frame.names; world = in_heap k w })).world) is.around.world;
    trace = is.around.trace;
    tools = is.around.tools;
    units = is.around.units;
    frames = is.around.frames;
    numbers = is.around.numbers;
    untraced = is.around.untraced;
  }

  -- the run is given it
  replied-so : (v : Value) (st : Stores) (l : Lead (H.answer v st))
      → by_answer q u ≡ replies q (got l.0) None st
  replied-so v st l = l.1.0 ∙ ap (λ o. replies q (got l.0) o st) (none_stops q.ask l.0)

  -- a class that was made
  made-filled : (cell : Option ℕ) (v : Value) (k : List Object)
      → Lead (H.answer v (with_cell cell (Some v) (with_objects k (store s))))
      → BehindSo (made_by block next (Some v) cell called acts (with_heap k m))
  made-filled None v k l =
      let st : Stores = with_objects k (store s) in
      let to = gives program code machine embed ways is_of minds n (with_heap k m) q u i called acts s st (around-heap k) is.active_is is.phase (Class x.base x.cell) is.waits refl is.there block known
      next is.next_is is.decides v l.0 (replied-so v st l) l.1.1 in
      goes_on _ _ to.0 to.1.0 to.1.1
  made-filled (Some c) v k l =
      let st : Stores = with_cell (Some c) (Some v) (with_objects k (store s)) in
      let to = gives program code machine embed ways is_of minds n (filled (Some c) v (with_heap k m)) q u i called acts s st (around-filled (Some c) v k) is.active_is is.phase (Class x.base x.cell) is.waits refl is.there block known
      next is.next_is is.decides v l.0 (replied-so v st l) l.1.1 in
      goes_on _ _ to.0 to.1.0 to.1.1

  made-so : (a : Allotted) (o : Option Value) (k : List Object) → IsAllotted a o k
      → ((what : What) → a ≡ beyond what → what ≡ Heap)
      → Lead (classes.class_made x.cell a (store s))
      → BehindSo (made_by block next o x.cell called acts (with_heap k m))
  made-so (made v h) o k (e, d) only l =
      subst (λ y. BehindSo (made_by block next y x.cell called acts (with_heap k m))) (sym e)
      (made-filled x.cell v k (subst (λ j. Lead (H.answer v (with_cell x.cell (Some v) (with_objects j (store s))))) (sym d) l))
  made-so (beyond what) o k e only l =
      subst (λ y. BehindSo (made_by block next y x.cell called acts (with_heap k m))) (sym e)
      (leaves Heap _ (subst (λ w. step machine host n s ≡ O.ends (O.outside w (visible_line host.first_line s))) (only what refl) (left-so what l)))

  -- an exception that was made
  raised-so : (a : Allotted) (o : Option Value) (k : List Object) → IsAllotted a o k
      → ((what : What) → a ≡ beyond what → what ≡ Heap) → Lead (raise_with a (store s))
      → BehindSo (failed_by block o (failing_here called acts m) (with_heap k m))
  raised-so (made v h) o k (e, d) only l =
      subst (λ y. BehindSo (failed_by block y (failing_here called acts m) (with_heap k m))) (sym e)
      (let l2 = subst (λ j. Lead (H.raise v (with_objects j (store s)))) (sym d) l in
      let to = arises program code machine embed ways is_of minds n (with_heap k m) q u i called acts s (with_objects k (store s)) (around-heap k) is.active_is is.phase (Class x.base x.cell) is.waits refl is.there block known v l2.0 in
      goes_on _ _ to.0 to.1.0 to.1.1)
  raised-so (beyond what) o k e only l =
      subst (λ y. BehindSo (failed_by block y (failing_here called acts m) (with_heap k m))) (sym e)
      (leaves Heap _ (subst (λ w. step machine host n s ≡ O.ends (O.outside w (visible_line host.first_line s))) (only what refl) (left-so what l)))

  -- the class that is made in the run
  object-is : (base : ObjId) → class_object facts base r.names.values ≡ class_of_body x.closed x.block base
  object-is base =
      ap (λ bs. class_with facts.name base (bound_entries [] bs)) is.own
      ∙ ap (λ t. class_with t base (bound_entries [] (bindings_of x.closed.names))) (sym is.name)

  abbrev result_with : T.End Value → BlockResult Names Value
  result_with e = record { end = e; names = r.names }

  abbrev st_here : Stores
  st_here = store s

  abbrev Done : T.End Value → HeapSuccessor → Type 0
  Done e l = DoneSo q (left_with e) (led_in embed l) (by_answer q u)

  abbrev led : BlockResult Names Value → HeapSuccessor
  led y = resumed program obj i facts (Class x.base x.cell) ss y here st_here

  resumes-so : ways.resumed m.code.here facts (Class x.base x.cell) r here st_here
      ≡ led_in embed (led r)
  resumes-so =
      is_of.resumes program m.code.here facts (Class x.base x.cell) r here st_here
      ∙ ap (λ o. led_in embed (resumed_by code o program m.code.here facts (Class x.base x.cell) r here st_here)) is.there

  leads-with : (e : T.End Value) → r.end ≡ e → Done e (led (result_with e))
  leads-with e same =
      subst (λ y. Done y (led (result_with y))) same
      (subst (λ l. DoneSo q (left_with r.end) l (by_answer q u)) resumes-so is.leads)

  abbrev Leads_by : Base → Type 0
  Leads_by b = Lead (classes.class_on b facts x.cell r.names.values here st_here)

  leads-by : Leads_by (base_of m.code.heap x.base)
  leads-by =
      subst (λ h. Leads_by (base_of h x.base)) heap-is (leads-with (gave is.value) is.ended)

  by-base : (b : Base) → Leads_by b → (f : Failed) (new : Held)
      → MakesBy b block next x.closed x.block x.cell called acts here.active m f new → Behind f new
  by-base (On base) l f new did =
      let same : allot (class_object facts base r.names.values) s.world.heap ≡ allot (class_of_body x.closed x.block base) m.code.heap =
      ap (λ o. allot o s.world.heap) (object-is base) ∙ ap (λ h. allot (class_of_body x.closed x.block base) h) heap-is in
      subst BehindSo (sym did.comes)
      (made-so (allot (class_of_body x.closed x.block base) m.code.heap) did.class did.heap did.allotted
      (λ what. beyond-heap (class_of_body x.closed x.block base) m.code.heap what)
      (subst (λ a. Lead (classes.class_made x.cell a (store s))) same l))
  by-base Unavailable l f new did = subst BehindSo (sym did) (leaves Feature m (left-so Feature l))
  by-base NoBase l f new did =
      subst BehindSo (sym did.comes)
      (raised-so (error_saying TYPE_ERROR (codes "bad argument") None here.active m.code.heap) did.exception did.heap did.allotted
      (λ what. saying-heap TYPE_ERROR (codes "bad argument") None here.active m.code.heap what)
      (subst (λ h. Lead (raise_with (error_saying TYPE_ERROR (codes "bad argument") None here.active h) (store s))) heap-is l))

pub makes_as_run : {S : Type 0} (program : Program) (code : CodeBlocks Value)
    (machine : Machine S Value) (embed : CodeState Value → S) (ways : Ways S)
    → IsOfCode code machine embed ways → (minds : Event Value → Bool) (n : ℕ)
    → MakesAsRun program code machine embed ways minds n
makes_as_run program code machine embed ways is_of minds n m q u i next x called acts here facts r s is block known f new did =
    by-base program code machine embed ways is_of minds n m q u i next x called acts here facts r s is block known
    (base_of m.code.heap x.base)
    (leads-by program code machine embed ways is_of minds n m q u i next x called acts here facts r s is block known)
    f new did
