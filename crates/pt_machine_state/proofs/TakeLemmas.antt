-- What a block gave is taken for its purpose.
use Rattle.std.proofs.Common.{◌≡◌, ◌∙◌, ℕ, List, [], ◌∷◌, Option, Some, None, refl, sym, ap, subst}
use Rattle.std.specs.Prelude.{codes}
use Rattle.pt_base.specs.declared.numbers.Line.{Line}
use Rattle.pt_base.specs.declared.numbers.ObjId.{ObjId}
use Rattle.pt_base.specs.declared.numbers.Pc.{Pc}
use Rattle.pt_base.specs.declared.what.What.{What}
use Rattle.pt_base.specs.declared.what.What.TheVariants.{Feature, Heap}
use Rattle.pt_heap.specs.declared.value.Value.{Value}
use Rattle.pt_heap.specs.declared.object.Object.{Object}
use Rattle.pt_code.specs.View.{Ins}
use Rattle.pt_names.specs.Names.{Named, bindings_of}
use Rattle.pt_frames.specs.declared.activation.Activation.{Activation}
use Rattle.pt_frames.specs.declared.purpose.Purpose.{Purpose}
use Rattle.pt_frames.specs.declared.purpose.Purpose.TheVariants as purpose
use Rattle.pt_frames.specs.Slots.{active_in}
use Rattle.sem_control.specs.control.Turn.{gave}
use Rattle.sem_code.specs.slots.Slots as S
use Rattle.sem_code.specs.slots.Slots.{Slots, on}
use Rattle.sem_code.specs.slots.CodeObject.{CodeObject}
use Rattle.sem_code.specs.comp_expr.Law.{active_at}
use Rattle.sem_run.specs.run.Host as H
use Rattle.sem_run.specs.run.Host.{made, beyond}
use Rattle.sem_run.specs.transitions.Successors as leads
use Rattle.pt_code_facts.specs.sem_rows.pt_host.World.{Names, CodeFacts, Program, Stores, Allotted, IsAllotted, allot}
use Rattle.pt_code_facts.specs.sem_rows.pt_host.Trees.{Tree, then_with}
use Rattle.pt_code_facts.specs.sem_rows.pt_host.Calls.{opposite}
use Rattle.pt_code_facts.specs.sem_rows.pt_host.Errors.{error_saying}
use Rattle.pt_code_facts.specs.sem_rows.pt_host.Classes.{base_of, bound_entries, class_made, class_object, class_on, class_with}
use Rattle.pt_code_facts.specs.sem_rows.pt_host.declared.classes.Base.{Base}
use Rattle.pt_code_facts.specs.sem_rows.pt_host.declared.classes.Base.TheVariants as bases
use Rattle.pt_code_facts.specs.sem_rows.pt_host.declared.places.TheConstants.{TYPE_ERROR}
use Rattle.pt_bare_runs.specs.Strides.{with_store}
use Rattle.pt_code_facts.specs.sem_rows.heap_rows.Leads.{HeapSuccessor, by_tree, giving}
use Rattle.pt_code_facts.specs.sem_rows.heap_rows.Told.{resumed, taken}
use Rattle.pt_code_facts.specs.sem_rows.heap_rows.Views.{names_view, slots_view}
use Rattle.pt_machine_state.specs.declared.blocks.BlockCode.{BlockCode}
use Rattle.pt_machine_state.specs.declared.blocks.Blocks.{Blocks}
use Rattle.pt_machine_state.specs.declared.machine.Machine.{Machine}
use Rattle.pt_machine_state.specs.declared.machine.MachineEnd.TheVariants as end
use Rattle.pt_machine_state.specs.declared.machine.Stride.{Stride}
use Rattle.pt_machine_state.specs.declared.machine.Stride.TheVariants as stride
use Rattle.pt_machine_state.specs.declared.writes.Writes.{Writes}
use Rattle.pt_machine_state.specs.Writing.{Adds}
use Rattle.pt_machine_state.specs.Views.{HasOwnNames, active_of, block_of, run_in, state_of, stores_of}
use Rattle.pt_machine_state.specs.Changes.{given_back, raised_at, raise_events, visible_line, with_class}
use Rattle.pt_machine_state.specs.Applies.{Asking, Stands, LedTo, IsGiven, Takes, class_of, object_of, here_at, given_by}
use Rattle.pt_machine_state.proofs.ApplyLemmas.{to_state}
use Rattle.pt_machine_state.proofs.FailLemmas.{active-here, beyond-heap, full-led, grown, made-led, saying-heap, stands-grown}
use Rattle.pt_machine_state.proofs.LineLemmas.{outside-led}

module _ (program : Program) (code : CodeObject Value) (i : Ins) (facts : CodeFacts) (ss : Slots Value) (v : Value) (ns : Names) (h : H.Here Value) (st : Stores) where
  given-is : (why : Purpose) → IsGiven why
      → resumed program code i facts why ss (record { end = gave v; names = ns }) h st ≡ by_tree code i (giving code i ss) ss (H.answer v st)
  given-is purpose.Result is = refl
  given-is purpose.Discard is = absurd is
  given-is (purpose.Class base cell) is = absurd is
  given-is (purpose.Init new) is = absurd is
  given-is purpose.Opposite is = absurd is
  given-is (purpose.Truth wanted target kept) is = absurd is
  given-is purpose.Iterate is = absurd is
  given-is (purpose.Item it at_end) is = absurd is
  given-is (purpose.Unpack before after) is = absurd is
  given-is (purpose.Enter exit) is = absurd is
  given-is (purpose.Exit completion) is = absurd is
  given-is (purpose.Format spec) is = absurd is
  given-is (purpose.Resume generator) is = refl
  given-is (purpose.Answer hook event block act args pending) is = refl

instance-is : (facts : CodeFacts) (new v : Value) (ns : Names) (h : H.Here Value) (st : Stores)
    → taken facts (purpose.Init new) (record { end = gave v; names = ns }) h st ≡ H.answer new st
unfolding then_with
instance-is facts new v ns h st = refl

opposite-is : (facts : CodeFacts) (v : Value) (ns : Names) (h : H.Here Value) (st : Stores)
    → taken facts purpose.Opposite (record { end = gave v; names = ns }) h st ≡ H.answer (opposite v) st
unfolding then_with
opposite-is facts v ns h st = refl

module _ (blocks : Blocks) (block : BlockCode) (next : Pc) (m : Machine) where
  -- where a tree leads behind the call
  abbrev pub leads_by : Asking → Tree Value → HeapSuccessor
  leads_by q t = by_tree (object_of q m) q.ins (giving (object_of q m) q.ins (slots_view m.here.slots)) (slots_view m.here.slots) t

  -- a value is the one of the call
  pub given-in : (q : Asking) → Stands blocks block next m q → (v : Value)
      → run_in q.program (state_of m.standing (given_back next v m).here) m q.beside ≡ run_in q.program (on q.ins.next (S.value v ∷ slots_view m.here.slots)) m q.beside
  given-in q stands v =
      ap (λ t. run_in q.program (state_of t (given_back next v m).here) m q.beside) stands.at_place
      ∙ ap (λ k. run_in q.program (on k (S.value v ∷ slots_view m.here.slots)) m q.beside) (sym stands.next_is)

  pub value-led : (w : Writes) (q : Asking) → Stands blocks block next m q → (v : Value)
      → LedTo (leads.to (on q.ins.next (S.value v ∷ slots_view m.here.slots)) (stores_of q.program m)) q stride.Goes m w (given_back next v m) w
  value-led w q stands v =
      to_state blocks block next m q w (given_back next v m) (on q.ins.next (S.value v ∷ slots_view m.here.slots)) (given-in q stands v) (stands.waiting, stands.placed)

module _ (blocks : Blocks) (block : BlockCode) (next : Pc) (m : Machine) (w : Writes) (a : Activation) where
  abbrev pub LeadsTo : Asking → Tree Value → Stride → Machine → Writes → Type 0
  LeadsTo q t r new w1 = LedTo (leads_by blocks block next m q t) q r m w new w1

  pub takes_given : (why : Purpose) → IsGiven why → (v : Value) → Takes blocks block next a why v stride.Goes m w (given_back next v m) w
  unfolding Takes
  takes_given why is v q stands active own =
      subst (λ l. LedTo l q stride.Goes m w (given_back next v m) w)
      (sym (given-is q.program (object_of q m) q.ins (q.program.facts (block_of a)) (slots_view m.here.slots) v (given_by q.program a v).names (here_at q m) (stores_of q.program m) why is))
      (value-led blocks block next m w q stands v)

  pub takes_instance : (new v : Value) → Takes blocks block next a (purpose.Init new) v stride.Goes m w (given_back next new m) w
  unfolding Takes
  takes_instance new v q stands active own =
      subst (λ t. LeadsTo q t stride.Goes (given_back next new m) w)
      (sym (instance-is (q.program.facts (block_of a)) new v (given_by q.program a v).names (here_at q m) (stores_of q.program m))) (value-led blocks block next m w q stands new)

  pub takes_opposite : (v : Value) → Takes blocks block next a purpose.Opposite v stride.Goes m w (given_back next (opposite v) m) w
  unfolding Takes
  takes_opposite v q stands active own =
      subst (λ t. LeadsTo q t stride.Goes (given_back next (opposite v) m) w)
      (sym (opposite-is (q.program.facts (block_of a)) v (given_by q.program a v).names (here_at q m) (stores_of q.program m))) (value-led blocks block next m w q stands (opposite v))

  -- a class is made

  abbrev facts_of : Asking → CodeFacts
  facts_of q = q.program.facts (block_of a)

  abbrev names_of : Asking → Named
  names_of q = (names_view (facts_of q) a).values

  class-is : (q : Asking) → Stands blocks block next m q → HasOwnNames q.program a → (b : ObjId) → class_object (facts_of q) b (names_of q) ≡ class_of blocks a b
  class-is q stands own b =
      ap (λ ns. class_with (facts_of q).name b (bound_entries [] (bindings_of ns))) own
      ∙ ap (λ x. class_with x b (bound_entries [] (bindings_of a.names))) (sym (stands.blocks_known (block_of a)).name)

  abbrev with_made : List Object → Machine
  with_made h = grown blocks block next m w h

  -- it stands in its cell, if it has one
  stands-made : (h : List Object) (cell : Option ℕ) (v : Value) (q : Asking) → Stands blocks block next m q → Stands blocks block next (with_class cell v (with_made h)) q
  stands-made h None v q stands = stands-grown blocks block next m w h q stands
  stands-made h (Some c) v q stands = record {
    blocks_known = stands.blocks_known;
    known = stands.known;
    there = stands.there;
    next_is = stands.next_is;
    at_place = stands.at_place;
    plain = stands.plain;
    waiting = stands.waiting;
    placed = stands.placed;
  }

  abbrev with_new_class : List Object → (cell : Option ℕ) → Value → Machine
  with_new_class h cell v = given_back next v (with_class cell v (with_made h))

  put-led : (h : List Object) (cell : Option ℕ) (v : Value) (q : Asking) → Stands blocks block next m q
      → LeadsTo q (class_made cell (made v h) (stores_of q.program m)) stride.Goes (with_new_class h cell v) w
  put-led h None v q stands s stored =
      value-led blocks block next (with_class None v (with_made h)) w q (stands-made h None v q stands) v s
      (ap (λ t. with_store (stores_of q.program (with_class None v (with_made h))) t) stored)
  put-led h (Some c) v q stands s stored =
      value-led blocks block next (with_class (Some c) v (with_made h)) w q (stands-made h (Some c) v q stands) v s
      (ap (λ t. with_store (stores_of q.program (with_class (Some c) v (with_made h))) t) stored)

  made-class-led : (t : Allotted) (v : Value) (h : List Object) (cell : Option ℕ) (q : Asking) → Stands blocks block next m q → IsAllotted t (Some v) h
      → LeadsTo q (class_made cell t (stores_of q.program m)) stride.Goes (with_new_class h cell v) w
  made-class-led (made u k) v h cell q stands (e, f) =
      let same : u ≡ v = cc in
      subst (λ x. LeadsTo q (class_made cell (made x k) (stores_of q.program m)) stride.Goes (with_new_class h cell v) w) (sym same)
      (subst (λ j. LeadsTo q (class_made cell (made v j) (stores_of q.program m)) stride.Goes (with_new_class h cell v) w) f (put-led h cell v q stands))
  made-class-led (beyond what) v h cell q stands e = absurd (cc)

  module _ (class : Value) (cell : Option ℕ) where
    -- by what the base is
    by-base : (r : Stride) (new : Machine) (w1 : Writes) (o : Base) → base_of m.heap class ≡ o
        → ((q : Asking) → Stands blocks block next m q → active_at q.before ≡ active_in m.here.slots → HasOwnNames q.program a
        → LeadsTo q (class_on o (facts_of q) cell (names_of q) (here_at q m) (stores_of q.program m)) r new w1)
        → (v : Value) → Takes blocks block next a (purpose.Class class cell) v r m w new w1
    unfolding Takes
    by-base r new w1 o is led v q stands active own =
        subst (λ x. LeadsTo q (class_on x (facts_of q) cell (names_of q) (here_at q m) (stores_of q.program m)) r new w1) (sym is) (led q stands active own)

    pub takes_class : (b : ObjId) → base_of m.heap class ≡ bases.On b → (v : Value) (h : List Object) → IsAllotted (allot (class_of blocks a b) m.heap) (Some v) h
        → (u : Value) → Takes blocks block next a (purpose.Class class cell) u stride.Goes m w (with_new_class h cell v) w
    takes_class b is v h given =
        by-base stride.Goes (with_new_class h cell v) w (bases.On b) is
        (λ q stands active own. made-class-led (allot (class_object (facts_of q) b (names_of q)) m.heap) v h cell q stands
        (subst (λ o. IsAllotted (allot o m.heap) (Some v) h) (sym (class-is q stands own b)) given))

    pub takes_no_base : base_of m.heap class ≡ bases.NoBase → (v : Value) (h : List Object) (w1 : Writes)
        → IsAllotted (error_saying TYPE_ERROR (codes "bad argument") None (active_of m) m.heap) (Some v) h → Adds w w1 (raise_events v block (with_made h))
        → (u : Value) → Takes blocks block next a (purpose.Class class cell) u stride.Goes m w (raised_at block v (with_made h)) w1
    takes_no_base is v h w1 given adds =
        by-base stride.Goes (raised_at block v (with_made h)) w1 bases.NoBase is
        (λ q stands active own. made-led blocks block next m w (error_saying TYPE_ERROR (codes "bad argument") None (here_at q m).active m.heap) v h w1 q stands
        (subst (λ x. IsAllotted (error_saying TYPE_ERROR (codes "bad argument") None x m.heap) (Some v) h) (sym (active-here blocks block next m q stands active)) given) adds)

    -- the run leaves the profile
    module _ (new : Machine) (same : new.units ≡ m.units) (line : Line) (at : line.0 ≡ visible_line blocks m) where
      full-class-led : (t : Allotted) (h : List Object) (q : Asking) → Stands blocks block next m q → IsAllotted t None h → ((what : What) → t ≡ beyond what → what ≡ Heap)
          → LeadsTo q (class_made cell t (stores_of q.program m)) (stride.Ends (end.Outside Heap line)) new w
      full-class-led (made u k) h q stands (e, f) only = absurd (cc)
      full-class-led (beyond what) h q stands e only =
          subst (λ x. LedTo (leads.outside x) q (stride.Ends (end.Outside Heap line)) m w new w) (sym (only what refl)) (outside-led blocks block next m new w Heap line q stands same at)

      pub takes_full : (b : ObjId) → base_of m.heap class ≡ bases.On b → (h : List Object) → IsAllotted (allot (class_of blocks a b) m.heap) None h
          → (u : Value) → Takes blocks block next a (purpose.Class class cell) u (stride.Ends (end.Outside Heap line)) m w new w
      takes_full b is h given =
          by-base (stride.Ends (end.Outside Heap line)) new w (bases.On b) is
          (λ q stands active own. full-class-led (allot (class_object (facts_of q) b (names_of q)) m.heap) h q stands
          (subst (λ o. IsAllotted (allot o m.heap) None h) (sym (class-is q stands own b)) given)
          (λ what. beyond-heap (class_object (facts_of q) b (names_of q)) m.heap what))

      pub takes_unavailable : base_of m.heap class ≡ bases.Unavailable → (u : Value)
          → Takes blocks block next a (purpose.Class class cell) u (stride.Ends (end.Outside Feature line)) m w new w
      takes_unavailable is =
          by-base (stride.Ends (end.Outside Feature line)) new w bases.Unavailable is (λ q stands active own. outside-led blocks block next m new w Feature line q stands same at)

      pub takes_no_room : base_of m.heap class ≡ bases.NoBase → (h : List Object)
          → IsAllotted (error_saying TYPE_ERROR (codes "bad argument") None (active_of m) m.heap) None h
          → (u : Value) → Takes blocks block next a (purpose.Class class cell) u (stride.Ends (end.Outside Heap line)) m w new w
      takes_no_room is h given =
          by-base (stride.Ends (end.Outside Heap line)) new w bases.NoBase is
          (λ q stands active own. full-led blocks block next m w new same line at (error_saying TYPE_ERROR (codes "bad argument") None (here_at q m).active m.heap) h q stands
          (subst (λ x. IsAllotted (error_saying TYPE_ERROR (codes "bad argument") None x m.heap) None h) (sym (active-here blocks block next m q stands active)) given)
          (λ what. saying-heap TYPE_ERROR (codes "bad argument") None (here_at q m).active m.heap what))
