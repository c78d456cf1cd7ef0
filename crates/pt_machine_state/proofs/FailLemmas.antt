-- What the machine does with exceptions that instructions make, and where a run leaves the profile.
use Rattle.std.proofs.Common.{◌≡◌, ◌∙◌, ℕ, List, [], ◌∷◌, ◌++◌, Bool, true, false, Option, Some, None, refl, sym, ap, subst}
use Rattle.std.specs.Prelude.{codes, length, nat_eq, if◌then◌else◌}
use Rattle.std.specs.Option.{option_or}
use Rattle.pt_base.specs.declared.numbers.Pc.{Pc}
use Rattle.pt_base.specs.declared.numbers.ObjId.{ObjId}
use Rattle.pt_base.specs.declared.numbers.Line.{Line}
use Rattle.pt_base.specs.declared.what.What.{What}
use Rattle.pt_base.specs.declared.what.What.TheVariants.{Heap}
use Rattle.pt_heap.specs.declared.value.Value.{Value}
use Rattle.pt_heap.specs.declared.value.Value.TheVariants.{Obj}
use Rattle.pt_heap.specs.declared.object.Object.{Object}
use Rattle.pt_heap.specs.declared.object.Object.TheVariants.{Str}
use Rattle.pt_heap.specs.Limits.{object_limit}
use Rattle.pt_frames.specs.declared.activations.OpenActivation.{OpenActivation}
use Rattle.pt_frames.specs.Activations.{active_exception}
use Rattle.pt_frames.specs.Slots.{active_in}
use Rattle.sem_control.specs.control.Bases as bases
use Rattle.sem_code.specs.slots.Slots as S
use Rattle.sem_code.specs.slots.Landing.{land}
use Rattle.sem_code.specs.comp_expr.Law.{active_at}
use Rattle.sem_run.specs.run.Machine.{BlockId}
use Rattle.sem_run.specs.run.Host.{made, beyond}
use Rattle.pt_code_facts.specs.sem_rows.pt_host.World.{Program, Allotted, allot, allot_then, IsAllotted}
use Rattle.pt_code_facts.specs.sem_rows.pt_host.Errors.{arise_while, error, error_saying, object_place}
use Rattle.pt_code_facts.specs.sem_rows.pt_host.HeapHost.{heap_host}
use Rattle.pt_content.specs.Changes.{next_object}
use Rattle.pt_code_facts.specs.sem_rows.pt_host.Trees.{raise_with}
use Rattle.pt_code_facts.specs.sem_rows.pt_host.Calls.{arguments_of}
use Rattle.pt_code_facts.specs.sem_rows.pt_host.Raising.{raise_active}
use Rattle.pt_code_facts.specs.sem_rows.pt_host.declared.places.TheConstants.{RUNTIME_ERROR}
use Rattle.sem_run.specs.transitions.Successors as leads
use Rattle.pt_bare_runs.specs.Strides.{with_store, active_in as active_among}
use Rattle.sem_code_machine.specs.code_machine.CodeBlocks.{CodeBlocks, machine}
use Rattle.pt_code_facts.specs.sem_rows.declared.heap_rows.progress.Progress.TheVariants as progress
use Rattle.pt_code_facts.specs.sem_rows.heap_rows.Leads.{by_tree, giving}
use Rattle.pt_code_facts.specs.sem_rows.heap_rows.Views.{slots_view}
use Rattle.pt_machine_state.specs.declared.blocks.BlockCode.{BlockCode}
use Rattle.pt_machine_state.specs.declared.blocks.Blocks.{Blocks}
use Rattle.pt_machine_state.specs.declared.machine.Machine.{Machine}
use Rattle.pt_machine_state.specs.declared.machine.MachineEnd.TheVariants as end
use Rattle.pt_machine_state.specs.declared.machine.Stride.{Stride}
use Rattle.pt_machine_state.specs.declared.machine.Stride.TheVariants as stride
use Rattle.pt_machine_state.specs.declared.writes.Writes.{Writes}
use Rattle.pt_machine_state.specs.Writing.{Adds}
use Rattle.pt_machine_state.specs.Views.{Waits, AllWait, none, more, active_of, block_of, stores_of}
use Rattle.pt_machine_state.specs.Changes.{raised_at, raise_events, visible_line}
use Rattle.pt_machine_state.specs.Applies.{Asking, Stands, LedTo, Applied, object_of, here_at}
use Rattle.pt_machine_state.proofs.ApplyLemmas.{raise-led}
use Rattle.pt_machine_state.proofs.LineLemmas.{outside-led}

-- the exception that is active in the run is that of the machine

or-is : (o p : Option Value) → bases.or_else o p ≡ option_or o p
or-is None p = refl
or-is (Some v) p = refl

active-waiting : (program : Program) (code : CodeBlocks Value) (above : BlockId) (os : List OpenActivation) (ws : List Waits) → AllWait program code above os ws
    → active_among (machine code) (heap_host program) ws ≡ active_exception os
active-waiting program code _ _ _ (none b) = refl
active-waiting program code _ _ _ (more b o w os ws waits rest) =
    ap (λ v. bases.or_else v (active_among (machine code) (heap_host program) ws)) (ap (λ a. active_at a.state) waits.seen ∙ waits.active)
    ∙ ap (λ v. bases.or_else (active_in o.activation.slots) v) (active-waiting program code (block_of o.activation) os ws rest)
    ∙ or-is (active_in o.activation.slots) (active_exception os)

module _ (blocks : Blocks) (block : BlockCode) (next : Pc) (m : Machine) (q : Asking) (stands : Stands blocks block next m q) (is_active : active_at q.before ≡ active_in m.here.slots) where
  pub active-here : (here_at q m).active ≡ active_of m
  active-here =
      ap (λ v. bases.or_else v (active_among (machine q.code) (heap_host q.program) q.beside.waiting)) is_active
      ∙ ap (λ v. bases.or_else (active_in m.here.slots) v) (active-waiting q.program q.code (block_of m.here) m.frames.activations q.beside.waiting stands.waiting)
      ∙ or-is (active_in m.here.slots) (active_exception m.frames.activations)

-- what is too much for a heap leaves the profile

pub beyond-heap : (o : Object) (h : List Object) (what : What) → allot o h ≡ beyond what → what ≡ Heap
beyond-heap o h what e = by (nat_eq (length h) object_limit) (next_object h) (h ++ o ∷ []) e
  where
    by : (b : Bool) (v : Value) (k : List Object) → ◌≡◌ {A = Allotted} (if b then beyond Heap else made v k) (beyond what) → what ≡ Heap
    by true v k e = cc
    by false v k e = absurd (cc)

saying-beyond : (t : Allotted) (f : Value → List Object → Allotted) (what : What) → ((w : What) → t ≡ beyond w → w ≡ Heap) → ((v : Value) (h : List Object) (w : What) → f v h ≡ beyond w → w ≡ Heap)
    → allot_then t f ≡ beyond what → what ≡ Heap
saying-beyond (made v h) f what first second e = second v h what e
saying-beyond (beyond w) f what first second e = first what e

pub saying-heap : (class : ObjId) (text : List ℕ) (cause active : Option Value) (h : List Object) (what : What) → error_saying class text cause active h ≡ beyond what → what ≡ Heap
saying-heap class text cause active h what e =
    saying-beyond (allot (Str text) h) (λ v k. allot (error class (v ∷ []) cause active) k) what (λ w. beyond-heap (Str text) h w) (λ v k w. beyond-heap (error class (v ∷ []) cause active) k w) e

module _ (blocks : Blocks) (block : BlockCode) (next : Pc) (m : Machine) (w : Writes) where
  abbrev pub grown : List Object → Machine
  grown h = record m { heap = h }

  pub stands-grown : (h : List Object) (q : Asking) → Stands blocks block next m q → Stands blocks block next (grown h) q
  stands-grown h q stands = record {
    blocks_known = stands.blocks_known;
    known = stands.known;
    there = stands.there;
    next_is = stands.next_is;
    at_place = stands.at_place;
    plain = stands.plain;
    waiting = stands.waiting;
    placed = stands.placed;
  }

  -- with an exception that was made
  raised-made : (v : Value) (h : List Object) (w1 : Writes) (q : Asking) → Stands blocks block next m q → Adds w w1 (raise_events v block (grown h))
      → LedTo (leads.arises v (land (object_of q m) q.ins.rows (S.raise v) (slots_view m.here.slots)) (stores_of q.program (grown h))) q stride.Goes m w (raised_at block v (grown h)) w1
  raised-made v h w1 q stands adds s stored =
      raise-led blocks block next (grown h) w v w1 q (stands-grown h q stands) adds s (ap (λ t. with_store (stores_of q.program (grown h)) t) stored)

  pub made-led : (t : Allotted) (v : Value) (h : List Object) (w1 : Writes) (q : Asking) → Stands blocks block next m q → IsAllotted t (Some v) h → Adds w w1 (raise_events v block (grown h))
      → LedTo (by_tree (object_of q m) q.ins (giving (object_of q m) q.ins (slots_view m.here.slots)) (slots_view m.here.slots) (raise_with t (stores_of q.program m))) q stride.Goes m w (raised_at block v (grown h)) w1
  made-led (made u k) v h w1 q stands (e, f) adds =
      let same : u ≡ v = cc in
      subst (λ x. LedTo (leads.arises x (land (object_of q m) q.ins.rows (S.raise x) (slots_view m.here.slots)) (stores_of q.program (grown k))) q stride.Goes m w (raised_at block v (grown h)) w1) (sym same)
      (subst (λ k. LedTo (leads.arises v (land (object_of q m) q.ins.rows (S.raise v) (slots_view m.here.slots)) (stores_of q.program (grown k))) q stride.Goes m w (raised_at block v (grown h)) w1) f
      (raised-made v h w1 q stands adds))
  made-led (beyond what) v h w1 q stands e adds = absurd (cc)

  -- with one that is there already
  pub applied_raises : (id : ObjId) (w1 : Writes) → Adds w w1 (raise_events (Obj id) block (grown (arise_while (object_place (active_of m)) id m.heap)))
      → Applied blocks block next (progress.Raises id) stride.Goes m w (raised_at block (Obj id) (grown (arise_while (object_place (active_of m)) id m.heap))) w1
  unfolding Applied
  applied_raises id w1 adds q stands active =
      subst (λ x. LedTo (leads.arises (Obj id) (land (object_of q m) q.ins.rows (S.raise (Obj id)) (slots_view m.here.slots)) (stores_of q.program (grown (arise_while (object_place x) id m.heap))))
      q stride.Goes m w (raised_at block (Obj id) (grown (arise_while (object_place (active_of m)) id m.heap))) w1)
      (sym (active-here blocks block next m q stands active))
      (raised-made (Obj id) (arise_while (object_place (active_of m)) id m.heap) w1 q stands adds)

  -- with the one that is active, once more, or where none is
  again-led : (o : Option Value) (r : Stride) (new : Machine) (w1 : Writes) (q : Asking) → Stands blocks block next m q → active_at q.before ≡ active_in m.here.slots → active_of m ≡ o
      → LedTo (by_tree (object_of q m) q.ins (giving (object_of q m) q.ins (slots_view m.here.slots)) (slots_view m.here.slots) (raise_active o (here_at q m) (stores_of q.program m))) q r m w new w1
      → LedTo (by_tree (object_of q m) q.ins (giving (object_of q m) q.ins (slots_view m.here.slots)) (slots_view m.here.slots) (raise_active (here_at q m).active (here_at q m) (stores_of q.program m))) q r m w new w1
  again-led o r new w1 q stands active is led =
      subst (λ x. LedTo (by_tree (object_of q m) q.ins (giving (object_of q m) q.ins (slots_view m.here.slots)) (slots_view m.here.slots) (raise_active x (here_at q m) (stores_of q.program m))) q r m w new w1)
      (sym (active-here blocks block next m q stands active ∙ is)) led

  pub applied_raises_again : (v : Value) (w1 : Writes) → active_of m ≡ Some v → Adds w w1 (raise_events v block m)
      → Applied blocks block next progress.RaisesAgain stride.Goes m w (raised_at block v m) w1
  unfolding Applied
  applied_raises_again v w1 is adds q stands active =
      again-led (Some v) stride.Goes (raised_at block v m) w1 q stands active is (raised-made v m.heap w1 q stands adds)

  pub none_again : (r : Stride) (new : Machine) (w1 : Writes) → active_of m ≡ None
      → Applied blocks block next (progress.FailsSaying RUNTIME_ERROR (codes "no active exception")) r m w new w1 → Applied blocks block next progress.RaisesAgain r m w new w1
  unfolding Applied
  none_again r new w1 is fails q stands active = again-led None r new w1 q stands active is (fails q stands active)

  pub applied_fails : (class : ObjId) (arg : Option Value) (v : Value) (h : List Object) (w1 : Writes)
      → IsAllotted (allot (error class (arguments_of arg) None (active_of m)) m.heap) (Some v) h → Adds w w1 (raise_events v block (grown h))
      → Applied blocks block next (progress.Fails class arg) stride.Goes m w (raised_at block v (grown h)) w1
  unfolding Applied
  applied_fails class arg v h w1 is adds q stands active =
      made-led (allot (error class (arguments_of arg) None (here_at q m).active) m.heap) v h w1 q stands
      (subst (λ x. IsAllotted (allot (error class (arguments_of arg) None x) m.heap) (Some v) h) (sym (active-here blocks block next m q stands active)) is) adds

  pub applied_fails_saying : (class : ObjId) (text : List ℕ) (v : Value) (h : List Object) (w1 : Writes)
      → IsAllotted (error_saying class text None (active_of m) m.heap) (Some v) h → Adds w w1 (raise_events v block (grown h))
      → Applied blocks block next (progress.FailsSaying class text) stride.Goes m w (raised_at block v (grown h)) w1
  unfolding Applied
  applied_fails_saying class text v h w1 is adds q stands active =
      made-led (error_saying class text None (here_at q m).active m.heap) v h w1 q stands
      (subst (λ x. IsAllotted (error_saying class text None x m.heap) (Some v) h) (sym (active-here blocks block next m q stands active)) is) adds

  -- without room for one
  module _ (new : Machine) (same : new.units ≡ m.units) (line : Line) (is : line.0 ≡ visible_line blocks m) where
    pub full-led : (t : Allotted) (h : List Object) (q : Asking) → Stands blocks block next m q → IsAllotted t None h → ((what : What) → t ≡ beyond what → what ≡ Heap)
        → LedTo (by_tree (object_of q m) q.ins (giving (object_of q m) q.ins (slots_view m.here.slots)) (slots_view m.here.slots) (raise_with t (stores_of q.program m))) q (stride.Ends (end.Outside Heap line)) m w new w
    full-led (made u k) h q stands (e, f) only = absurd (cc)
    full-led (beyond what) h q stands e only =
        subst (λ x. LedTo (leads.outside x) q (stride.Ends (end.Outside Heap line)) m w new w) (sym (only what refl)) (outside-led blocks block next m new w Heap line q stands same is)

    pub fails_outside : (class : ObjId) (arg : Option Value) (h : List Object)
        → IsAllotted (allot (error class (arguments_of arg) None (active_of m)) m.heap) None h
        → Applied blocks block next (progress.Fails class arg) (stride.Ends (end.Outside Heap line)) m w new w
    unfolding Applied
    fails_outside class arg h given q stands active =
        full-led (allot (error class (arguments_of arg) None (here_at q m).active) m.heap) h q stands
        (subst (λ x. IsAllotted (allot (error class (arguments_of arg) None x) m.heap) None h) (sym (active-here blocks block next m q stands active)) given)
        (λ what. beyond-heap (error class (arguments_of arg) None (here_at q m).active) m.heap what)

    pub fails_saying_outside : (class : ObjId) (text : List ℕ) (h : List Object)
        → IsAllotted (error_saying class text None (active_of m) m.heap) None h
        → Applied blocks block next (progress.FailsSaying class text) (stride.Ends (end.Outside Heap line)) m w new w
    unfolding Applied
    fails_saying_outside class text h given q stands active =
        full-led (error_saying class text None (here_at q m).active m.heap) h q stands
        (subst (λ x. IsAllotted (error_saying class text None x m.heap) None h) (sym (active-here blocks block next m q stands active)) given)
        (λ what. saying-heap class text None (here_at q m).active m.heap what)

    pub applied_outside : (what : What) → Applied blocks block next (progress.Outside what) (stride.Ends (end.Outside what line)) m w new w
    unfolding Applied
    applied_outside what q stands active = outside-led blocks block next m new w what line q stands same is
