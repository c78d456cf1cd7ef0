-- What a block gave is taken by an operation on values, as in a run.
use Rattle.std.proofs.Common.{◌≡◌, ◌∙◌, ℕ, List, [], ◌∷◌, Option, Some, None, refl, sym, ap, subst}
use Rattle.pt_base.specs.declared.numbers.Line.{Line}
use Rattle.pt_base.specs.declared.numbers.ObjId.{ObjId}
use Rattle.pt_base.specs.declared.numbers.Pc.{Pc}
use Rattle.pt_base.specs.declared.what.What.{What}
use Rattle.pt_base.specs.declared.what.What.TheVariants.{Feature, Heap, Helper}
use Rattle.pt_heap.specs.declared.value.Value.{Value}
use Rattle.pt_heap.specs.declared.object.Object.{Object}
use Rattle.pt_content.specs.declared.op.Op.{Op}
use Rattle.pt_content.specs.declared.answer.PrimAns.{PrimAns}
use Rattle.pt_content.specs.declared.answer.PrimAns.TheVariants as prim
use Rattle.pt_prims.specs.Operations.{prim_answer, prim_heap}
use Rattle.pt_frames.specs.declared.activation.Activation.{Activation}
use Rattle.pt_frames.specs.declared.purpose.Purpose.{Purpose}
use Rattle.pt_frames.specs.Slots.{active_in}
use Rattle.sem_code.specs.slots.Slots as S
use Rattle.sem_code.specs.slots.Slots.{State}
use Rattle.sem_code.specs.slots.Landing.{land}
use Rattle.sem_code.specs.comp_expr.Law.{active_at}
use Rattle.sem_run.specs.run.Host.{Here, beyond, made, print}
use Rattle.sem_run.specs.run.Run as run
use Rattle.sem_run.specs.transitions.Successors as leads
use Rattle.pt_bare_runs.specs.Strides.{lead, with_store}
use Rattle.sem_rows.specs.pt_host.Calls.{arguments_of}
use Rattle.sem_rows.specs.pt_host.Errors.{error, raise_error}
use Rattle.sem_rows.specs.pt_host.HeapHost.{heap_host}
use Rattle.sem_rows.specs.pt_host.Primitives.{Awaited, answer_if, of_prim, prim_asked}
use Rattle.sem_rows.specs.pt_host.Trees.{Tree, raise_with}
use Rattle.sem_rows.specs.pt_host.World.{Allotted, IsAllotted, Stores, allot, with_objects}
use Rattle.sem_rows.specs.sem_code_machine.code_machine.CodeBlocks.{machine}
use Rattle.sem_rows.specs.heap_rows.Leads.{HeapSuccessor, by_tree}
use Rattle.sem_rows.specs.heap_rows.Told.{resumed}
use Rattle.sem_rows.specs.heap_rows.Views.{slots_view}
use Rattle.pt_transfers.specs.pt_machine_state.declared.blocks.BlockCode.{BlockCode}
use Rattle.pt_transfers.specs.pt_machine_state.declared.blocks.Blocks.{Blocks}
use Rattle.pt_transfers.specs.pt_machine_state.declared.machine.Machine.{Machine}
use Rattle.pt_transfers.specs.pt_machine_state.declared.machine.MachineEnd.TheVariants as end
use Rattle.pt_transfers.specs.pt_machine_state.declared.machine.Stride.{Stride}
use Rattle.pt_transfers.specs.pt_machine_state.declared.machine.Stride.TheVariants as stride
use Rattle.pt_transfers.specs.pt_machine_state.declared.writes.Writes.{Writes}
use Rattle.pt_transfers.specs.pt_machine_state.Applies.{Asking, LedTo, Stands, Takes, given_by, here_at, object_of}
use Rattle.pt_transfers.specs.pt_machine_state.Changes.{behind_block, end_in, left_at, left_events, left_slots, raise_events, raised_at, visible_line}
use Rattle.pt_transfers.specs.pt_machine_state.Views.{active_of, block_of, stores_of}
use Rattle.pt_transfers.specs.pt_machine_state.Writing.{Adds, print_piece}
use Rattle.pt_transfers.proofs.pt_machine_state.ApplyLemmas.{raise-led}
use Rattle.pt_transfers.proofs.pt_machine_state.FailLemmas.{active-here, beyond-heap, grown, stands-grown}
use Rattle.pt_transfers.proofs.pt_machine_state.LineLemmas.{outside-led}
use Rattle.pt_transfers.proofs.pt_machine_state.WriteLemmas.{behind-strode}
use Rattle.pt_progress.specs.Arising.{Leaves, LeavesBy}
use Rattle.pt_progress.specs.Taking.{IsOutside, IsRefused, Refuses}

module _ (blocks : Blocks) (block : BlockCode) (next : Pc) (m : Machine) (w : Writes) (a : Activation) (why : Purpose) where
  -- where what an operation answers leads, by what is made of what is awaited
  abbrev pub leads_with : {A : Type 0} → (Asking → A → State Value) → Asking → Tree A → HeapSuccessor
  leads_with state q t = by_tree (object_of q m) q.ins (state q) (slots_view (left_slots why m.here.slots)) t

  abbrev pub with_heap : List Object → Machine
  with_heap k = grown blocks block next m w k

  abbrev stores_with : List Object → Asking → Stores
  stores_with k q = stores_of q.program (with_heap k)

  -- the run leaves the profile
  outside-so : (what : What) (k : List Object) (r : Stride) (new : Machine) (w1 : Writes) → IsOutside what blocks r (with_heap k) w new w1 → (q : Asking) → Stands blocks block next m q
      → LedTo (leads.outside what) q r (with_heap k) w new w1
  outside-so what k r new w1 (line, (ends, (at, (same, silent)))) q stands =
      subst (λ s. LedTo (leads.outside what) q s (with_heap k) w new w1) (sym ends)
      (subst (λ n. LedTo (leads.outside what) q (stride.Ends (end.Outside what line)) (with_heap k) w n w1) (sym same)
      (subst (λ y. LedTo (leads.outside what) q (stride.Ends (end.Outside what line)) (with_heap k) w (with_heap k) y) (sym silent)
      (outside-led blocks block next (with_heap k) (with_heap k) w what line q (stands-grown blocks block next m w k q stands) refl at)))

  -- with a text printed before
  printed-outside : (t : List ℕ) (k : List Object) (r : Stride) (new : Machine) (w1 : Writes)
      → (y : Writes) × (Adds w y (print_piece t ∷ []) × IsOutside Feature blocks r (with_heap k) y new w1) → (q : Asking) → Stands blocks block next m q
      → LedTo (leads.behind_print t (leads.outside Feature)) q r (with_heap k) w new w1
  printed-outside t k r new w1 (y, (adds, (line, (ends, (at, (same, silent)))))) q stands s stored =
      behind-strode q.program q.code (lead (machine q.code) (heap_host q.program) q.ask (leads.outside Feature) s) (run.write run.to_out t ∷ []) r w y new w1 adds
      (outside-behind y line ends at same silent q stands s stored)
    where
      outside-behind : (y : Writes) (line : Line) → r ≡ stride.Ends (end.Outside Feature line) → line.0 ≡ visible_line blocks (with_heap k) → new ≡ with_heap k → w1 ≡ y
          → (q : Asking) → Stands blocks block next m q → LedTo (leads.outside Feature) q r (with_heap k) y new w1
      outside-behind y line ends at same silent q stands =
          subst (λ s. LedTo (leads.outside Feature) q s (with_heap k) y new w1) (sym ends)
          (subst (λ n. LedTo (leads.outside Feature) q (stride.Ends (end.Outside Feature line)) (with_heap k) y n w1) (sym same)
          (subst (λ z. LedTo (leads.outside Feature) q (stride.Ends (end.Outside Feature line)) (with_heap k) y (with_heap k) z) (sym silent)
          (outside-led blocks block next (with_heap k) (with_heap k) y Feature line q (stands-grown blocks block next m y k q stands) refl at)))

  -- an exception arises in the activation, as one by which the block was left

  module _ {A : Type 0} (state : Asking → A → State Value) (k : List Object) where
    stands-behind : (h : List Object) (q : Asking) → Stands blocks block next m q → Stands blocks block next (behind_block why (with_heap h)) q
    stands-behind h q stands = record {
      blocks_known = stands.blocks_known;
      known = stands.known;
      there = stands.there;
      next_is = stands.next_is;
      at_place = stands.at_place;
      plain = stands.plain;
      waiting = stands.waiting;
      placed = stands.placed;
    }

    arises-led : (v : Value) (h : List Object) (w1 : Writes) (q : Asking) → Stands blocks block next m q → Adds w w1 (raise_events v block (behind_block why (with_heap h)))
        → LedTo (leads.arises v (land (object_of q m) q.ins.rows (S.raise v) (slots_view (left_slots why m.here.slots))) (stores_with h q)) q stride.Goes (with_heap k) w
        (raised_at block v (behind_block why (with_heap h))) w1
    arises-led v h w1 q stands adds s stored =
        raise-led blocks block next (behind_block why (with_heap h)) w v w1 q (stands-behind h q stands) adds s (ap (λ t. with_store (stores_with h q) t) stored)

    module _ (no_end : (v : Value) (h : List Object) → end_in why v h ≡ None) where
      raised-led : (t : Allotted) (v : Value) (h : List Object) (r : Stride) (new : Machine) (w1 : Writes) (q : Asking) → Stands blocks block next m q → IsAllotted t (Some v) h
          → Leaves blocks block why (Some v) r (with_heap h) w new w1 → LedTo (leads_with state q (raise_with t (stores_with k q))) q r (with_heap k) w new w1
      raised-led (made u j) v h r new w1 q stands (e, f) (goes, (same, adds)) =
          let is : u ≡ v = cc in
          subst (λ x. LedTo (leads_with state q (raise_with (made x j) (stores_with k q))) q r (with_heap k) w new w1) (sym is)
          (subst (λ i. LedTo (leads_with state q (raise_with (made v i) (stores_with k q))) q r (with_heap k) w new w1) f
          (subst (λ s. LedTo (leads_with state q (raise_with (made v h) (stores_with k q))) q s (with_heap k) w new w1) (sym goes)
          (subst (λ n. LedTo (leads_with state q (raise_with (made v h) (stores_with k q))) q stride.Goes (with_heap k) w n w1)
          (sym (same ∙ ap (λ o. left_at block v o (behind_block why (with_heap h))) (no_end v h)))
          (arises-led v h w1 q stands (subst (λ o. Adds w w1 (left_events v block o (behind_block why (with_heap h)))) (no_end v h) adds)))))
      raised-led (beyond what) v h r new w1 q stands e l = absurd (cc)

      unmade-led : (t : Allotted) (h : List Object) (r : Stride) (new : Machine) (w1 : Writes) (q : Asking) → Stands blocks block next m q → IsAllotted t None h
          → ((what : What) → t ≡ beyond what → what ≡ Heap) → IsOutside Heap blocks r (with_heap h) w new w1
          → LedTo (leads_with state q (raise_with t (stores_with k q))) q r (with_heap k) w new w1
      unmade-led (made u j) h r new w1 q stands (e, f) only out = absurd (cc)
      unmade-led (beyond what) h r new w1 q stands e only out =
          subst (λ x. LedTo (leads.outside x) q r (with_heap k) w new w1) (sym (only what refl))
          (λ z kept. outside-so Heap h r new w1 out q stands z (ap (λ t. with_store (stores_with h q) t) kept))

      failed-by : (class : ObjId) (arg : Option Value) (o : Option Value) (h : List Object) (r : Stride) (new : Machine) (w1 : Writes)
          → IsAllotted (allot (error class (arguments_of arg) None (active_of m)) k) o h → Leaves blocks block why o r (with_heap h) w new w1
          → (q : Asking) → Stands blocks block next m q → active_at q.before ≡ active_in m.here.slots
          → LedTo (leads_with state q (raise_error class (arguments_of arg) (here_at q m) (stores_with k q))) q r (with_heap k) w new w1
      failed-by class arg (Some v) h r new w1 given l q stands active =
          raised-led (allot (error class (arguments_of arg) None (here_at q m).active) k) v h r new w1 q stands
          (subst (λ x. IsAllotted (allot (error class (arguments_of arg) None x) k) (Some v) h) (sym (active-here blocks block next m q stands active)) given) l
      failed-by class arg None h r new w1 given l q stands active =
          unmade-led (allot (error class (arguments_of arg) None (here_at q m).active) k) h r new w1 q stands
          (subst (λ x. IsAllotted (allot (error class (arguments_of arg) None x) k) None h) (sym (active-here blocks block next m q stands active)) given)
          (λ what. beyond-heap (error class (arguments_of arg) None (here_at q m).active) k what) l

      module _ (awaited : Awaited A) (r : Stride) (new : Machine) (w1 : Writes) where
        abbrev Led : PrimAns → Type 0
        Led p = (q : Asking) → Stands blocks block next m q → active_at q.before ≡ active_in m.here.slots
            → LedTo (leads_with state q (of_prim awaited p (here_at q m) (stores_with k q))) q r (with_heap k) w new w1

        -- nothing is given
        none-led : (o : Option A) → o ≡ None → IsOutside Feature blocks r (with_heap k) w new w1 → (q : Asking) → Stands blocks block next m q
            → LedTo (leads_with state q (answer_if o (stores_with k q))) q r (with_heap k) w new w1
        none-led o e out q stands =
            subst (λ x. LedTo (leads_with state q (answer_if x (stores_with k q))) q r (with_heap k) w new w1) (sym e) (outside-so Feature k r new w1 out q stands)

        refused-led : (p : PrimAns) → IsRefused awaited p → Refuses blocks block why p r (with_heap k) w new w1 → Led p
        refused-led (prim.Value v) e out q stands active = none-led (awaited.value v) e out q stands
        refused-led (prim.Values vs) e out q stands active = none-led (awaited.values vs) e out q stands
        refused-led prim.End e out q stands active = none-led awaited.end e out q stands
        refused-led (prim.Raise class arg) e it q stands active = failed-by class arg it.exception it.heap r new w1 it.allotted it.leaves q stands active
        refused-led (prim.Help helper vs inverted) e out q stands active = outside-so Helper k r new w1 out q stands
        refused-led (prim.Print t) e out q stands active =
            subst (λ x. LedTo (leads_with state q (print t (answer_if x (stores_with k q)))) q r (with_heap k) w new w1) (sym e) (printed-outside t k r new w1 out q stands)
        refused-led (prim.Outside what) e out q stands active = outside-so what k r new w1 out q stands

  -- what is awaited of an operation on these operands decides where a purpose leads
  module _ {A : Type 0} (awaited : Awaited A) (state : Asking → A → State Value) (o : Op) (vs : List Value) (v : Value) where
    abbrev pub TakesBy : Type 0
    TakesBy = (q : Asking)
        → resumed q.program (object_of q m) q.ins (q.program.facts (block_of a)) why (slots_view m.here.slots) (given_by q.program a v) (here_at q m) (stores_of q.program m)
        ≡ leads_with state q (prim_asked awaited o vs (here_at q m) (stores_of q.program m))

    module _ (takes : TakesBy) (p : PrimAns) (k : List Object) (is : p ≡ prim_answer o vs m.heap) (put : k ≡ prim_heap o vs m.heap) where
      operated : (h : Here Value) (st : Stores) → st.world.heap ≡ m.heap → prim_asked awaited o vs h st ≡ of_prim awaited p h (with_objects k st)
      unfolding prim_asked
      operated h st same =
          ap (λ x. of_prim awaited (prim_answer o vs x) h (with_objects (prim_heap o vs x) st)) same
          ∙ ap (λ x. of_prim awaited x h (with_objects (prim_heap o vs m.heap) st)) (sym is)
          ∙ ap (λ x. of_prim awaited p h (with_objects x st)) (sym put)

      pub takes-led : (r : Stride) (new : Machine) (w1 : Writes)
          → ((q : Asking) → Stands blocks block next m q → active_at q.before ≡ active_in m.here.slots
          → LedTo (leads_with state q (of_prim awaited p (here_at q m) (stores_with k q))) q r (with_heap k) w new w1)
          → Takes blocks block next a why v r m w new w1
      unfolding Takes
      takes-led r new w1 led q stands active own =
          subst (λ l. LedTo l q r m w new w1)
          (sym (takes q ∙ ap (λ t. leads_with state q t) (operated (here_at q m) (stores_of q.program m) refl)))
          (λ s stored. led q stands active s (ap (λ z. with_store (stores_with k q) z) stored))

      pub takes_refused : (x : PrimAns) → p ≡ x → IsRefused awaited p → ((u : Value) (h : List Object) → end_in why u h ≡ None)
          → (r : Stride) (new : Machine) (w1 : Writes) → Refuses blocks block why x r (with_heap k) w new w1 → Takes blocks block next a why v r m w new w1
      takes_refused x same refused no_end r new w1 it =
          takes-led r new w1
          (refused-led state k no_end awaited r new w1 p refused (subst (λ y. Refuses blocks block why y r (with_heap k) w new w1) (sym same) it))
