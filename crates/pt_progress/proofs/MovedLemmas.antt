-- What a block gave is kept, or decides where the machine goes on, as in a run.
use Rattle.std.proofs.Common.{◌≡◌, ◌∙◌, List, [], ◌∷◌, Bool, true, false, Option, Some, None, refl, sym, ap, subst}
use Rattle.std.specs.Prelude.{drop}
use Rattle.pt_base.specs.declared.numbers.Line.{Line}
use Rattle.pt_base.specs.declared.numbers.Pc.{Pc}
use Rattle.pt_base.specs.declared.what.What.TheVariants.{Feature}
use Rattle.pt_heap.specs.declared.completion.Completion.{Completion}
use Rattle.pt_heap.specs.declared.completion.Completion.TheVariants as completion
use Rattle.pt_heap.specs.declared.value.Value.{Value}
use Rattle.pt_heap.specs.declared.value.Value.TheVariants as value
use Rattle.pt_frames.specs.declared.activation.Activation.{Activation}
use Rattle.pt_frames.specs.declared.purpose.Purpose.{Purpose}
use Rattle.pt_frames.specs.declared.purpose.Purpose.TheVariants as purpose
use Rattle.pt_frames.specs.declared.slot.Slot.{Slot}
use Rattle.pt_frames.specs.declared.slot.Slot.TheVariants as slot
use Rattle.sem_code.specs.slots.Slots as S
use Rattle.sem_code.specs.slots.Slots.{on}
use Rattle.sem_run.specs.transitions.Successors.{outside, to}
use Rattle.sem_rows.specs.pt_host.Answers.{or_end}
use Rattle.sem_rows.specs.pt_host.Calls.{opposite}
use Rattle.sem_rows.specs.pt_host.Primitives.{answer_if, truth_in}
use Rattle.sem_rows.specs.pt_host.Trees.{then_with}
use Rattle.sem_rows.specs.heap_rows.Leads.{HeapSuccessor, by_tree}
use Rattle.sem_rows.specs.heap_rows.Told.{branched, resumed}
use Rattle.sem_rows.specs.heap_rows.Views.{completion_view, slots_view}
use Rattle.pt_transfers.specs.pt_machine_state.declared.blocks.BlockCode.{BlockCode}
use Rattle.pt_transfers.specs.pt_machine_state.declared.blocks.Blocks.{Blocks}
use Rattle.pt_transfers.specs.pt_machine_state.declared.machine.Machine.{Machine}
use Rattle.pt_transfers.specs.pt_machine_state.declared.machine.MachineEnd.TheVariants as end
use Rattle.pt_transfers.specs.pt_machine_state.declared.machine.Stride.{Stride}
use Rattle.pt_transfers.specs.pt_machine_state.declared.machine.Stride.TheVariants as stride
use Rattle.pt_transfers.specs.pt_machine_state.declared.writes.Writes.{Writes}
use Rattle.pt_transfers.specs.pt_machine_state.Applies.{Asking, LedTo, Stands, Takes, given_by, here_at, object_of}
use Rattle.pt_transfers.specs.pt_machine_state.Changes.{visible_line}
use Rattle.pt_transfers.specs.pt_machine_state.Views.{block_of, run_in, run_of, state_of, stores_of}
use Rattle.pt_transfers.proofs.pt_machine_state.ApplyLemmas.{to_state}
use Rattle.pt_transfers.proofs.pt_machine_state.LeftLemmas.{two-down}
use Rattle.pt_transfers.proofs.pt_machine_state.LineLemmas.{outside-led}
use Rattle.pt_progress.specs.Taking.{IsKept, branched_to, kept_by, moved, raise_in}

module _ (blocks : Blocks) (block : BlockCode) (next : Pc) (m : Machine) (w : Writes) where
  moved-in : (q : Asking) → Stands blocks block next m q → (pc : Pc) (slots : List Slot)
      → run_of q.program (moved pc slots m) q.beside ≡ run_in q.program (on pc.0 (slots_view slots)) m q.beside
  moved-in q stands pc slots = ap (λ t. run_in q.program (state_of t (moved pc slots m).here) m q.beside) stands.at_place

  -- it goes on at a place, or behind the instruction
  pub moved-led : (q : Asking) → Stands blocks block next m q → (pc : Pc) (slots : List Slot)
      → LedTo (to (on pc.0 (slots_view slots)) (stores_of q.program m)) q stride.Goes m w (moved pc slots m) w
  moved-led q stands pc slots =
      to_state blocks block next m q w (moved pc slots m) (on pc.0 (slots_view slots)) (moved-in q stands pc slots) (stands.waiting, stands.placed)

  pub next-led : (q : Asking) → Stands blocks block next m q → (slots : List Slot)
      → LedTo (to (on q.ins.next (slots_view slots)) (stores_of q.program m)) q stride.Goes m w (moved next slots m) w
  next-led q stands slots =
      subst (λ n. LedTo (to (on n (slots_view slots)) (stores_of q.program m)) q stride.Goes m w (moved next slots m) w) (sym stands.next_is) (moved-led q stands next slots)

  module _ (a : Activation) where
    -- where what a block gave leads
    abbrev leads : Asking → Purpose → Value → HeapSuccessor
    leads q why v =
        resumed q.program (object_of q m) q.ins (q.program.facts (block_of a)) why (slots_view m.here.slots) (given_by q.program a v) (here_at q m) (stores_of q.program m)

    takes-at : (why : Purpose) (v : Value) (pc : Pc) (slots : List Slot) → ((q : Asking) → leads q why v ≡ to (on pc.0 (slots_view slots)) (stores_of q.program m))
        → Takes blocks block next a why v stride.Goes m w (moved pc slots m) w
    unfolding Takes
    takes-at why v pc slots same q stands active own =
        subst (λ l. LedTo l q stride.Goes m w (moved pc slots m) w) (sym (same q)) (moved-led q stands pc slots)

    pub takes-next : (why : Purpose) (v : Value) (slots : List Slot) → ((q : Asking) → leads q why v ≡ to (on q.ins.next (slots_view slots)) (stores_of q.program m))
        → Takes blocks block next a why v stride.Goes m w (moved next slots m) w
    unfolding Takes
    takes-next why v slots same q stands active own =
        subst (λ l. LedTo l q stride.Goes m w (moved next slots m) w) (sym (same q)) (next-led q stands slots)

    -- it is kept

    init-is : (q : Asking) (new v : Value) → leads q (purpose.Init new) v ≡ to (on q.ins.next (slots_view (slot.Value new ∷ m.here.slots))) (stores_of q.program m)
    unfolding then_with
    init-is q new v = refl

    opposite-is : (q : Asking) (v : Value) → leads q purpose.Opposite v ≡ to (on q.ins.next (slots_view (slot.Value (opposite v) ∷ m.here.slots))) (stores_of q.program m)
    unfolding then_with
    opposite-is q v = refl

    discard-is : (q : Asking) (v : Value) → leads q purpose.Discard v ≡ to (on q.ins.next (slots_view m.here.slots)) (stores_of q.program m)
    unfolding then_with
    discard-is q v = refl

    item-is : (q : Asking) (it : Value) (at_end : Pc) (v : Value)
        → leads q (purpose.Item it at_end) v ≡ to (on q.ins.next (slots_view (slot.Value v ∷ slot.Iter it ∷ m.here.slots))) (stores_of q.program m)
    unfolding then_with or_end
    item-is q it at_end v = refl

    enter-is : (q : Asking) (exit v : Value)
        → leads q (purpose.Enter exit) v ≡ to (on q.ins.next (slots_view (slot.Value v ∷ slot.With exit ∷ m.here.slots))) (stores_of q.program m)
    unfolding then_with
    enter-is q exit v = refl

    pub takes_kept : (why : Purpose) → IsKept why → (v : Value) → Takes blocks block next a why v stride.Goes m w (kept_by why next v m) w
    takes_kept purpose.Result is v = takes-next purpose.Result v (slot.Value v ∷ m.here.slots) (λ q. refl)
    takes_kept purpose.Discard is v = takes-next purpose.Discard v m.here.slots (λ q. discard-is q v)
    takes_kept (purpose.Class base cell) is v = absurd is
    takes_kept (purpose.Init new) is v = takes-next (purpose.Init new) v (slot.Value new ∷ m.here.slots) (λ q. init-is q new v)
    takes_kept purpose.Opposite is v = takes-next purpose.Opposite v (slot.Value (opposite v) ∷ m.here.slots) (λ q. opposite-is q v)
    takes_kept (purpose.Truth wanted target kept) is v = absurd is
    takes_kept purpose.Iterate is v = takes-next purpose.Iterate v (slot.Iter v ∷ m.here.slots) (λ q. refl)
    takes_kept (purpose.Item it at_end) is v = takes-next (purpose.Item it at_end) v (slot.Value v ∷ slot.Iter it ∷ m.here.slots) (λ q. item-is q it at_end v)
    takes_kept (purpose.Unpack before after) is v = absurd is
    takes_kept (purpose.Enter exit) is v = takes-next (purpose.Enter exit) v (slot.Value v ∷ slot.With exit ∷ m.here.slots) (λ q. enter-is q exit v)
    takes_kept (purpose.Exit completion) is v = absurd is
    takes_kept (purpose.Format spec) is v = absurd is
    takes_kept (purpose.Resume generator) is v = takes-next (purpose.Resume generator) v (slot.Value v ∷ m.here.slots) (λ q. refl)
    takes_kept (purpose.Answer hook event act_block act args pending) is v =
        takes-next (purpose.Answer hook event act_block act args pending) v (slot.Value v ∷ m.here.slots) (λ q. refl)

    -- it decides

    branch-is : (q : Asking) (wanted : Bool) (target : Pc) (k : Option Value) (b : Bool)
        → leads q (purpose.Truth wanted target k) (value.Bool b) ≡ to (branched q.program (object_of q m) q.ins wanted target k (slots_view m.here.slots) b) (stores_of q.program m)
    unfolding then_with
    branch-is q wanted target k b = refl

    pub takes_branch : (wanted : Bool) (target : Pc) (k : Option Value) (b : Bool)
        → Takes blocks block next a (purpose.Truth wanted target k) (value.Bool b) stride.Goes m w (branched_to wanted target k next b m) w
    takes_branch true target (Some v) true = takes-at (purpose.Truth true target (Some v)) (value.Bool true) target (slot.Value v ∷ m.here.slots) (λ q. branch-is q true target (Some v) true)
    takes_branch true target None true = takes-at (purpose.Truth true target None) (value.Bool true) target m.here.slots (λ q. branch-is q true target None true)
    takes_branch true target k false = takes-next (purpose.Truth true target k) (value.Bool false) m.here.slots (λ q. branch-is q true target k false)
    takes_branch false target k true = takes-next (purpose.Truth false target k) (value.Bool true) m.here.slots (λ q. branch-is q false target k true)
    takes_branch false target (Some v) false = takes-at (purpose.Truth false target (Some v)) (value.Bool false) target (slot.Value v ∷ m.here.slots) (λ q. branch-is q false target (Some v) false)
    takes_branch false target None false = takes-at (purpose.Truth false target None) (value.Bool false) target m.here.slots (λ q. branch-is q false target None false)

    -- what is no truth isn't awaited
    untrue-is : (q : Asking) (wanted : Bool) (target : Pc) (k : Option Value) (v : Value) → truth_in v ≡ None → leads q (purpose.Truth wanted target k) v ≡ outside Feature
    unfolding then_with
    untrue-is q wanted target k v e =
        ap (λ o. by_tree (object_of q m) q.ins (branched q.program (object_of q m) q.ins wanted target k (slots_view m.here.slots)) (slots_view m.here.slots) (answer_if o (stores_of q.program m))) e

    pub takes_untrue : (wanted : Bool) (target : Pc) (k : Option Value) (v : Value) → truth_in v ≡ None → (r : Stride)
        → (line : Line) × ((r ≡ stride.Ends (end.Outside Feature line)) × (line.0 ≡ visible_line blocks m)) → Takes blocks block next a (purpose.Truth wanted target k) v r m w m w
    unfolding Takes
    takes_untrue wanted target k v e r (line, (ends, at)) q stands active own =
        subst (λ l. LedTo l q r m w m w) (sym (untrue-is q wanted target k v e))
        (subst (λ s. LedTo (outside Feature) q s m w m w) (sym ends) (outside-led blocks block next m m w Feature line q stands refl at))

    -- an exit goes on with what it holds

    held-is : (q : Asking) (how : Completion) (v : Value) → raise_in how ≡ None
        → leads q (purpose.Exit how) v ≡ to (on q.ins.next (slots_view (slot.Pending how ∷ drop 2 m.here.slots))) (stores_of q.program m)
    unfolding then_with
    held-is q completion.Normal v e = ap (λ ss. to (on q.ins.next (S.pending (completion_view completion.Normal) ∷ ss)) (stores_of q.program m)) (two-down m.here.slots)
    held-is q (completion.Raise x) v e = absurd (cc)
    held-is q (completion.Return x) v e = ap (λ ss. to (on q.ins.next (S.pending (completion_view (completion.Return x)) ∷ ss)) (stores_of q.program m)) (two-down m.here.slots)
    held-is q (completion.Leave t) v e = ap (λ ss. to (on q.ins.next (S.pending (completion_view (completion.Leave t)) ∷ ss)) (stores_of q.program m)) (two-down m.here.slots)

    pub takes_held : (how : Completion) (v : Value) → raise_in how ≡ None
        → Takes blocks block next a (purpose.Exit how) v stride.Goes m w (moved next (slot.Pending how ∷ drop 2 m.here.slots) m) w
    takes_held how v e = takes-next (purpose.Exit how) v (slot.Pending how ∷ drop 2 m.here.slots) (λ q. held-is q how v e)
