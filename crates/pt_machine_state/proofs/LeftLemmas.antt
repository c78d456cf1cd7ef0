-- An exception that left a block arises in the activation that waits, or it is the end of what gives items (Language Reference 8.3).
use Rattle.std.proofs.Common.{◌≡◌, ◌∙◌, [], ◌∷◌, List, Bool, true, false, Option, Some, None, refl, sym, ap, subst}
use Rattle.std.specs.Prelude.{drop, if◌then◌else◌}
use Rattle.pt_base.specs.declared.numbers.Pc.{Pc}
use Rattle.pt_heap.specs.declared.value.Value.{Value}
use Rattle.pt_code.specs.View.{Ins}
use Rattle.pt_frames.specs.declared.purpose.Purpose.{Purpose}
use Rattle.pt_frames.specs.declared.purpose.Purpose.TheVariants as purpose
use Rattle.pt_frames.specs.declared.slot.Slot.{Slot}
use Rattle.sem_control.specs.control.Turn as T
use Rattle.sem_control.specs.control.Turn.{left_by}
use Rattle.sem_code.specs.slots.Slots.{Slots, State, on}
use Rattle.sem_code.specs.slots.CodeObject.{CodeObject}
use Rattle.sem_code.specs.slots.Steps.{with_item}
use Rattle.sem_run.specs.run.Host as H
use Rattle.sem_run.specs.transitions.Successors.{to}
use Rattle.pt_code_facts.specs.sem_rows.pt_host.World.{Names, CodeFacts, Stores, Program}
use Rattle.pt_code_facts.specs.sem_rows.pt_host.Answers.{or_end}
use Rattle.pt_code_facts.specs.sem_rows.pt_host.Leaving.{is_stop}
use Rattle.pt_code_facts.specs.sem_rows.pt_host.Trees.{then_with}
use Rattle.pt_code_facts.specs.sem_rows.heap_rows.Leads.{HeapSuccessor, by_tree, found, giving}
use Rattle.pt_code_facts.specs.sem_rows.heap_rows.Told.{resumed}
use Rattle.pt_code_facts.specs.sem_rows.heap_rows.Views.{slots_view}
use Rattle.pt_machine_state.specs.declared.blocks.BlockCode.{BlockCode}
use Rattle.pt_machine_state.specs.declared.blocks.Blocks.{Blocks}
use Rattle.pt_machine_state.specs.declared.machine.Machine.{Machine}
use Rattle.pt_machine_state.specs.declared.machine.Stride.TheVariants as stride
use Rattle.pt_machine_state.specs.declared.writes.Writes.{Writes}
use Rattle.pt_machine_state.specs.Writing.{Adds}
use Rattle.pt_machine_state.specs.Views.{stores_of}
use Rattle.pt_machine_state.specs.Changes.{behind_block, end_in, gone_to, left_at, left_events, left_slots, raised_at}
use Rattle.pt_machine_state.specs.Applies.{Applied, Asking, LedTo, Stands, here_at, object_of}
use Rattle.pt_machine_state.proofs.ApplyLemmas.{applied_goto, raise-led}

some-is : (p q : Pc) → Some p ≡ Some q → p ≡ q
some-is p q e = cc

-- with nothing written it goes to a place
goes-there : (blocks : Blocks) (block : BlockCode) (next : Pc) (m : Machine) (w : Writes) (pc : Pc) (w1 : Writes) → Adds w w1 [] → (q : Asking) → Stands blocks block next m q
    → LedTo (to (on pc.0 (slots_view m.here.slots)) (stores_of q.program m)) q stride.Goes m w (gone_to pc m) w1
unfolding Applied
goes-there blocks block next m w pc w1 adds q stands s stored =
    let there = applied_goto blocks block next m w pc q stands tt s stored in
    (there.0, (adds, there.1.1))

-- the slots of an exit stay on while its block runs

abbrev below : Purpose → Slots Value → Slots Value
below (purpose.Exit completion) ss = drop 2 ss
below why ss = ss

pub two-down : (slots : List Slot) → drop 2 (slots_view slots) ≡ slots_view (drop 2 slots)
two-down [] = refl
two-down (s ∷ []) = refl
two-down (s ∷ t ∷ slots) = refl

below-is : (why : Purpose) (slots : List Slot) → below why (slots_view slots) ≡ slots_view (left_slots why slots)
below-is purpose.Result slots = refl
below-is purpose.Discard slots = refl
below-is (purpose.Class base cell) slots = refl
below-is (purpose.Init new) slots = refl
below-is purpose.Opposite slots = refl
below-is (purpose.Truth wanted target kept) slots = refl
below-is purpose.Iterate slots = refl
below-is (purpose.Item it at_end) slots = refl
below-is (purpose.Unpack before after) slots = refl
below-is (purpose.Enter exit) slots = refl
below-is (purpose.Exit completion) slots = two-down slots
below-is (purpose.Format spec) slots = refl
below-is (purpose.Resume generator) slots = refl
below-is (purpose.Answer hook event block act args pending) slots = refl

-- an exception that left the block arises, unless it is the end

module _ (program : Program) (code : CodeObject Value) (i : Ins) (facts : CodeFacts) (ss : Slots Value) (v : Value) (ns : Names) (h : H.Here Value) (st : Stores) where
  abbrev by_left : Purpose → HeapSuccessor
  by_left why = resumed program code i facts why ss (record { end = left_by v; names = ns }) h st

  -- with the slots that are left
  abbrev by_raise : Slots Value → HeapSuccessor
  by_raise under = by_tree code i (giving code i under) under (H.raise v st)

  abbrev of_item : (it : Value) → Pc → Bool → HeapSuccessor
  of_item it at_end b = by_tree code i (found (T.next_of it) (with_item code i at_end.0 it ss)) ss (if b then H.answer (H.no_item (Some v)) st else H.raise v st)

  arises-by : (it : Value) (at_end : Pc) (b : Bool) → (if b then Some at_end else None) ≡ None → of_item it at_end b ≡ by_raise ss
  arises-by it at_end true e = absurd (cc)
  arises-by it at_end false e = refl

  ends-by : (it : Value) (at_end pc : Pc) (b : Bool) → (if b then Some at_end else None) ≡ Some pc → of_item it at_end b ≡ to (on pc.0 ss) st
  ends-by it at_end pc true e = ap (λ p. to (on p.0 ss) st) (some-is at_end pc e)
  ends-by it at_end pc false e = absurd (cc)

  left-arises : (why : Purpose) → end_in why v st.world.heap ≡ None → by_left why ≡ by_raise (below why ss)
  unfolding then_with or_end
  left-arises purpose.Result e = refl
  left-arises purpose.Discard e = refl
  left-arises (purpose.Class base cell) e = refl
  left-arises (purpose.Init new) e = refl
  left-arises purpose.Opposite e = refl
  left-arises (purpose.Truth wanted target kept) e = refl
  left-arises purpose.Iterate e = refl
  left-arises (purpose.Item it at_end) e = arises-by it at_end (is_stop v st.world) e
  left-arises (purpose.Unpack before after) e = refl
  left-arises (purpose.Enter exit) e = refl
  left-arises (purpose.Exit completion) e = refl
  left-arises (purpose.Format spec) e = refl
  left-arises (purpose.Resume generator) e = refl
  left-arises (purpose.Answer hook event block act args pending) e = refl

  left-ends : (why : Purpose) (pc : Pc) → end_in why v st.world.heap ≡ Some pc → by_left why ≡ to (on pc.0 (below why ss)) st
  unfolding then_with or_end
  left-ends purpose.Result pc e = absurd (cc)
  left-ends purpose.Discard pc e = absurd (cc)
  left-ends (purpose.Class base cell) pc e = absurd (cc)
  left-ends (purpose.Init new) pc e = absurd (cc)
  left-ends purpose.Opposite pc e = absurd (cc)
  left-ends (purpose.Truth wanted target kept) pc e = absurd (cc)
  left-ends purpose.Iterate pc e = absurd (cc)
  left-ends (purpose.Item it at_end) pc e = ends-by it at_end pc (is_stop v st.world) e
  left-ends (purpose.Unpack before after) pc e = absurd (cc)
  left-ends (purpose.Enter exit) pc e = absurd (cc)
  left-ends (purpose.Exit completion) pc e = absurd (cc)
  left-ends (purpose.Format spec) pc e = absurd (cc)
  left-ends (purpose.Resume generator) pc e = absurd (cc)
  left-ends (purpose.Answer hook event block act args pending) pc e = absurd (cc)

module _ (blocks : Blocks) (block : BlockCode) (next : Pc) (m : Machine) (w : Writes) (why : Purpose) (v : Value) (w1 : Writes) where
  -- the machine goes there
  abbrev LeadsLeft : Asking → (facts : CodeFacts) (ns : Names) → Machine → Type 0
  LeadsLeft q facts ns new =
      LedTo (resumed q.program (object_of q m) q.ins facts why (slots_view m.here.slots) (record { end = left_by v; names = ns }) (here_at q m) (stores_of q.program m)) q stride.Goes m w new w1

  stands-left : (q : Asking) → Stands blocks block next m q → Stands blocks block next (behind_block why m) q
  stands-left q stands = record {
    blocks_known = stands.blocks_known;
    known = stands.known;
    there = stands.there;
    next_is = stands.next_is;
    at_place = stands.at_place;
    plain = stands.plain;
    waiting = stands.waiting;
    placed = stands.placed;
  }

  left-by : (o : Option Pc) → end_in why v m.heap ≡ o → Adds w w1 (left_events v block o (behind_block why m)) → (q : Asking) → Stands blocks block next m q
      → (facts : CodeFacts) (ns : Names) → LeadsLeft q facts ns (left_at block v o (behind_block why m))
  left-by None e adds q stands facts ns =
      subst (λ l. LedTo l q stride.Goes m w (raised_at block v (behind_block why m)) w1)
      (sym (left-arises q.program (object_of q m) q.ins facts (slots_view m.here.slots) v ns (here_at q m) (stores_of q.program m) why e
      ∙ ap (λ under. by_raise q.program (object_of q m) q.ins facts (slots_view m.here.slots) v ns (here_at q m) (stores_of q.program m) under) (below-is why m.here.slots)))
      (raise-led blocks block next (behind_block why m) w v w1 q (stands-left q stands) adds)
  left-by (Some pc) e adds q stands facts ns =
      subst (λ l. LedTo l q stride.Goes m w (gone_to pc (behind_block why m)) w1)
      (sym (left-ends q.program (object_of q m) q.ins facts (slots_view m.here.slots) v ns (here_at q m) (stores_of q.program m) why pc e
      ∙ ap (λ under. to (on pc.0 under) (stores_of q.program m)) (below-is why m.here.slots)))
      (goes-there blocks block next (behind_block why m) w pc w1 adds q (stands-left q stands))

  pub left-led : Adds w w1 (left_events v block (end_in why v m.heap) (behind_block why m)) → (q : Asking) → Stands blocks block next m q
      → (facts : CodeFacts) (ns : Names) → LeadsLeft q facts ns (left_at block v (end_in why v m.heap) (behind_block why m))
  left-led adds q stands facts ns = left-by (end_in why v m.heap) refl adds q stands facts ns
