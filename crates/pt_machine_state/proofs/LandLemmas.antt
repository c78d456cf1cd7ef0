-- Where a completion lands in the machine it lands in the run.
use Rattle.std.proofs.Common.{◌≡◌, ◌∙◌, ℕ, ◌-◌, zero, suc, List, [], ◌∷◌, length, drop, Bool, true, false, Option, Some, None, refl, sym, ap, filter}
use Rattle.std.specs.Option.{option_or}
use Rattle.pt_base.specs.declared.numbers.Pc.{Pc}
use Rattle.pt_heap.specs.declared.value.Value.{Value}
use Rattle.pt_heap.specs.declared.completion.Completion.{Completion}
use Rattle.pt_heap.specs.declared.completion.Completion.TheVariants.{Raise, Return, Leave}
use Rattle.pt_ranges.specs.Rows.{covers}
use Rattle.pt_code.specs.View.{Ins}
use Rattle.pt_frames.specs.declared.slot.Slot.{Slot}
use Rattle.pt_frames.specs.declared.slot.Slot.TheVariants as slot
use Rattle.pt_frames.specs.Slots as frames
use Rattle.pt_frames.specs.Slots.{active_in}
use Rattle.sem_code.specs.slots.Slots as S
use Rattle.sem_code.specs.slots.Slots.{Abrupt, Slots, State, on}
use Rattle.sem_code.specs.slots.Landing.{land, cut, held_by}
use Rattle.pt_unwind.specs.declared.Landing.{Landing}
use Rattle.pt_unwind.specs.declared.Landing.TheVariants.{Enter, Jump, Out}
use Rattle.pt_unwind.specs.Landings.{landing_of}
use Rattle.pt_unwind.specs.Steps.{completion_of, state_behind}
use Rattle.pt_unwind.proofs.StepLemmas.{lands_same}
use Rattle.sem_run.specs.run.Machine.{BlockId}
use Rattle.pt_code_facts.specs.sem_rows.pt_host.World.{Program}
use Rattle.sem_code_machine.specs.code_machine.CodeBlocks.{CodeBlocks}
use Rattle.pt_code_facts.specs.sem_rows.heap_rows.Views.{slot_view, slots_view}
use Rattle.pt_machine_state.specs.declared.blocks.BlockCode.{BlockCode}
use Rattle.pt_machine_state.specs.declared.machine.Machine.{Machine}
use Rattle.pt_machine_state.specs.declared.machine.Standing.TheVariants as standing
use Rattle.pt_machine_state.specs.Blocks.{IsBlockOf, depth_of}
use Rattle.pt_machine_state.specs.Views.{state_of}
use Rattle.pt_machine_state.specs.Changes.{held, at_depth, jumped, landed, landed_at}

length-view : (slots : List Slot) → length (slots_view slots) ≡ length slots
length-view [] = refl
length-view (s ∷ ss) = ap suc (length-view ss)

drop-view : (n : ℕ) (slots : List Slot) → slots_view (drop n slots) ≡ drop n (slots_view slots)
drop-view zero slots = refl
drop-view (suc n) [] = refl
drop-view (suc n) (s ∷ ss) = drop-view n ss

pub cut-view : (d : ℕ) (slots : List Slot) → slots_view (at_depth d slots) ≡ cut d (slots_view slots)
cut-view d slots = drop-view (length slots - d) slots ∙ ap (λ k. drop (k - d) (slots_view slots)) (sym (length-view slots))

held-view : (b : Bool) (a : Abrupt Value) → slot_view (held b (completion_of a)) ≡ held_by b a
held-view false (S.raise v) = refl
held-view false (S.return v) = refl
held-view false (S.jump_to t) = refl
held-view true (S.raise v) = refl
held-view true (S.return v) = refl
held-view true (S.jump_to t) = refl

-- the exception that slots are busy with is the same in both
busy-view : (s : Slot) → frames.busy_with s ≡ S.busy_with (slot_view s)
busy-view (slot.Value v) = refl
busy-view (slot.Cell n) = refl
busy-view (slot.Iter v) = refl
busy-view (slot.Exc v) = refl
busy-view (slot.Pending Completion.Normal) = refl
busy-view (slot.Pending (Raise v)) = refl
busy-view (slot.Pending (Return v)) = refl
busy-view (slot.Pending (Leave t)) = refl
busy-view (slot.With v) = refl

or-view : (o p : Option Value) → option_or o p ≡ S.or_else o p
or-view None p = refl
or-view (Some v) p = refl

pub active-view : (slots : List Slot) → S.active (slots_view slots) ≡ active_in slots
active-view [] = refl
active-view (s ∷ ss) = sym (or-view (frames.busy_with s) (active_in ss) ∙ ap (λ o. S.or_else o (active_in ss)) (busy-view s)
    ∙ ap (λ o. S.or_else (S.busy_with (slot_view s)) o) (sym (active-view ss)))

module _ (program : Program) (code : CodeBlocks Value) (block : BlockCode) where
  jumped-state : (b : BlockId) (m : Machine) (pc : Pc) → IsBlockOf program code b block → m.standing ≡ standing.AtPlace
      → state_of (jumped block pc m).standing (jumped block pc m).here ≡ on pc.0 (cut ((code.object b).depth_at pc.0) (slots_view m.here.slots))
  jumped-state b m pc known at_place =
      ap (λ s. state_of s (jumped block pc m).here) at_place
      ∙ ap (λ ss. on pc.0 ss) (cut-view (depth_of block pc.0) m.here.slots)
      ∙ ap (λ d. on pc.0 (cut d (slots_view m.here.slots))) (sym (known.depths pc.0))

  -- of an abrupt completion
  landed-at : (b : BlockId) (m : Machine) (a : Abrupt Value) (l : Landing) → IsBlockOf program code b block → m.standing ≡ standing.AtPlace
      → state_of (landed_at block (completion_of a) l m).standing (landed_at block (completion_of a) l m).here ≡ state_behind (code.object b) a (slots_view m.here.slots) l
  landed-at b m a (Enter pc depth holds) known at_place =
      ap (λ s. state_of s (landed_at block (completion_of a) (Enter pc depth holds) m).here) at_place
      ∙ ap (λ s. on pc.0 (s ∷ slots_view (at_depth depth m.here.slots))) (held-view holds a)
      ∙ ap (λ ss. on pc.0 (held_by holds a ∷ ss)) (cut-view depth m.here.slots)
  landed-at b m a (Jump pc) known at_place = jumped-state b m pc known at_place
  landed-at b m (S.raise v) Out known at_place = refl
  landed-at b m (S.return v) Out known at_place = refl
  landed-at b m (S.jump_to t) Out known at_place = jumped-state b m (record { 0 = t }) known at_place

  pub landed-state : (b : BlockId) (i : Ins) (m : Machine) (a : Abrupt Value) → IsBlockOf program code b block → m.standing ≡ standing.AtPlace
      → (code.object b).at m.here.pc.0 ≡ Some i
      → state_of (landed block (completion_of a) m).standing (landed block (completion_of a) m).here ≡ land (code.object b) i.rows a (slots_view m.here.slots)
  landed-state b i m a known at_place there =
      landed-at b m a (landing_of block.handlers m.here.pc (completion_of a)) known at_place
      ∙ sym (lands_same (code.object b) (filter (λ row. covers row m.here.pc) block.handlers) m.here.pc a (slots_view m.here.slots))
      ∙ ap (λ rows. land (code.object b) rows a (slots_view m.here.slots)) (sym (known.rows m.here.pc.0 i there))
