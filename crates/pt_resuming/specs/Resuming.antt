-- What the machine does with what a block gave that was called for something else than a value: the
-- activation that waited goes on at a place, with slots above its own (Language Reference 6.11, 6.13,
-- 8.1 to 8.3, 8.5).
use Rattle.std.specs.Prelude.{◌≡◌, List, [], ◌∷◌, ◌++◌, Bool, true, false, Option, Some, None}
use Rattle.pt_base.specs.declared.numbers.Pc.{Pc}
use Rattle.pt_heap.specs.declared.value.Value.{Value}
use Rattle.pt_frames.specs.Slots.{active_in}
use Rattle.pt_frames.specs.declared.slot.Slot.{Slot}
use Rattle.pt_frames.specs.declared.slot.Slot.TheVariants as slot
use Rattle.pt_frames.specs.declared.purpose.Purpose.{Purpose as For}
use Rattle.pt_frames.specs.declared.purpose.Purpose.TheVariants as why
use Rattle.pt_giving.specs.pt_host.Primitives.{truth_in}
use Rattle.pt_giving.specs.pt_calling.pt_machine_state.declared.blocks.BlockCode.{BlockCode}
use Rattle.pt_giving.specs.pt_purposes.declared.purpose.Called.{Called}
use Rattle.pt_giving.specs.pt_purposes.declared.standing.Standing.TheVariants.{AtPlace}
use Rattle.pt_giving.specs.pt_purposes.Openers.{origin_in}
use Rattle.pt_giving.specs.pt_calling.pt_arising.pt_opening.pt_run_state.declared.machine.Machine.{Machine}
use Rattle.pt_giving.specs.pt_calling.pt_arising.pt_opening.pt_telling.Telling.{Told}
use Rattle.pt_giving.specs.pt_calling.pt_arising.pt_replying.declared.replying.Decided.{Decided}
use Rattle.pt_giving.specs.pt_calling.pt_arising.pt_replying.declared.replying.Given.{Given}
use Rattle.pt_giving.specs.pt_calling.pt_arising.pt_replying.Replying.{replied}
use Rattle.pt_giving.specs.Giving.{ReceivedSo, goes, left}

-- where the activation goes on, with these slots above its own
pub record Place : Type 0 where
  pub pc : Pc
  pub over : List Slot

abbrev pub place : Pc → List Slot → Place
place pc over = record { pc = pc; over = over }

abbrev pub kept_slots : Option Value → List Slot
kept_slots (Some v) = slot.Value v ∷ []
kept_slots None = []

-- a truth leads to a place where it is as wanted, with what is kept, and else behind the instruction
abbrev pub decided_place : (wanted : Bool) → (target : Pc) → (kept : Option Value) → (next : Pc)
    → Bool → Place
decided_place true target k next true = place target (kept_slots k)
decided_place true target k next false = place next []
decided_place false target k next true = place next []
decided_place false target k next false = place target (kept_slots k)

abbrev pub truth_place : (wanted : Bool) → (target : Pc) → (kept : Option Value) → (next : Pc)
    → Option Bool → Option Place
truth_place wanted target k next (Some b) = Some (decided_place wanted target k next b)
truth_place wanted target k next None = None

-- so leads the value of a block that was called for this
abbrev pub placed_for : For → (next : Pc) → Value → Option Place
placed_for why.Iterate next v = Some (place next (slot.Iter v ∷ []))
placed_for (why.Item iterator end) next v =
    Some (place next (slot.Value v ∷ slot.Iter iterator ∷ []))
placed_for why.Discard next v = Some (place next [])
placed_for (why.Enter exit) next v = Some (place next (slot.Value v ∷ slot.With exit ∷ []))
placed_for (why.Truth wanted target kept) next v =
    truth_place wanted target kept next (truth_in v)
placed_for w next v = None

abbrev pub laid : Place → Machine → Machine
laid p m = record m {
  code = record m.code {
    here = record m.code.here { pc = p.pc; slots = p.over ++ m.code.here.slots };
  };
}

-- it is there, if it goes anywhere
abbrev pub LaidSo : Option Place → (old : Machine) → (there : Bool) → (new : Machine) → Type 0
LaidSo (Some p) old there new = (there ≡ true) × (new ≡ laid p old)
LaidSo None old there new = (there ≡ false) × (new ≡ old)

abbrev pub given_with : Option Called → Decided → Given
given_with called d = record { called = called; stops = None; decided = d }

-- and that is told
abbrev pub given_there : BlockCode → Option Called → (is_act : Bool) → Decided
    → (old new : Machine) → Told
given_there block called acts d old new =
    replied block (given_with called d) acts AtPlace (active_in old.code.here.slots)
    (origin_in old.code.here) new

abbrev pub resumed_if : BlockCode → Option Place → Option Called → (is_act : Bool) → Decided
    → Machine → ReceivedSo
resumed_if block (Some p) called acts d m = goes (given_there block called acts d m (laid p m))
resumed_if block None called acts d m = left m

abbrev pub resumed_by : BlockCode → (next : Pc) → Value → For → Option Called → (is_act : Bool)
    → Decided → Machine → ReceivedSo
resumed_by block next v w called acts d m =
    resumed_if block (placed_for w next v) called acts d m
