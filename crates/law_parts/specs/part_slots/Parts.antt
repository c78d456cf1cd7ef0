-- Which slots are those of closed parts.
use Rattle.std.specs.Prelude.{◌≡◌, ℕ, List, [], ◌∷◌, length, Option, Some, None, if◌then◌else◌}
use Rattle.pt_instr.specs.declared.kinds.Kind.TheVariants.{Pending}
use Rattle.sem_control.specs.control.Jump.{Part, same}
use Rattle.sem_fits.specs.comp_jumps.Parts.{kind_of_part}
use Rattle.law_pieces.specs.piece_kinds.Walk.{StackMap}
use Rattle.law_parts.specs.part_slots.Slots.{PartSlot, part_slot}

-- the slot of a part, the first that is told
abbrev pub slot_in : List PartSlot → Part → Option PartSlot
slot_in [] q = None
slot_in (s ∷ ss) q = if same s.part q then Some s else slot_in ss q

-- the slots at a place, the top first, are those of these parts, the innermost first, each made where its part's is
abbrev pub AreOf : (slots : Part → Option PartSlot) → List Part → StackMap → Type 0
AreOf f [] [] = Unit {0}
AreOf f (q ∷ ps) (k ∷ ks) =
    (k.kind ≡ kind_of_part q) × ((o : ℕ) × (k.origin ≡ Some o) × (f q ≡ Some (part_slot q (length ks) o))) × AreOf f ps ks
AreOf f ps ks = ⊥

-- none of these slots is a closed part's, and none holds a completion
abbrev pub AreOthers : (slots : Part → Option PartSlot) → StackMap → Type 0
AreOthers f [] = Unit {0}
AreOthers f (k ∷ ks) = (k.kind ≡ Pending → ⊥) × ((q : Part) (s : PartSlot) → f q ≡ Some s → k.origin ≡ Some s.origin → ⊥) × AreOthers f ks
