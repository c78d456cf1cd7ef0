-- Code that goes ahead wherever no act begins, but for jumps back to where an act is near: so no state of it is far from an act or from the end
-- (Library Reference, "dis": jumps; PEP 626).
use Rattle.std.specs.Prelude.{◌≡◌, ◌<◌, ◌+◌, ◌*◌, ◌⊎◌, ℕ, List, [], ◌∷◌, length, Some, None}
use Rattle.pt_ranges.specs.declared.lines.ActMark.{ActMark}
use Rattle.pt_ranges.specs.declared.handlers.Handler.{Handler}
use Rattle.pt_instr.specs.declared.Instr.{Instr}
use Rattle.pt_instr.specs.declared.Instr.TheVariants as instr
use Rattle.pt_code.specs.View.{Ins}
use Rattle.sem_code.specs.slots.Slots.{State, on, thrown_to, reraises, off}
use Rattle.sem_code.specs.slots.CodeObject.{CodeObject}

-- without a mark it goes on to the place behind it: it moves slots, or asks for what is passed, as names that are bound and unbound
abbrev pub IsStraight : Instr → Type 0
IsStraight instr.Nop = Unit {0}
IsStraight (instr.Const k) = Unit {0}
IsStraight (instr.SetLocal x) = Unit {0}
IsStraight (instr.DelLocal x) = Unit {0}
IsStraight (instr.FreshLocal x) = Unit {0}
IsStraight (instr.SetCell x) = Unit {0}
IsStraight (instr.DelCell x) = Unit {0}
IsStraight (instr.FreshCell x) = Unit {0}
IsStraight (instr.PushCell x) = Unit {0}
IsStraight (instr.SetGlobal t) = Unit {0}
IsStraight (instr.DelGlobal t) = Unit {0}
IsStraight (instr.SetName t) = Unit {0}
IsStraight (instr.DelName t) = Unit {0}
IsStraight instr.Pop = Unit {0}
IsStraight instr.Copy = Unit {0}
IsStraight instr.Copy2 = Unit {0}
IsStraight instr.Swap = Unit {0}
IsStraight instr.Rot3 = Unit {0}
IsStraight instr.Caught = Unit {0}
IsStraight instr.EndHandler = Unit {0}
IsStraight instr.Normal = Unit {0}
IsStraight i = ⊥

-- or it leaves its place with what it takes
abbrev pub IsSilent : Instr → Type 0
IsSilent instr.Return = Unit {0}
IsSilent instr.Rethrow = Unit {0}
IsSilent instr.EndFinally = Unit {0}
IsSilent i = IsStraight i

-- the targets of handler rows have a property
abbrev pub AllTargets : (ℕ → Type 0) → List Handler → Type 0
AllTargets P [] = Unit {0}
AllTargets P (row ∷ rows) = P row.target.0 × AllTargets P rows

-- they lie ahead
abbrev pub AllAhead : (pc : ℕ) → List Handler → Type 0
AllAhead pc rows = AllTargets (λ q. pc < q) rows

module _ {V : Type 0} (code : CodeObject V) where
  -- an act begins at the place, or behind straight instructions alone, which stand under these handler rows
  pub data NearAct (rows : List Handler) : (pc : ℕ) → Type 0 where
    there : (pc : ℕ) (i : Ins) (m : ActMark) → code.at pc ≡ Some i → i.mark ≡ Some m → NearAct rows pc
    behind : (pc : ℕ) (i : Ins) → code.at pc ≡ Some i → i.mark ≡ None → IsStraight i.instr → i.rows ≡ rows → pc < i.next → NearAct rows i.next
        → NearAct rows pc

  -- a jump goes ahead, or to where an act is near under the rows of the jump
  abbrev pub LeadsOn : (pc : ℕ) → List Handler → Instr → Type 0
  LeadsOn pc rows (instr.Jump t) = (pc < t.0) ⊎ NearAct rows t.0
  LeadsOn pc rows (instr.JumpUnless t) = pc < t.0
  LeadsOn pc rows i = IsSilent i

  -- an instruction at a place, where no act begins
  pub record Onward (pc : ℕ) (i : Ins) : Type 0 where
    pub next : pc < i.next
    pub rows : AllAhead pc i.rows
    pub leads : LeadsOn pc i.rows i.instr

  -- code of so many bytes
  pub record GoesAhead (size : ℕ) : Type 0 where
    pub inside : (pc : ℕ) (i : Ins) → code.at pc ≡ Some i → pc < size
    pub onward : (pc : ℕ) (i : Ins) → code.at pc ≡ Some i → i.mark ≡ None → Onward pc i

-- how many slots lie in a state that may go on silently
abbrev pub slots_in : {V : Type 0} → State V → ℕ
slots_in (on pc ss) = length ss
slots_in (thrown_to pc e ss) = 0
slots_in (reraises e rows ss) = length ss
slots_in (off e) = 0

-- within so many turns comes an act or the end: two for each place ahead, and one for each on the way to a near act; and once more for each slot, which
-- may hold a jump that goes back
abbrev pub turns_to_act : {V : Type 0} → (size : ℕ) → State V → ℕ
turns_to_act size s = 1 + 3 * size + slots_in s * (2 * size)
