-- A table of the slots at each place of a block, which each step agrees with: so it has the kinds that the places get, and tells which slots two
-- places have in common.
use Rattle.std.specs.Prelude.{◌≡◌, ℕ, ◌<◌, min, List, [], ◌∷◌, length, take, drop, reverse, slice_get, Contains, Option, Some, None}
use Rattle.pt_instr.specs.Effects.{Kinds}
use Rattle.pt_ranges.specs.declared.handlers.Handler.{Handler}
use Rattle.pt_code.specs.View.{Ins}
use Rattle.sem_fits.specs.fits.Block.{Block, kinds_at_start}
use Rattle.sem_fits.specs.fits.Steps.{Step, steps}
use Rattle.sem_fits.specs.fits.Places.{Gets}
use Rattle.sem_fits.specs.fits.Leaves.{Departs}
use Rattle.law_pieces.specs.piece_kinds.Walk.{Known, StackMap, kinds_of}

-- the place behind an instruction
abbrev pub next_in : Option Ins → (pc : ℕ) → ℕ
next_in None p = p
next_in (Some i) p = i.next

abbrev pub next_of : Block → (pc : ℕ) → ℕ
next_of b p = next_in (b.at p) p

-- each instruction has some length
abbrev pub Rises : Block → Type 0
Rises b = (pc : ℕ) (i : Ins) → b.at pc ≡ Some i → pc < i.next

abbrev pub Table : Type 0
Table = (pc : ℕ) → Option StackMap

-- a slot that is made on the way to a place is of that place, or isn't followed
abbrev pub IsOf : (pc : ℕ) → Option ℕ → Type 0
IsOf p None = Unit {0}
IsOf p (Some o) = o ≡ p

abbrev pub AllOf : (pc : ℕ) → List Known → Type 0
AllOf p [] = Unit {0}
AllOf p (k ∷ ks) = IsOf p k.origin × AllOf p ks

-- a step leads from these slots to those of its place: of its kinds, the lowest as they were, and the others made there
pub record Follows (at : Table) (ks : StackMap) (s : Step) : Type 0 where
  pub slots : StackMap
  pub there : at s.to ≡ Some slots
  pub kinds : kinds_of slots ≡ s.kinds
  pub kept : take s.kept (reverse slots) ≡ take s.kept (reverse ks)
  pub made : AllOf s.to (drop s.kept (reverse slots))

-- each step from a place of the table
abbrev pub AgreesWith : Block → Table → Type 0
AgreesWith b at = (q : ℕ) (ks : StackMap) → at q ≡ Some ks → (s : Step) → Contains (steps b q (kinds_of ks)) s → Follows at ks s

-- a slot, counted from the lowest
abbrev pub slot_of : Option StackMap → ℕ → Option Known
slot_of None d = None
slot_of (Some ks) d = slice_get (reverse ks) d

-- a slot that is followed was made at this place
abbrev pub WasMadeAt : (origin : ℕ) → Option Known → Type 0
WasMadeAt o None = ⊥
WasMadeAt o (Some k) = k.origin ≡ Some o

-- the table of a block: it begins with the slots with which the block does, none of which is followed; steps agree with it, as do Leaves that come to
-- their targets; and some way comes to each place of it
pub record IsTableOf (b : Block) (at : Table) : Type 0 where
  pub first : StackMap
  pub start : at 0 ≡ Some first
  pub kinds : kinds_of first ≡ kinds_at_start b.kind
  pub begins : (d o : ℕ) → WasMadeAt o (slot_of (Some first) d) → ⊥
  pub agrees : AgreesWith b at
  pub reached : (q : ℕ) (ks : StackMap) → at q ≡ Some ks → Gets b b.size q (kinds_of ks)
  pub leaves : (t q d : ℕ) (rows : List Handler) (ks ls : Kinds) → Departs b b.size t q rows ks → Gets b b.size t ls → d < min (length ls) (length ks)
      → slot_of (at q) d ≡ slot_of (at t) d
