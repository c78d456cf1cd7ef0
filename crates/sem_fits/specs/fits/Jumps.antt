-- Where a jump to a line leads, said of slots (Library Reference, "inspect": `f_lineno`).
use Rattle.std.specs.Prelude.{◌≡◌, ℕ, ◌<◌, length, slice_get, Contains, Some}
use Rattle.pt_instr.specs.declared.kinds.Kind.{Kind}
use Rattle.pt_instr.specs.declared.kinds.Kind.TheVariants.{Pending}
use Rattle.pt_instr.specs.Effects.{Kinds}
use Rattle.sem_fits.specs.fits.Block.{Block}
use Rattle.sem_fits.specs.fits.Places.{Gets}
use Rattle.sem_fits.specs.fits.Leaves.{Common}
use Rattle.sem_fits.specs.fits.Fits.{IsLeast}

-- a statement starts at a place that has kinds
pub record Starts (b : Block) (line pc : ℕ) : Type 0 where
  pub kinds : Kinds
  pub gets : Gets b b.size pc kinds
  pub listed : Contains b.starts (record { pc = record { 0 = pc }; line = record { 0 = line } })

abbrev InCommon : Block → (slot from to : ℕ) → Type 0
InCommon b d q r = Common b b.size d q r

-- a completion that is held at one of two places isn't in common with the other: a `finally` part is left or entered (8.4.4)
pub data ThroughFinally (b : Block) (from to : ℕ) (ks ls : Kinds) : Type 0 where
  left : (d : ℕ) → slice_get ks d ≡ Some Pending → (InCommon b d from to → ⊥) → ThroughFinally b from to ks ls
  entered : (d : ℕ) → slice_get ls d ≡ Some Pending → (InCommon b d from to → ⊥) → ThroughFinally b from to ks ls

-- another slot of the target isn't in common: a part is entered
pub record Into (b : Block) (from to : ℕ) (ls : Kinds) : Type 0 where
  pub slot : ℕ
  pub kind : Kind
  pub is : slice_get ls slot ≡ Some kind
  pub apart : InCommon b slot from to → ⊥

pub data Answer : Type 0 where
  no_statement : Answer
  out_of_finally : Answer
  into_block : Answer
  lands : (pc depth : ℕ) → Answer

-- the answer to a jump from a place with these kinds to a line
pub data Jumps (b : Block) (from : ℕ) (ks : Kinds) (line : ℕ) : Answer → Type 0 where
  nowhere : ((pc : ℕ) → Starts b line pc → ⊥) → Jumps b from ks line no_statement
  through : (to : ℕ) (ls : Kinds) → IsLeast (Starts b line) to → Gets b b.size to ls → ThroughFinally b from to ks ls → Jumps b from ks line out_of_finally
  enters : (to : ℕ) (ls : Kinds) → IsLeast (Starts b line) to → Gets b b.size to ls → (ThroughFinally b from to ks ls → ⊥) → Into b from to ls
      → Jumps b from ks line into_block
  goes : (to : ℕ) (ls : Kinds) → IsLeast (Starts b line) to → Gets b b.size to ls → (ThroughFinally b from to ks ls → ⊥)
      → ((d : ℕ) → d < length ls → InCommon b d from to) → Jumps b from ks line (lands to (length ls))
