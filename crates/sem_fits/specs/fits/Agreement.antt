-- How a block may fail to agree up to a place, by the kinds that places get through the instructions there and below. Each failure has its witness.
use Rattle.std.specs.Prelude.{◌≡◌, ℕ, length, Contains, false, nat_eq, nat_le, None}
use Rattle.pt_instr.specs.declared.Instr.TheVariants.{Leave}
use Rattle.pt_instr.specs.Effects.{Kinds}
use Rattle.pt_ranges.specs.declared.handlers.Handler.{Handler}
use Rattle.pt_base.specs.declared.numbers.Pc.{Pc}
use Rattle.pt_code.specs.View.{Ins}
use Rattle.sem_fits.specs.fits.Block.{Block, effect}
use Rattle.sem_fits.specs.fits.Steps.{step, steps, are_kinds, is_prefix, has_enough, finds, is_within, cut}
use Rattle.sem_fits.specs.fits.Places.{Gets, Reached}
use Rattle.sem_fits.specs.fits.Leaves.{Leaving}
use Rattle.sem_fits.specs.fits.Standing.{may_stand}

-- a place gets two numbers of slots
pub data LengthsMeet (b : Block) (p : ℕ) : Type 0 where
  two : {q : ℕ} {ks ls : Kinds} → Gets b p q ks → Gets b p q ls → nat_eq (length ks) (length ls) ≡ false → LengthsMeet b p

-- a handler row leaves more slots than lie below those that an instruction under it takes, or slots of two kinds
pub data HandlerFails (b : Block) (p : ℕ) (row : Handler) : Type 0 where
  too_deep : {q : ℕ} {i : Ins} {ks : Kinds} → Reached b p q i ks → Contains i.rows row → is_within (effect b.links i.instr) ks row ≡ false → HandlerFails b p row
  differs : {q r : ℕ} {i j : Ins} {ks ls : Kinds} → Reached b p q i ks → Contains i.rows row → Reached b p r j ls → Contains j.rows row
      → are_kinds (cut row ks) (cut row ls) ≡ false → HandlerFails b p row

-- an instruction has fewer slots than it takes and reads, or a Leave fewer than its target has
pub data TooFew (b : Block) (p : ℕ) : Type 0 where
  lacks : {q : ℕ} {i : Ins} {ks : Kinds} → Reached b p q i ks → has_enough (effect b.links i.instr) ks ≡ false → TooFew b p
  leaves : {t : ℕ} {ks ls : Kinds} → Leaving b p t ks → Gets b p t ls → nat_le (length ls) (length ks) ≡ false → TooFew b p

-- a place gets two lists, an instruction finds another kind or may not stand there, or a Leave has other kinds than its target
pub data KindsClash (b : Block) (p : ℕ) : Type 0 where
  two : {q : ℕ} {ks ls : Kinds} → Gets b p q ks → Gets b p q ls → are_kinds ks ls ≡ false → KindsClash b p
  lacks : {q : ℕ} {i : Ins} {ks : Kinds} → Reached b p q i ks → finds (effect b.links i.instr) ks ≡ false → KindsClash b p
  misplaced : {q : ℕ} {i : Ins} {ks : Kinds} → Reached b p q i ks → may_stand b.kind b.links i.instr ≡ false → KindsClash b p
  leaves : {t : ℕ} {ks ls : Kinds} → Leaving b p t ks → Gets b p t ls → is_prefix ls ks ≡ false → KindsClash b p

-- an instruction goes on to where none stands
pub data Strays (b : Block) (p : ℕ) : Type 0 where
  goes : {q r kept : ℕ} {i : Ins} {ks ls : Kinds} → Reached b p q i ks → Contains (steps b q ks) (step r ls kept) → b.at r ≡ None → Strays b p
  leaves : {q : ℕ} {i : Ins} {ks : Kinds} → Reached b p q i ks → (t : Pc) → i.instr ≡ Leave t → b.at t.0 ≡ None → Strays b p

pub record Agrees (b : Block) (p : ℕ) : Type 0 where
  pub lengths : LengthsMeet b p → ⊥
  pub handlers : (row : Handler) → HandlerFails b p row → ⊥
  pub enough : TooFew b p → ⊥
  pub kinds : KindsClash b p → ⊥
  pub inside : Strays b p → ⊥
