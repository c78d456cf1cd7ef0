-- What is told of the slots at the places of a block (Library Reference, "inspect": `f_lineno`).
use Rattle.std.specs.Prelude.{◌≡◌, ◌⊎◌, ℕ, suc, ◌<◌, max, length, slice_get, Option, Some}
use Rattle.std.specs.Option.{unwrap_or}
use Rattle.pt_instr.specs.declared.kinds.Kind.TheVariants.{Pending}
use Rattle.pt_instr.specs.Effects.{Kinds}
use Rattle.sem_fits.specs.fits.Block.{Block}
use Rattle.sem_fits.specs.fits.Places.{Gets}
use Rattle.sem_fits.specs.fits.Leaves.{Common}
use Rattle.sem_fits.specs.fits.Jumps.{Answer, into_block, lands, out_of_finally}

-- of places: how many slots lie there, and how many there are up to the topmost that holds a
-- completion
pub record SlotsTold : Type 0 where
  pub count : (pc : ℕ) → Option ℕ
  pub held : (pc : ℕ) → ℕ

-- a place gets so many slots
pub record GetsMany (b : Block) (pc n : ℕ) : Type 0 where
  pub kinds : Kinds
  pub gets : Gets b b.size pc kinds
  pub many : length kinds ≡ n

-- the topmost of so many slots holds a completion
pub record EndsHeld (ks : Kinds) (n : ℕ) : Type 0 where
  pub slot : ℕ
  pub last : n ≡ suc slot
  pub holds : slice_get ks slot ≡ Some Pending

-- all that hold completions are among so many, of which the topmost is one
pub record IsHeld (ks : Kinds) (n : ℕ) : Type 0 where
  pub among : (slot : ℕ) → slice_get ks slot ≡ Some Pending → slot < n
  pub ends : (n ≡ 0) ⊎ EndsHeld ks n

-- what is told is so
pub record TellsSlots (b : Block) (t : SlotsTold) : Type 0 where
  pub sound : (pc n : ℕ) → t.count pc ≡ Some n → GetsMany b pc n
  pub whole : (pc : ℕ) (ks : Kinds) → Gets b b.size pc ks → t.count pc ≡ Some (length ks)
  pub held : (pc : ℕ) (ks : Kinds) → Gets b b.size pc ks → IsHeld ks (t.held pc)

-- the topmost of so many slots isn't the same at two places
pub record IsApart (b : Block) (from to n : ℕ) : Type 0 where
  pub slot : ℕ
  pub last : n ≡ suc slot
  pub apart : Common b b.size slot from to → ⊥

-- it is, if there is one
pub data IsTogether (b : Block) (from to : ℕ) : ℕ → Type 0 where
  none : IsTogether b from to 0
  topmost : {slot : ℕ} → Common b b.size slot from to → IsTogether b from to (suc slot)

abbrev pub size_at : SlotsTold → (pc : ℕ) → ℕ
size_at t pc = unwrap_or (t.count pc) 0

abbrev pub held_at : SlotsTold → (from to : ℕ) → ℕ
held_at t from to = max (t.held from) (t.held to)

-- the answer to a jump to a place
pub data AnswersAt (b : Block) (t : SlotsTold) (from to : ℕ) : Answer → Type 0 where
  through : IsApart b from to (held_at t from to) → AnswersAt b t from to out_of_finally
  enters : IsTogether b from to (held_at t from to) → IsApart b from to (size_at t to)
      → AnswersAt b t from to into_block
  goes : IsTogether b from to (held_at t from to) → IsTogether b from to (size_at t to)
      → AnswersAt b t from to (lands to (size_at t to))
