-- What laws say of the closed parts of a block that has a table of its slots (Library Reference, "inspect": `f_lineno`).
use Rattle.std.specs.Prelude.{◌≡◌, ℕ, Bool, false, nat_eq, Option, Some, None}
use Rattle.sem_fits.specs.fits.Block.{Block}
use Rattle.sem_fits.specs.comp_jumps.Parts.{Closed}
use Rattle.law_pieces.specs.piece_kinds.Walk.{Known}
use Rattle.law_pieces.specs.piece_kinds.Table.{Table, slot_of, IsTableOf}

abbrev pub is_origin : (origin : ℕ) → Option ℕ → Bool
is_origin o None = false
is_origin o (Some p) = nat_eq o p

-- a slot was made there
abbrev pub is_made_at : (origin : ℕ) → Option Known → Bool
is_made_at o None = false
is_made_at o (Some k) = is_origin o k.origin

-- the closed part whose slot, counted from the lowest, was made at a place
pub record PartOf (b : Block) (at : Table) (origin slot : ℕ) : Type 0 where
  pub part : Closed b
  pub slot_is : part.slot ≡ slot
  pub range_is : (pc : ℕ) → part.range pc ≡ is_made_at origin (slot_of (at pc) slot)

abbrev pub OriginsAreParts : Block → Type 0
OriginsAreParts b = (at : Table) → IsTableOf b at → (origin slot : ℕ) → PartOf b at origin slot
