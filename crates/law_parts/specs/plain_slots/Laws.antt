-- What is said of the slots at the places of a plain piece: those with which it begins stay, and
-- others above them are made within it.
use Rattle.std.specs.Prelude.{◌≡◌, ℕ, ◌≤◌, ◌<◌, List, [], ◌∷◌, ◌++◌, length, Option, Some, None}
use Rattle.pt_tree.specs.Syntax.{Exp}
use Rattle.pt_code.specs.declared.Start.{Start}
use Rattle.pt_instr.specs.declared.kinds.Kind.TheVariants.{Pending}
use Rattle.sem_control.specs.control.Turn.{Around}
use Rattle.sem_code.specs.slots.CodeObject.{CodeObject}
use Rattle.pt_assembler.specs.declared.operation.Target.{Target}
use Rattle.pt_assembler.specs.PieceAt.{Context, Piece_at}
use Rattle.sem_fits.specs.fits.Block.{Block}
use Rattle.sem_compile.specs.stm_pieces.Names.{TakesCells, Value_named}
use Rattle.sem_compile.specs.stm_pieces.StmPiece.{value_piece}
use Rattle.law_pieces.specs.piece_kinds.Walk.{Known, StackMap, Setting, slots_at}
use Rattle.law_pieces.specs.piece_kinds.Table.{next_of, Rises}

-- a slot that is followed is made behind the one place, and no later than at the other
abbrev pub Between : (low high : ℕ) → Option ℕ → Type 0
Between a z None = Unit {0}
Between a z (Some o) = (a < o) × (o ≤ z)

abbrev pub MadeWithin : (low high : ℕ) → Known → Type 0
MadeWithin a z k = (k.kind ≡ Pending → ⊥) × Between a z k.origin

abbrev pub AllWithin : (low high : ℕ) → StackMap → Type 0
AllWithin a z [] = Unit {0}
AllWithin a z (k ∷ ks) = MadeWithin a z k × AllWithin a z ks

-- above these slots
pub record Grown (base : StackMap) (low high : ℕ) (ks : StackMap) : Type 0 where
  pub above : StackMap
  pub is : ks ≡ above ++ base
  pub made : AllWithin low high above

-- of the code of an expression
abbrev pub ExpressionsKeepSlots : (A V : Type 0) → Type 0
ExpressionsKeepSlots A V = (around : Around A) (code : CodeObject V) (starts : List Start)
    (b : Block) → TakesCells around
    → ((n : ℕ) → b.links.captures n ≡ length (around.captured n)) → ((pc : ℕ) → code.at pc
    ≡ b.at pc) → Rises b
    → (e : Exp) (n : ℕ) → Value_named around e n → (L : List Target) (x : Context) (c : Setting)
    (base ks : StackMap) (from to : ℕ)
    → Piece_at code starts (value_piece around e n) L x from to → (pc : ℕ) (ls : StackMap)
    → slots_at b.links (next_of b) (value_piece around e n) c base from (Some ks) pc ≡ Some ls
    → Grown ks from pc ls
