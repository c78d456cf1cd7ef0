-- What a code file names fits into four bytes, so its blocks are seen.
use Rattle.std.proofs.Common.{ℕ, ◌<◌, zero, suc, true, false, List, [], ◌∷◌, length, refl, subst, arith}
use Rattle.std.specs.Prelude.{Contains, ◌^◌}
use Rattle.std.specs.List.{AllByRecursion}
use Rattle.pt_instr.specs.declared.Instr.{Instr}
use Rattle.pt_instr.specs.Encoding.{Fits, code_of}
use Rattle.pt_code.specs.declared.parts.Within.{Within}
use Rattle.pt_code.specs.declared.parts.Operand.{Operand}
use Rattle.pt_code.specs.declared.CodeBlock.{CodeBlock}
use Rattle.pt_code.specs.declared.Code.{Code}
use Rattle.pt_code.specs.File.{AreBelow, NamesAll, AreInstructions, AreBlocks, IsBlock, inside, operands, names_of, naming}
use Rattle.pt_code.specs.View.{laid_from}
use Rattle.pt_verify_depths.specs.Views.{HasView, BlocksAreSeen}

small : (within : Within) (os : List Operand) (ns : List ℕ) → AreBelow within os ns → AllByRecursion (λ n. n < 2 ^ 32) ns
small within [] [] below = tt
small within [] (n ∷ ns) below = absurd below
small within (o ∷ os) [] below = absurd below
small within (o ∷ os) (n ∷ ns) below = (below.0.0, small within os ns below.1)

all_fit : (within : Within) (is : List Instr) → AllByRecursion (NamesAll within) is → AllByRecursion Fits is
all_fit within [] named = tt
all_fit within (i ∷ is) named = (small within (operands i) (code_of i).operands named.0, all_fit within is named.1)

seen : (within : Within) (b : CodeBlock) → AreInstructions within b.instructions → HasView b
seen within b a = record { view = laid_from b 0 a.instrs; is = record { instrs = a.instrs; fits = all_fit within a.instrs a.named; spelled = a.spelled; view_is = refl } }

block_seen : (within : Within) (b : CodeBlock) → IsBlock within b → HasView b
block_seen within b is = seen (naming within (names_of b)) b is.1.1.0

module _ {X : Type 0} (P : X → Type 0) where
  one_of : (xs : List X) → AllByRecursion P xs → (x : X) → Contains xs x → P x
  one_of [] all x (k, l, e) = absurd (let h : ⊥ = omega (arith, l) in h)
  one_of (y ∷ ys) all x (zero, l, e) = subst P e all.0
  one_of (y ∷ ys) all x (suc k, l, e) = one_of ys all.1 x (k, (omega (arith, l)), e)

among : (texts constants lists : ℕ) (bs : List CodeBlock) → AreBlocks texts constants lists bs → (b : CodeBlock) → Contains bs b → HasView b
among texts constants lists [] are b c = absurd are
among texts constants lists (a ∷ bs) are b (zero, l, e) = subst HasView e (block_seen (inside texts constants lists (length (a ∷ bs)) true) a are.1)
among texts constants lists (a ∷ bs) are b (suc k, l, e) = block_seen (inside texts constants lists (length (a ∷ bs)) false) b
    (one_of (IsBlock (inside texts constants lists (length (a ∷ bs)) false)) bs are.2 b (k, (omega (arith, l)), e))

pub blocks_are_seen : (c : Code) → BlocksAreSeen c
blocks_are_seen c has b k = among (length c.texts) (length c.constants) (length c.lists) c.blocks has.1.1.1 b k
