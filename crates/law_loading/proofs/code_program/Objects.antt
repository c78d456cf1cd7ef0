-- The code objects of the blocks of a code that has a file.
use Rattle.std.proofs.Common.{◌≡◌, ◌<◌, ℕ, true, List, [], ◌∷◌, length, Option, Some, None, refl, ap, ◌∙◌, subst, arith}
use Rattle.std.specs.Prelude.{slice_get}
use Rattle.std.specs.List.{flat_map}
use Rattle.std.proofs.lemmas.Option.{slice_get_within, get_or_from_slice_get}
use Rattle.pt_instr.specs.declared.Instr.{Instr}
use Rattle.pt_instr.specs.Encoding.{encoding}
use Rattle.pt_code.specs.declared.CodeBlock.{CodeBlock}
use Rattle.pt_code.specs.declared.Code.{Code}
use Rattle.pt_code.specs.File.{HasFile, AreBlocks, IsBlock, inside}
use Rattle.pt_code.specs.View.{Ins, IsView, ins_at, laid_from}
use Rattle.pt_verify_depths.specs.Views.{HasView}
use Rattle.pt_verify_depths.proofs.ViewLemmas.{blocks_are_seen}
use Rattle.pt_supported_code.proofs.BlockLemmas.{fields_of}
use Rattle.law_loading.specs.code_program.CodeProgram.{number_in, number_or_module}

-- an instruction stands first
first_there : (b : CodeBlock) (is : List Instr) → 0 < length (flat_map encoding is) → (i : Ins) × (laid_from b 0 is 0 ≡ Some i)
first_there b [] l = absurd (let no : ⊥ = omega (arith, l) in no)
first_there b (i ∷ is) l = (ins_at b 0 i, refl)

-- the module stands first
module_there : (texts constants lists : ℕ) (bs : List CodeBlock) → AreBlocks texts constants lists bs
    → (b : CodeBlock) × (slice_get bs 0 ≡ Some b) × IsBlock (inside texts constants lists (length bs) true) b
module_there texts constants lists [] are = absurd are
module_there texts constants lists (b ∷ bs) are = (b, refl, are.1)

module _ (c : Code) (has : HasFile c) where
  pub the_first : (b : CodeBlock) × (slice_get c.blocks 0 ≡ Some b)
      × IsBlock (inside (length c.texts) (length c.constants) (length c.lists) (length c.blocks) true) b
  the_first = module_there (length c.texts) (length c.constants) (length c.lists) c.blocks has.1.1.1

  pub there : (o : Option CodeBlock) (n : ℕ) → slice_get c.blocks n ≡ o → (b : CodeBlock) × (slice_get c.blocks (number_or_module o n) ≡ Some b)
  there (Some b) n e = (b, e)
  there None n e = (the_first.0, the_first.1)

  -- the block of a number, or the module
  pub at_number : (n : ℕ) → (b : CodeBlock) × (slice_get c.blocks (number_in c n) ≡ Some b)
  at_number n = there (slice_get c.blocks n) n refl

  pub view_of : (n : ℕ) (b : CodeBlock) → slice_get c.blocks n ≡ Some b → HasView b
  view_of n b e = blocks_are_seen c has b (n, slice_get_within c.blocks n b e, get_or_from_slice_get c.blocks n b b e)

  pub begins : (n : ℕ) (b : CodeBlock) → slice_get c.blocks n ≡ Some b → (view : ℕ → Option Ins) → IsView b view → (i : Ins) × (view 0 ≡ Some i)
  begins n b e view seen =
      let is = (fields_of c has n b e).is.1.1.0 in
      let f = first_there b seen.instrs (subst (λ bytes. 0 < length bytes) seen.spelled is.some) in
      (f.0, ap (λ v. v 0) seen.view_is ∙ f.1)
