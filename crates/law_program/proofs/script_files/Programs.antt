-- A host knows the same of a supported script's code as of the script, over a prelude.
use Rattle.std.proofs.Common.{◌≡◌, ℕ, Bool, true, false, List, [], length, Option, Some, None, refl, sym, ap, ◌∙◌}
use Rattle.std.specs.Prelude.{slice_get}
use Rattle.std.proofs.Math.Path.{fun_ext}
use Rattle.std.proofs.lemmas.List.{length-map}
use Rattle.pt_tree.specs.Syntax.{Stms}
use Rattle.pt_tree.specs.Blocks.{Block, blocks_script}
use Rattle.sem_run.specs.run.Machine.{BlockId}
use Rattle.sem_names.specs.Around.{names_of}
use Rattle.sem_names.specs.Script.{naming_script, spelled_in}
use Rattle.pt_code.specs.declared.Code.{Code}
use Rattle.pt_code.specs.declared.CodeBlock.{CodeBlock}
use Rattle.law_typed_pieces.specs.law_operands.law_files.sem_compile.compile.ScriptCode.{BlockLayout, code_block, code_of, script_layouts}
use Rattle.law_typed_pieces.proofs.law_operands.law_files.sem_compile.compile.Blocks.{as_many_blocks}
use Rattle.law_compile.specs.script_runs.Blocks as script
use Rattle.law_compile.specs.script_runs.ProgramBlocks.{text_of}
use Rattle.pt_prog.specs.pt_run_script.pt_run_code.law_loading.script_program.ScriptProgram.{block_or_module, facts_at, facts_with, program_of, the_module_block}
use Rattle.pt_prog.proofs.pt_run_script.pt_run_code.law_loading.script_program.Facts.{code_tells}
use Rattle.pt_prog.specs.pt_run_script.pt_run_code.pt_code_loader.Texts.{program_texts}
use Rattle.pt_prog.proofs.pt_run_script.pt_run_code.law_loading.loaded_scripts.Lists.{mapped_at, none_there, there}
use Rattle.pt_prog.specs.pt_run_script.pt_run_code.law_loading.code_program.CodeProgram.{code_in, facts_by, number_in, number_or_module, program_of_code}
use Rattle.law_program.specs.script_files.Laws.{CodeHasOneProgram, HasCodeFile, HaveCodeFiles}
use Rattle.law_program.proofs.script_files.Named.{names}

module _ (ss : Stms) where
  abbrev c : Code
  c = code_of ss

  -- the layout of a block, which the code has
  pub laid_out : (n : ℕ) (k : Block) → slice_get (blocks_script ss) n ≡ Some k
      → (b : BlockLayout) × (slice_get (script_layouts ss) n ≡ Some b) × (slice_get c.blocks n ≡ Some (code_block b))
  laid_out n k e =
      let long : length (script_layouts ss) ≡ length (blocks_script ss) = sym (length-map (script_layouts ss) code_block) ∙ as_many_blocks ss in
      let b = there (blocks_script ss) (script_layouts ss) n k long e in
      (b.0, b.1, mapped_at code_block (script_layouts ss) n b.0 b.1)

  -- code and script have one number for it
  pub number_by : (o : Option Block) (n : ℕ) → slice_get (blocks_script ss) n ≡ o → number_in c n ≡ script.number_or_module o n
  number_by (Some k) n e = let b = laid_out n k e in ap (λ (o : Option CodeBlock). number_or_module o n) b.2
  number_by None n e = ap (λ (o : Option CodeBlock). number_or_module o n) (none_there c.blocks (blocks_script ss) n (as_many_blocks ss) e)

  pub one_number : (b : BlockId) → number_in c b.number ≡ script.number_of ss b
  one_number b = number_by (script.block_of ss b) b.number refl

module _ (text : List ℕ) (ss : Stms) (h : HasCodeFile text ss) where
  -- of a block
  block_facts : (n : ℕ) (k : Block) → slice_get (blocks_script ss) n ≡ Some k
      → facts_by (code_of ss).texts (slice_get (code_of ss).blocks n) ≡ facts_with (spelled_in (naming_script ss) n) (names_of ss n) k
  block_facts n k e =
      let b = laid_out ss n k e in
      ap (facts_by (code_of ss).texts) b.2 ∙ code_tells ss n k b.0 h.is_script.no_fault (names text ss h n b.0 b.1) e b.1

  -- past the end stands the module
  facts_of : (o : Option Block) (n : ℕ) → slice_get (blocks_script ss) n ≡ o
      → facts_by (code_of ss).texts (slice_get (code_of ss).blocks (number_in (code_of ss) n))
      ≡ facts_with (spelled_in (naming_script ss) (script.number_or_module o n)) (names_of ss (script.number_or_module o n)) (block_or_module ss o)
  facts_of (Some k) n e =
      ap (λ m. facts_by (code_of ss).texts (slice_get (code_of ss).blocks m)) (number_by ss (Some k) n e) ∙ block_facts n k e
  facts_of None n e =
      ap (λ m. facts_by (code_of ss).texts (slice_get (code_of ss).blocks m)) (number_by ss None n e) ∙ block_facts 0 (the_module_block ss) refl

module _ (prelude ss : Stms) (both : HaveCodeFiles prelude ss) where
  abbrev side : (hidden : Bool) → Code
  side hidden = code_in (code_of prelude) (code_of ss) hidden

  side_facts : (hidden : Bool) (b : BlockId) → facts_by (side hidden).texts (slice_get (side hidden).blocks (number_in (side hidden) b.number))
      ≡ facts_at (text_of prelude ss hidden) b
  side_facts true b = facts_of both.prelude_text prelude both.of_prelude (script.block_of prelude b) b.number refl
  side_facts false b = facts_of both.script_text ss both.of_script (script.block_of ss b) b.number refl

pub code_has_one_program : CodeHasOneProgram
code_has_one_program prelude ss both =
    let same : (program_of_code (code_of prelude) (code_of ss)).facts ≡ (program_of prelude ss).facts =
    fun_ext (λ b. side_facts prelude ss both b.hidden b) in
    λ i. record { facts = same i; texts = program_texts (code_of prelude) (code_of ss); file = []; source = None }
