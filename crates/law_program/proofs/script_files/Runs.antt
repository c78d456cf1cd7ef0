-- A run of a supported script's code over a prelude's is one of the code that is read from its file, and the other way round.
use Rattle.std.proofs.Common.{◌≡◌, ℕ, Bool, true, false, List, [], Option, Some, None, refl, sym, ap, ◌∙◌, subst}
use Rattle.std.specs.Prelude.{slice_get}
use Rattle.std.proofs.Math.Path.{fun_ext}
use Rattle.pt_tree.specs.Syntax.{Stms}
use Rattle.pt_tree.specs.Blocks.{Block, blocks_script}
use Rattle.sem_run.specs.run.Machine.{BlockId}
use Rattle.sem_run.specs.run.Run.{Write}
use Rattle.pt_bare_runs.specs.Strides.{Outcome}
use Rattle.pt_bare_writes.specs.Fronts.{RunWritesFirst, within}
use Rattle.pt_heap.specs.declared.value.Value.{Value}
use Rattle.pt_heap.specs.declared.value.Value.TheVariants as value
use Rattle.pt_code.specs.declared.Code.{Code}
use Rattle.pt_code.specs.declared.CodeBlock.{CodeBlock}
use Rattle.sem_code.specs.slots.CodeObject.{CodeObject}
use Rattle.sem_code.specs.slots.BlockObject.{IsBlockObject}
use Rattle.sem_fits.specs.fits.Fits.{AllFit}
use Rattle.law_typed_pieces.specs.law_operands.law_files.sem_compile.compile.ScriptCode.{code_block, code_of}
use Rattle.law_typed_pieces.proofs.law_operands.law_files.operands_fit.Operands.{operands_fit}
use Rattle.sem_rows.specs.sem_code_machine.code_machine.CodeBlocks.{CodeBlocks, machine}
use Rattle.law_code_runs.specs.code_follows.Laws as follows
use Rattle.sem_rows.specs.pt_host.HeapHost.{heap_host}
use Rattle.sem_rows.specs.pt_host.World.{Program, World}
use Rattle.sem_rows.specs.pt_host.Calls.{module_names, module_world}
use Rattle.sem_rows.specs.heap_rows.Leads.{HasHeapExtras, HasHeapTruths, known_truth}
use Rattle.pt_prog.specs.pt_run_script.pt_run_code.pt_code_loader.Loaded.{iterates}
use Rattle.pt_prog.specs.pt_run_script.pt_run_code.pt_runner.Work.{Work, RunDoes}
use Rattle.pt_prog.proofs.pt_run_script.pt_run_code.pt_runner.GoesTo.{runs_so}
use Rattle.law_typed_pieces.proofs.law_operands.free_pieces.Script.{blocks_have_free_names}
use Rattle.law_compile.proofs.read_forms.Texts.{scripts_of_texts_are_formed}
use Rattle.law_compile.proofs.formed_scripts.Statements.{scripts_are_formed}
use Rattle.law_compile.specs.script_objects.Laws.{HasCode}
use Rattle.law_compile.proofs.script_objects.Objects.{objects_have_their_code}
use Rattle.law_compile.specs.script_runs.Blocks as script
use Rattle.law_compile.specs.script_runs.Blocks.{the_module}
use Rattle.law_compile.specs.script_runs.Laws.{AreItsObjects}
use Rattle.law_compile.specs.script_runs.ProgramBlocks.{program_code, program_code_machine, text_of}
use Rattle.law_compile.specs.script_runs.ProgramLaws.{AreObjectsOfBoth}
use Rattle.law_compile.proofs.script_runs.Objects.{program_code_writes_nothing_else, program_has_its_bare_runs}
use Rattle.pt_prog.specs.pt_run_script.pt_run_code.law_loading.script_program.ScriptProgram.{program_of, the_module_block}
use Rattle.pt_prog.proofs.pt_run_script.pt_run_code.law_loading.loaded_scripts.Lists.{same_some}
use Rattle.pt_prog.proofs.pt_run_script.pt_run_code.law_loading.loaded_scripts.Loading.{kind_iterates}
use Rattle.pt_prog.specs.pt_run_script.pt_run_code.law_loading.code_program.CodeProgram.{AreObjectsOf, code_blocks, code_in, iterates_by, number_in, number_or_module, program_of_code}
use Rattle.pt_prog.proofs.pt_run_script.pt_run_code.law_loading.code_program.Operands.{module_number}
use Rattle.pt_prog.specs.pt_run_script.pt_run_code.CodeRun.{CodeRunsTo, CodeWritesFirst, nothing, of_run}
use Rattle.pt_prog.specs.pt_run_script.ScriptRun.{AreCodeOf, CodeRunsBy, RunsTo, ScriptWritesFirst}
use Rattle.law_program.specs.script_files.Laws.{CodeRunsAsScript, HasCodeFile, HaveCodeFiles, ScriptRunsAsCode, ScriptWritesAsCode}
use Rattle.law_program.proofs.script_files.Named.{cells_fit, in_script, numbered_blocks, numbers, unused}
use Rattle.law_program.proofs.script_files.Programs.{code_has_one_program, laid_out, number_by, one_number}
use Rattle.law_program.proofs.script_files.Supported.{code_is_supported}

number_again : (c : Code) (o : Option CodeBlock) (n : ℕ) → slice_get c.blocks n ≡ o → number_in c (number_or_module o n) ≡ number_or_module o n
number_again c (Some b) n e = ap (λ (o : Option CodeBlock). number_or_module o n) e
number_again c None n e = module_number (slice_get c.blocks 0)

-- numbers that the code doesn't have stand for its module
abbrev by_numbers : Code → (object : ℕ → CodeObject Value) → ℕ → CodeObject Value
by_numbers c object n = object (number_in c n)

module _ (ss : Stms) where
  abbrev c : Code
  c = code_of ss

  starts_at : (n : ℕ) (k : Block) → slice_get (blocks_script ss) n ≡ Some k → iterates_by (slice_get c.blocks n) ≡ follows.iterates k.code
  starts_at n k e =
      let b = laid_out ss n k e in
      let i = in_script ss n (code_block b.0) b.2 in
      ap iterates_by b.2
      ∙ (ap (λ (d : CodeBlock). iterates d.kind) (sym i.is)
      ∙ (ap iterates i.kind ∙ (kind_iterates i.block.code ∙ ap (λ (j : Block). follows.iterates j.code) (same_some i.block k (sym i.is_block ∙ e)))))

  starts_by : (o : Option Block) (n : ℕ) → slice_get (blocks_script ss) n ≡ o
      → iterates_by (slice_get c.blocks (number_in c n)) ≡ follows.iterates (script.code_or_module ss o)
  starts_by (Some k) n e = ap (λ m. iterates_by (slice_get c.blocks m)) (number_by ss (Some k) n e) ∙ starts_at n k e
  starts_by None n e = ap (λ m. iterates_by (slice_get c.blocks m)) (number_by ss None n e) ∙ starts_at 0 (the_module_block ss) refl

module _ (prelude ss : Stms) where
  abbrev side : (hidden : Bool) → Code
  side hidden = code_in (code_of prelude) (code_of ss) hidden

  abbrev Objects : Type 0
  Objects = (hidden : Bool) → ℕ → CodeObject Value

  side_number : (hidden : Bool) (b : BlockId) → number_in (side hidden) b.number ≡ script.number_of (text_of prelude ss hidden) b
  side_number true b = one_number prelude b
  side_number false b = one_number ss b

  side_starts : (hidden : Bool) (b : BlockId) → iterates_by (slice_get (side hidden).blocks (number_in (side hidden) b.number))
      ≡ follows.iterates (script.code_of (text_of prelude ss hidden) b)
  side_starts true b = starts_by prelude (script.block_of prelude b) b.number refl
  side_starts false b = starts_by ss (script.block_of ss b) b.number refl

  -- the blocks in code, by objects that are the same at each number of the code
  one_code : (own object : Objects) → ((hidden : Bool) (n : ℕ) → own hidden (number_in (side hidden) n) ≡ object hidden (number_in (side hidden) n))
      → code_blocks (code_of prelude) (code_of ss) own ≡ program_code prelude ss object
  one_code own object same =
      let objects : (code_blocks (code_of prelude) (code_of ss) own).object ≡ (program_code prelude ss object).object =
      fun_ext (λ b. same b.hidden b.number ∙ ap (object b.hidden) (side_number b.hidden b)) in
      let starts : (code_blocks (code_of prelude) (code_of ss) own).iterates ≡ (program_code prelude ss object).iterates =
      fun_ext (λ b. side_starts b.hidden b) in
      λ i. record { object = objects i; iterates = starts i }

-- a run by a program and code
abbrev Run : (n : ℕ) → Outcome Value World → Work → Program → CodeBlocks Value → Type 0
Run n o w p code = RunDoes (machine code) (heap_host p) n the_module (module_names p) (module_world p) o w

module _ (text : List ℕ) (ss : Stms) (h : HasCodeFile text ss) where
  abbrev code : Code
  code = code_of ss

  module _ (object : ℕ → CodeObject Value) where
    -- code objects of the script are some of the code
    as_objects : AreCodeOf ss object → AreObjectsOf code (by_numbers code object)
    as_objects are = record {
      of_blocks = λ k b e.
          let i = in_script ss k b e in
          let has : HasCode value.None ss k i.block (object k) = are.of_blocks k i.block i.is_block in
          let same : code_block has.layout ≡ b = ap code_block (same_some has.layout i.layout (sym has.is_layout ∙ i.is_layout)) ∙ i.is in
          subst (λ m. IsBlockObject code b (object m)) (sym (ap (λ (o : Option CodeBlock). number_or_module o k) e))
          (subst (λ d. IsBlockObject code d (object k)) same has.is_object);
      truths = λ k. let b : BlockId = record { hidden = false; number = k } in subst (λ m. HasHeapTruths (object m)) (sym (one_number ss b)) (are.truths b);
      extras = λ k. let b : BlockId = record { hidden = false; number = k } in subst (λ m. HasHeapExtras (object m)) (sym (one_number ss b)) (are.extras b);
    }

    -- and the other way round
    as_code : AreObjectsOf code object → AreCodeOf ss object
    as_code are = record {
      of_blocks = λ k block e. let b = laid_out ss k block e in let t = are.truths k in record {
        is_block = e;
        layout = b.0;
        is_layout = b.1;
        fits = operands_fit ss k b.0 (numbered_blocks text ss h) (numbers text ss h) (cells_fit text ss h) b.1;
        is_object = are.of_blocks k (code_block b.0) b.2;
        same_null = t.null;
        knows_truths = λ v. t.is_truth ((object k).truth v) ∙ ap known_truth (t.truth v);
      };
      truths = λ b. are.truths (script.number_of ss b);
      extras = λ b. are.extras (script.number_of ss b);
    }

    are_its_objects : AreCodeOf ss object → AreItsObjects value.None ss object
    are_its_objects are =
        let w = scripts_of_texts_are_formed text ss h.is_script in
        let frees = blocks_have_free_names ss h.is_script.no_fault (numbered_blocks text ss h) (unused text ss h) in
        let formed = scripts_are_formed w.0 ss w.1.is_formed w.1.is_script in record {
          no_fault = h.is_script.no_fault;
          free_names = frees;
          of_blocks = λ n block e. objects_have_their_code value.None ss n block (object n) h.is_script.no_fault formed frees (are.of_blocks n block e);
        }

module _ (prelude ss : Stms) (both : HaveCodeFiles prelude ss) where
  abbrev first : Code
  first = code_of prelude

  abbrev second : Code
  second = code_of ss

  program : program_of_code first second ≡ program_of prelude ss
  program = code_has_one_program prelude ss both

  -- what is so of each side
  all_objects : (object : Objects prelude ss) → ((hidden : Bool) → AreCodeOf (text_of prelude ss hidden) (object hidden)) → (hidden : Bool)
      → AreObjectsOf (code_in first second hidden) (by_numbers (code_in first second hidden) (object hidden))
  all_objects object are true = as_objects both.prelude_text prelude both.of_prelude (object true) (are true)
  all_objects object are false = as_objects both.script_text ss both.of_script (object false) (are false)

  all_code : (object : Objects prelude ss) → ((hidden : Bool) → AreObjectsOf (code_in first second hidden) (object hidden)) → (hidden : Bool)
      → AreCodeOf (text_of prelude ss hidden) (object hidden)
  all_code object are true = as_code both.prelude_text prelude both.of_prelude (object true) (are true)
  all_code object are false = as_code both.script_text ss both.of_script (object false) (are false)

  are_their_objects : (object : Objects prelude ss) → ((hidden : Bool) → AreCodeOf (text_of prelude ss hidden) (object hidden))
      → AreObjectsOfBoth value.None prelude ss object
  are_their_objects object are = record {
    of_prelude = are_its_objects both.prelude_text prelude both.of_prelude (object true) (are true);
    of_script = are_its_objects both.script_text ss both.of_script (object false) (are false);
  }

  module _ (n : ℕ) where
    module _ (o : Outcome Value World) (w : Work) where
      code_run : CodeRunsBy prelude ss n o w → CodeRunsTo first second n o w
      code_run r =
          let own : Objects prelude ss = λ hidden. by_numbers (code_in first second hidden) (r.object hidden) in
          let same : code_blocks first second own ≡ program_code prelude ss r.object =
          one_code prelude ss own r.object
          (λ hidden k. ap (r.object hidden) (number_again (side prelude ss hidden) (slice_get (side prelude ss hidden).blocks k) k refl)) in
          record {
            cells_fit = (cells_fit both.prelude_text prelude both.of_prelude, cells_fit both.script_text ss both.of_script);
            object = own;
            are_objects = all_objects r.object r.are_code;
            does = subst (λ p. Run n o w p (code_blocks first second own)) (sym program)
                (subst (Run n o w (program_of prelude ss)) (sym same) r.does);
          }

      script_run : AllFit first → AllFit second → CodeRunsTo first second n o w → CodeRunsBy prelude ss n o w
      script_run fit fit_too r = record {
        numbers_fit = (numbers both.prelude_text prelude both.of_prelude, numbers both.script_text ss both.of_script);
        fits = (fit, fit_too);
        object = r.object;
        are_code = all_code r.object r.are_objects;
        does = subst (Run n o w (program_of prelude ss)) (one_code prelude ss r.object r.object (λ hidden k. refl))
            (subst (λ p. Run n o w p (code_blocks first second r.object)) program r.does);
      }

      -- the script has the runs of its code
      tree_run : CodeRunsBy prelude ss n o w → RunsTo prelude ss n o
      tree_run r =
          let host = heap_host (program_of prelude ss) in
          let names = module_names (program_of prelude ss) in
          let world = module_world (program_of prelude ss) in
          (program_has_its_bare_runs value.None prelude ss r.object (are_their_objects r.object r.are_code) host n names world o).1
          (runs_so (program_code_machine prelude ss r.object) host n the_module names world o w r.does)

    writes_first : (ws : List Write) → CodeWritesFirst first second n ws → ScriptWritesFirst prelude ss n ws
    writes_first _ nothing = within _ [] _ refl
    writes_first _ (of_run ws cells object are writes) =
        let First : Program → CodeBlocks Value → Type 0 = λ p c. RunWritesFirst (machine c) (heap_host p) n the_module (module_names p) (module_world p) ws in
        program_code_writes_nothing_else value.None prelude ss object (are_their_objects object (all_code object are)) (heap_host (program_of prelude ss)) n
        (module_names (program_of prelude ss)) (module_world (program_of prelude ss)) ws
        (subst (First (program_of prelude ss)) (one_code prelude ss object object (λ hidden k. refl))
        (subst (λ p. First p (code_blocks first second object)) program writes))

pub code_runs_as_script : CodeRunsAsScript
code_runs_as_script prelude ss both n o w r = (
  record { has_file = both.of_prelude.has_file; fit = r.fits.0; built = code_is_supported both.prelude_text prelude both.of_prelude },
  (
    record { has_file = both.of_script.has_file; fit = r.fits.1; built = code_is_supported both.script_text ss both.of_script },
    code_run prelude ss both n o w r,
  ),
)

pub script_runs_as_code : ScriptRunsAsCode
script_runs_as_code prelude ss both fit fit_too n o w r =
    let by = script_run prelude ss both n o w fit fit_too r in (tree_run prelude ss both n o w by, by)

pub script_writes_as_code : ScriptWritesAsCode
script_writes_as_code prelude ss both n ws first = writes_first prelude ss both n ws first
