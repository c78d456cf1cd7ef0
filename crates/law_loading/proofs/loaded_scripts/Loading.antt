-- The tables of a script's code are those of the script.
use Rattle.std.proofs.Common.{◌≡◌, ◌<◌, ℕ, Bool, true, false, if◌then◌else◌, List, [], length, Option, Some, None, refl, sym, ap, ◌∙◌, subst, arith}
use Rattle.std.specs.Prelude.{slice_get}
use Rattle.std.specs.List.{AllByRecursion}
use Rattle.std.proofs.lemmas.List.{length-map}
use Rattle.pt_tree.specs.Syntax.{Name, Stms}
use Rattle.pt_tree.specs.Blocks as B
use Rattle.pt_tree.specs.Blocks.{Block, Code as BlockCodeTree, blocks_script, yields}
use Rattle.pt_tree.specs.declared.expression.Constant.TheVariants as constant
use Rattle.pt_wide.specs.Syntax as wide
use Rattle.pt_instr.specs.Encoding.{Fits as InstrFits}
use Rattle.pt_heap.specs.declared.value.Value.{Value}
use Rattle.pt_heap.specs.declared.value.Value.TheVariants as value
use Rattle.sem_control.specs.control.Turn as T
use Rattle.sem_names.specs.Around.{names_of}
use Rattle.sem_names.specs.Script.{naming_script, spelled_in}
use Rattle.pt_code.specs.declared.BlockKind.TheVariants as kind
use Rattle.pt_code.specs.View.{IsView, laid_from}
use Rattle.sem_code.specs.slots.CodeObject.{Pool, CodeObject, local}
use Rattle.sem_code.specs.slots.BlockObject.{pool_of}
use Rattle.pt_assembler.specs.Layout.{instrs_of}
use Rattle.law_typed_pieces.specs.law_operands.law_files.sem_compile.compile.ScriptCode.{BlockLayout, code_block, code_of, kind_of, script_layouts}
use Rattle.law_typed_pieces.specs.law_operands.law_files.sem_compile.compile.Laws.{IsLayoutIn}
use Rattle.law_typed_pieces.proofs.law_operands.law_files.sem_compile.compile.Blocks.{as_many_blocks, blocks_are_laid_out}
use Rattle.law_typed_pieces.proofs.law_operands.law_files.operands_fit.Operands.{operands_fit}
use Rattle.law_typed_pieces.proofs.law_operands.piece_names.Script.{names_are_found}
use Rattle.law_front.proofs.script_numbers.Scripts.{numbered}
use Rattle.law_typed_pieces.proofs.law_operands.free_pieces.Script.{blocks_have_free_names}
use Rattle.law_code_runs.specs.code_follows.Laws as follows
use Rattle.law_code_runs.proofs.code_follows.Agreement.{free_names_have_cells}
use Rattle.law_compile.proofs.formed.Arguments.{arguments_plain}
use Rattle.law_compile.proofs.formed.Statements.{statements_have_parts}
use Rattle.law_compile.proofs.formed.Blocks.{blocks_are_formed}
use Rattle.law_compile.proofs.formed_scripts.Statements.{scripts_are_formed}
use Rattle.law_compile.specs.script_objects.Laws.{HasCode}
use Rattle.sem_run.specs.run.Machine.{BlockId}
use Rattle.law_compile.specs.script_runs.Blocks.{code_or_module, number_or_module}
use Rattle.law_compile.specs.script_runs.ProgramBlocks.{program_code, text_of}
use Rattle.law_compile.specs.read_runs.Laws.{IsReadWith}
use Rattle.sem_code_machine.specs.code_machine.CodeBlocks.{CodeBlocks}
use Rattle.law_compile.specs.script_depths.Laws.{IsSeenIn, HasItsSizes}
use Rattle.law_compile.proofs.script_depths.Sizes.{script_has_its_sizes}
use Rattle.pt_builtins.specs.pt_host.World.{CodeFacts, Program}
use Rattle.pt_code_loader.specs.pt_code_tables.pt_machine_state.pt_code_facts.Facts.{facts_of, facts_view}
use Rattle.pt_code_loader.specs.pt_code_tables.pt_machine_state.declared.blocks.BlockCode.{BlockCode}
use Rattle.pt_code_loader.specs.pt_code_tables.pt_machine_state.Blocks.{depth_of}
use Rattle.pt_code_loader.specs.pt_code_tables.Tables.{AreTablesOf, HasDifferentNames, is_class_in}
use Rattle.pt_code_loader.specs.declared.loading.Loaded.{Loaded}
use Rattle.pt_code_loader.specs.Loaded.{IsLoadedProgram, IsLoadedSide, Side, side_of, is_class, iterates}
use Rattle.law_loading.specs.script_program.ScriptProgram.{block_or_module, facts_at, facts_with, program_of, the_module_block}
use Rattle.law_loading.proofs.script_program.Facts.{code_tells, locals_are_different}
use Rattle.law_loading.specs.loaded_scripts.Laws.{AreLoadable, IsLoadable, HasTables, LoadedScriptHasTables, LoadedScriptIsRead, CodeHasItsModule}
use Rattle.law_loading.proofs.loaded_scripts.Lists.{same_some, none_there, there, mapped_at}
use Rattle.law_loading.proofs.loaded_scripts.Tables.{FieldsAt, are_tables_of, block_fields, class_there, is_its_object, known, object_with, past_end}

pub kind_iterates : (c : BlockCodeTree) → iterates (kind_of c) ≡ follows.iterates c
kind_iterates (B.of_module ss) = refl
kind_iterates (B.of_function ss) = by (yields (B.of_function ss))
  where
    by : (t : Bool) → iterates (if t then kind.Generator else kind.Function) ≡ false
    by true = refl
    by false = refl
kind_iterates (B.of_class ss) = refl
kind_iterates (B.of_lambda l e) = by (yields (B.of_lambda l e))
  where
    by : (t : Bool) → iterates (if t then kind.Generator else kind.Function) ≡ false
    by true = refl
    by false = refl
kind_iterates (B.of_generator l e k t cs) = refl

no_pool : Pool
no_pool = record {
  constant = λ k. constant.None;
  text = λ t. [];
  texts = λ l. [];
  local = λ n. [];
  cell = λ n. local [];
  captures = λ n. 0;
  name_scope = T.global;
}

abbrev object_of : Stms → BlockLayout → BlockCode → CodeObject Value
object_of ss b k = object_with (pool_of (code_of ss) (code_block b)) (laid_from (code_block b) 0 (instrs_of b.written)) (depth_of k)

abbrev object_by : Stms → Option BlockLayout → BlockCode → CodeObject Value
object_by ss (Some b) k = object_of ss b k
object_by ss None k = object_with no_pool (λ pc. None) (λ pc. 0)

-- of a script, hidden or not, in a program with these texts of constants
module _ (script : wide.Stms) (ss : Stms) (hidden : Bool) (ts : List Name) (s : Side) (ready : IsLoadable script ss)
    (loaded : IsLoadedSide (code_of ss) hidden ts s) (p : Program) (same_texts : p.texts ≡ ts) where
  abbrev object : ℕ → CodeObject Value
  object n = object_by ss (slice_get (script_layouts ss) n) (known s n)

  abbrev facts_by : Option Block → ℕ → CodeFacts
  facts_by o n =
      let m = number_or_module o n in facts_with (spelled_in (naming_script ss) m) (names_of ss m) (block_or_module ss o)

  fits : (n : ℕ) (b : BlockLayout) → slice_get (script_layouts ss) n ≡ Some b → AllByRecursion InstrFits (instrs_of b.written)
  fits n b is_layout = operands_fit ss n b (numbered script ss ready.is_script) ready.numbers_fit ready.cells_fit is_layout

  layouts_long : length (script_layouts ss) ≡ length (blocks_script ss)
  layouts_long = sym (length-map (script_layouts ss) code_block) ∙ as_many_blocks ss

  -- of a block with its layout
  module _ (n : ℕ) (k : Block) (b : BlockLayout) (is_block : slice_get (blocks_script ss) n ≡ Some k) (is_layout : slice_get (script_layouts ss) n ≡ Some b) where
    abbrev own : CodeObject Value
    own = object_of ss b (known s n)

    code_there : slice_get (code_of ss).blocks n ≡ Some (code_block b)
    code_there = mapped_at code_block (script_layouts ss) n b is_layout

    view : IsView (code_block b) own.at
    view = record { instrs = instrs_of b.written; fits = fits n b is_layout; spelled = refl; view_is = refl }

    seen : IsSeenIn ss n k b own
    seen =
        let keeps = blocks_have_free_names ss ready.no_fault (numbered script ss ready.is_script) ready.class_name_is_unused in
        let formed = blocks_are_formed ss n k (scripts_are_formed script ss ready.is_formed ready.is_script) is_block in record {
          is_block = is_block;
          is_layout = is_layout;
          fits = fits n b is_layout;
          view = view;
          pool = refl;
          named = names_are_found {V = Unit {0}} tt ss n k is_block (arguments_plain {V = Unit {0}} tt k.code formed);
          takes = λ m. free_names_have_cells ss n m keeps;
          parts = statements_have_parts k.code formed;
        }

    has_code : HasCode value.None ss n k own
    has_code =
        let sizes : HasItsSizes _ own = script_has_its_sizes ss n k b own ready.no_fault seen in record {
          is_block = is_block;
          layout = b;
          is_layout = is_layout;
          fits = fits n b is_layout;
          is_object = is_its_object (code_of ss) hidden ts s loaded n (code_block b) code_there own.at view sizes;
          same_null = refl;
          knows_truths = λ t. refl;
        }

    abbrev facts : CodeFacts
    facts = facts_with (spelled_in (naming_script ss) n) (names_of ss n) k

    code_facts : facts_view (facts_of (code_of ss).texts (code_block b)) ≡ facts
    code_facts = code_tells ss n k b ready.no_fault (ready.names n b is_layout) is_block is_layout

    kind_there : (code_block b).kind ≡ kind_of k.code
    kind_there =
        let laid : IsLayoutIn ss n b = blocks_are_laid_out ss n b is_layout in
        ap (λ (c : BlockLayout). c.heading.kind) laid.is ∙ ap (λ (j : Block). kind_of j.code) (same_some laid.block k (sym laid.is_block ∙ is_block))

    fields : FieldsAt p s n own facts (follows.iterates k.code)
    fields =
        let f = block_fields (code_of ss) hidden ts s loaded n (code_block b) code_there own.at view p same_texts in
        subst (λ z. FieldsAt p s n own z (follows.iterates k.code)) code_facts
        (subst (λ z. FieldsAt p s n own (facts_view (facts_of (code_of ss).texts (code_block b))) z)
        (ap iterates kind_there ∙ kind_iterates k.code) f)

  -- of a block
  of_block : (n : ℕ) (k : Block) → slice_get (blocks_script ss) n ≡ Some k → HasCode value.None ss n k (object n)
  of_block n k is_block =
      let (b, is_layout) = there (blocks_script ss) (script_layouts ss) n k layouts_long is_block in
      subst (HasCode value.None ss n k) (ap (λ o. object_by ss o (known s n)) (sym is_layout)) (has_code n k b is_block is_layout)

  fields_of : (n : ℕ) (k : Block) → slice_get (blocks_script ss) n ≡ Some k
      → FieldsAt p s n (object n) (facts_with (spelled_in (naming_script ss) n) (names_of ss n) k) (follows.iterates k.code)
  fields_of n k is_block =
      let (b, is_layout) = there (blocks_script ss) (script_layouts ss) n k layouts_long is_block in
      subst (λ x. FieldsAt p s n x (facts_with (spelled_in (naming_script ss) n) (names_of ss n) k) (follows.iterates k.code))
      (ap (λ o. object_by ss o (known s n)) (sym is_layout)) (fields n k b is_block is_layout)

  module_class : is_class_in s.pool 0 ≡ false
  module_class =
      let (b, is_layout) = there (blocks_script ss) (script_layouts ss) 0 (the_module_block ss) layouts_long refl in
      class_there (code_of ss) hidden ts s loaded 0 (code_block b) (code_there 0 (the_module_block ss) b refl is_layout)
      ∙ ap is_class (kind_there 0 (the_module_block ss) b refl is_layout)

  fields_by : (o : Option Block) (n : ℕ) → slice_get (blocks_script ss) n ≡ o
      → FieldsAt p s n (object (number_or_module o n)) (facts_by o n) (follows.iterates (code_or_module ss o))
  fields_by (Some k) n e = fields_of n k e
  fields_by None n e =
      past_end (code_of ss) hidden ts s loaded n (none_there (code_of ss).blocks (blocks_script ss) n (as_many_blocks ss) e) p (object 0)
      (facts_by None n) false module_class (fields_of 0 (the_module_block ss) refl)

  at_block : (n : ℕ) → let o = slice_get (blocks_script ss) n in
      FieldsAt p s n (object (number_or_module o n)) (facts_by o n) (follows.iterates (code_or_module ss o))
  at_block n = fields_by (slice_get (blocks_script ss) n) n refl

different : (script : wide.Stms) (ss : Stms) → IsLoadable script ss → (b : BlockId) → HasDifferentNames (facts_at ss b)
different script ss ready b =
    let n = number_or_module (slice_get (blocks_script ss) b.number) b.number in
    let d = ready.cells_are_different n in
    record { locals = locals_are_different ss n; cells = (d.cells, d.frees) }

-- of a prelude and of a script over it
module _ (first script : wide.Stms) (prelude ss : Stms) (l : Loaded) (ready : AreLoadable first script prelude ss)
    (loaded : IsLoadedProgram (code_of prelude) (code_of ss) l) where
  same_texts : (program_of prelude ss).texts ≡ l.texts
  same_texts = sym loaded.constant_texts

  abbrev objects : (hidden : Bool) → ℕ → CodeObject Value
  objects true = object first prelude true l.texts (side_of l true) ready.prelude_is loaded.of_prelude (program_of prelude ss) same_texts
  objects false = object script ss false l.texts (side_of l false) ready.script_is loaded.of_code (program_of prelude ss) same_texts

  of_blocks : (hidden : Bool) (n : ℕ) (k : Block) → slice_get (blocks_script (text_of prelude ss hidden)) n ≡ Some k
      → HasCode value.None (text_of prelude ss hidden) n k (objects hidden n)
  of_blocks true n k is = of_block first prelude true l.texts (side_of l true) ready.prelude_is loaded.of_prelude (program_of prelude ss) same_texts n k is
  of_blocks false n k is = of_block script ss false l.texts (side_of l false) ready.script_is loaded.of_code (program_of prelude ss) same_texts n k is

  abbrev code : CodeBlocks Value
  code = program_code prelude ss objects

  abbrev At : (hidden : Bool) → ℕ → Type 0
  At hidden n =
      let b : BlockId = record { hidden = hidden; number = n } in
      FieldsAt (program_of prelude ss) (side_of l hidden) n (code.object b) ((program_of prelude ss).facts b) (code.iterates b)

  at_both : (hidden : Bool) (n : ℕ) → At hidden n
  at_both true n = at_block first prelude true l.texts (side_of l true) ready.prelude_is loaded.of_prelude (program_of prelude ss) same_texts n
  at_both false n = at_block script ss false l.texts (side_of l false) ready.script_is loaded.of_code (program_of prelude ss) same_texts n

  all_different : (b : BlockId) → HasDifferentNames ((program_of prelude ss).facts b)
  all_different b = by b.hidden
    where
      by : (hidden : Bool) → HasDifferentNames (facts_at (text_of prelude ss hidden) b)
      by true = different first prelude ready.prelude_is b
      by false = different script ss ready.script_is b

  are_tables : AreTablesOf (program_of prelude ss) code l.tables
  are_tables = are_tables_of (code_of prelude) (code_of ss) l loaded (program_of prelude ss) code (λ b. at_both b.hidden b.number) all_different

  has_tables : HasTables prelude ss l
  has_tables = record { object = objects; of_blocks = of_blocks; tables = are_tables; texts = same_texts }

pub loaded_script_has_tables : LoadedScriptHasTables
loaded_script_has_tables first script prelude ss l ready loaded = has_tables first script prelude ss l ready loaded

pub loaded_script_is_read : LoadedScriptIsRead
loaded_script_is_read first script prelude ss l ready t = (read first prelude ready.prelude_is (t.object true) (t.of_blocks true), read script ss ready.script_is (t.object false) (t.of_blocks false))
  where
    read : (script : wide.Stms) (ss : Stms) → IsLoadable script ss → (object : ℕ → CodeObject Value)
        → ((n : ℕ) (k : Block) → slice_get (blocks_script ss) n ≡ Some k → HasCode value.None ss n k (object n)) → IsReadWith value.None script ss object
    read script ss ready object of_blocks = record {
      is_script = ready.is_script;
      is_formed = ready.is_formed;
      no_fault = ready.no_fault;
      class_name_is_unused = ready.class_name_is_unused;
      of_blocks = of_blocks;
    }

pub code_has_its_module : CodeHasItsModule
code_has_its_module ss = let e = as_many_blocks ss in let some : 0 < length (blocks_script ss) = omega arith in omega (arith, e, some)
