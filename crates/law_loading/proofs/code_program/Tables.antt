-- The tables of a code that is loaded are those of its program and of its code objects.
use Rattle.std.proofs.Common.{◌≡◌, ℕ, Bool, false, true, List, Option, Some, None, refl, sym, ◌∙◌, subst}
use Rattle.std.specs.Prelude.{slice_get}
use Rattle.pt_tree.specs.Syntax.{Name}
use Rattle.std.specs.List.{IsDistinct}
use Rattle.std.proofs.lemmas.Bool.{false≢true}
use Rattle.pt_heap.specs.declared.value.Value.{Value}
use Rattle.pt_code.specs.declared.BlockKind.{BlockKind}
use Rattle.pt_code.specs.declared.BlockKind.TheVariants as kind
use Rattle.pt_code.specs.declared.CodeBlock.{CodeBlock}
use Rattle.pt_code.specs.declared.Code.{Code}
use Rattle.pt_code.specs.File.{stands_first}
use Rattle.pt_code.specs.View.{IsView}
use Rattle.sem_code.specs.slots.CodeObject.{CodeObject}
use Rattle.sem_code.specs.slots.BlockObject.{IsBlockObject, pool_of}
use Rattle.sem_fits.specs.fits.Block.{block_of}
use Rattle.sem_fits.specs.fits.Fits.{Fits}
use Rattle.sem_fits.proofs.fits.ViewLaid.{view_is_laid}
use Rattle.sem_run.specs.run.Machine.{BlockId}
use Rattle.sem_code_machine.specs.code_machine.CodeBlocks.{CodeBlocks}
use Rattle.pt_builtins.specs.pt_host.World.{CodeFacts, Program}
use Rattle.pt_code_loader.specs.pt_code_tables.pt_machine_state.pt_code_facts.sem_rows.heap_rows.Leads.{HasHeapTruths, HasHeapExtras}
use Rattle.pt_code_loader.specs.pt_code_tables.pt_machine_state.pt_code_facts.Facts.{facts_of, facts_view}
use Rattle.pt_code_loader.specs.pt_code_tables.pt_machine_state.Blocks.{depth_of}
use Rattle.pt_code_loader.specs.pt_code_tables.Tables.{AreTablesOf, HasDifferentNames, is_class_in}
use Rattle.pt_code_loader.specs.declared.loading.Loaded.{Loaded}
use Rattle.pt_code_loader.specs.Loaded.{IsLoadedProgram, IsLoadedSide, Side, side_of, is_class, iterates}
use Rattle.law_compile.specs.script_depths.Laws.{HasItsSizes}
use Rattle.law_compile.proofs.script_depths.Coming.{has_its_sizes}
use Rattle.law_loading.proofs.loaded_scripts.Lists.{same_some}
use Rattle.law_loading.proofs.loaded_scripts.Tables.{FieldsAt, are_tables_of, block_fields, class_there, heap_truths, is_its_object, known, no_extras, object_with, past_end}
use Rattle.law_loading.specs.code_program.CodeProgram.{AreObjectsOf, code_blocks, code_in, facts_by, iterates_by, number_in, number_or_module, program_of_code}
use Rattle.law_loading.specs.code_program.Laws.{IsRunnable, LoadedCodeHasTables}
use Rattle.law_loading.proofs.code_program.Objects.{the_first, view_of, begins}

-- the module is no class
no_class : (k : BlockKind) → stands_first true k ≡ true → is_class k ≡ false
no_class kind.Module e = refl
no_class kind.Class e = absurd (false≢true e)
no_class kind.Function e = refl
no_class kind.Generator e = refl
no_class kind.GeneratorExpression e = refl

-- of a code, hidden or not, in a program with these texts of constants
module _ (c : Code) (hidden : Bool) (ts : List Name) (s : Side) (ready : IsRunnable c) (loaded : IsLoadedSide c hidden ts s) (p : Program)
    (same_texts : p.texts ≡ ts) where
  abbrev object_by : (n : ℕ) (o : Option CodeBlock) → slice_get c.blocks n ≡ o → CodeObject Value
  object_by n (Some b) e = object_with (pool_of c b) (view_of c ready.has_file n b e).view (depth_of (known s n))
  object_by n None e = object_with (pool_of c (the_first c ready.has_file).0) (λ pc. None) (λ pc. 0)

  abbrev object : ℕ → CodeObject Value
  object n = object_by n (slice_get c.blocks n) refl

  -- of a block that is there
  module _ (n : ℕ) (b : CodeBlock) (is : slice_get c.blocks n ≡ Some b) where
    abbrev own : CodeObject Value
    own = object_by n (Some b) is

    view : IsView b own.at
    view = (view_of c ready.has_file n b is).is

    fits : Fits (block_of c b own.at)
    fits = ready.fit n b is own.at view

    is_object : IsBlockObject c b own
    is_object =
        let a = fits.agrees in
        let sizes : HasItsSizes (block_of c b own.at) own =
        has_its_sizes c b own refl (begins c ready.has_file n b is own.at view) (view_is_laid c b own.at view) a.enough a.inside a.lengths a.handlers in
        is_its_object c hidden ts s loaded n b is own.at view sizes

    fields : FieldsAt p s n own (facts_view (facts_of c.texts b)) (iterates b.kind)
    fields = block_fields c hidden ts s loaded n b is own.at view p same_texts

  none_there : {A : Type 0} (b : CodeBlock) → None ≡ Some b → A
  none_there b e = absurd (let no : None ≡ Some b = e in cc)

  fields_at : (n : ℕ) (o : Option CodeBlock) (q : slice_get c.blocks n ≡ o) (b : CodeBlock) → o ≡ Some b
      → FieldsAt p s n (object_by n o q) (facts_by c.texts o) (iterates_by o)
  fields_at n (Some a) q b e = fields n a q
  fields_at n None q b e = none_there b e

  object_at : (n : ℕ) (o : Option CodeBlock) (q : slice_get c.blocks n ≡ o) (b : CodeBlock) → o ≡ Some b → IsBlockObject c b (object_by n o q)
  object_at n (Some a) q b e = subst (λ z. IsBlockObject c z (object_by n (Some a) q)) (same_some a b e) (is_object n a q)
  object_at n None q b e = none_there b e

  truths_at : (n : ℕ) (o : Option CodeBlock) (q : slice_get c.blocks n ≡ o) → HasHeapTruths (object_by n o q)
  truths_at n (Some b) q = heap_truths (pool_of c b) (object_by n (Some b) q).at (depth_of (known s n))
  truths_at n None q = heap_truths (pool_of c (the_first c ready.has_file).0) (λ pc. None) (λ pc. 0)

  extras_at : (n : ℕ) (o : Option CodeBlock) (q : slice_get c.blocks n ≡ o) → HasHeapExtras (object_by n o q)
  extras_at n (Some b) q = no_extras (pool_of c b) (object_by n (Some b) q).at (depth_of (known s n))
  extras_at n None q = no_extras (pool_of c (the_first c ready.has_file).0) (λ pc. None) (λ pc. 0)

  are_objects : AreObjectsOf c object
  are_objects = record {
    of_blocks = λ n b e. object_at n (slice_get c.blocks n) refl b e;
    truths = λ n. truths_at n (slice_get c.blocks n) refl;
    extras = λ n. extras_at n (slice_get c.blocks n) refl;
  }

  module_class : is_class_in s.pool 0 ≡ false
  module_class =
      let f = the_first c ready.has_file in
      class_there c hidden ts s loaded 0 f.0 f.1 ∙ no_class f.0.kind f.2.0.1.0.1

  fields_by : (o : Option CodeBlock) (n : ℕ) → slice_get c.blocks n ≡ o
      → FieldsAt p s n (object (number_or_module o n)) (facts_by c.texts (slice_get c.blocks (number_or_module o n)))
      (iterates_by (slice_get c.blocks (number_or_module o n)))
  fields_by (Some b) n e = fields_at n (slice_get c.blocks n) refl b e
  fields_by None n e =
      let first = the_first c ready.has_file in
      past_end c hidden ts s loaded n e p (object 0) (facts_by c.texts (slice_get c.blocks 0)) (iterates_by (slice_get c.blocks 0)) module_class
      (fields_at 0 (slice_get c.blocks 0) refl first.0 first.1)

  at_block : (n : ℕ) → FieldsAt p s n (object (number_in c n))
      (facts_by c.texts (slice_get c.blocks (number_in c n))) (iterates_by (slice_get c.blocks (number_in c n)))
  at_block n = fields_by (slice_get c.blocks n) n refl

  different : (n : ℕ) (o : Option CodeBlock) → slice_get c.blocks n ≡ o → HasDifferentNames (facts_by c.texts o)
  unfolding IsDistinct
  different n (Some b) e =
      let built = ready.built n b e in record {
        locals = built.locals;
        cells = (built.cells, built.free);
      }
  different n None e = record { locals = tt; cells = (tt, tt) }

-- of a prelude and of a code over it
module _ (prelude c : Code) (l : Loaded) (first : IsRunnable prelude) (ready : IsRunnable c) (loaded : IsLoadedProgram prelude c l) where
  same_texts : (program_of_code prelude c).texts ≡ l.texts
  same_texts = sym loaded.constant_texts

  abbrev objects : (hidden : Bool) → ℕ → CodeObject Value
  objects true = object prelude true l.texts (side_of l true) first loaded.of_prelude (program_of_code prelude c) same_texts
  objects false = object c false l.texts (side_of l false) ready loaded.of_code (program_of_code prelude c) same_texts

  are : (hidden : Bool) → AreObjectsOf (code_in prelude c hidden) (objects hidden)
  are true = are_objects prelude true l.texts (side_of l true) first loaded.of_prelude (program_of_code prelude c) same_texts
  are false = are_objects c false l.texts (side_of l false) ready loaded.of_code (program_of_code prelude c) same_texts

  abbrev blocks : CodeBlocks Value
  blocks = code_blocks prelude c objects

  abbrev At : (hidden : Bool) → ℕ → Type 0
  At hidden n =
      let b : BlockId = record { hidden = hidden; number = n } in
      FieldsAt (program_of_code prelude c) (side_of l hidden) n (blocks.object b) ((program_of_code prelude c).facts b) (blocks.iterates b)

  at_both : (hidden : Bool) (n : ℕ) → At hidden n
  at_both true n = at_block prelude true l.texts (side_of l true) first loaded.of_prelude (program_of_code prelude c) same_texts n
  at_both false n = at_block c false l.texts (side_of l false) ready loaded.of_code (program_of_code prelude c) same_texts n

  abbrev facts_in : (hidden : Bool) → ℕ → CodeFacts
  facts_in hidden n = facts_by (code_in prelude c hidden).texts (slice_get (code_in prelude c hidden).blocks (number_in (code_in prelude c hidden) n))

  different_in : (hidden : Bool) (n : ℕ) → HasDifferentNames (facts_in hidden n)
  different_in true n = different prelude true l.texts (side_of l true) first loaded.of_prelude (program_of_code prelude c) same_texts (number_in prelude n)
      (slice_get prelude.blocks (number_in prelude n)) refl
  different_in false n = different c false l.texts (side_of l false) ready loaded.of_code (program_of_code prelude c) same_texts (number_in c n)
      (slice_get c.blocks (number_in c n)) refl

  are_tables : AreTablesOf (program_of_code prelude c) blocks l.tables
  are_tables = are_tables_of prelude c l loaded (program_of_code prelude c) blocks (λ b. at_both b.hidden b.number) (λ b. different_in b.hidden b.number)

pub loaded_code_has_tables : LoadedCodeHasTables
loaded_code_has_tables prelude c l first ready loaded = record {
  object = objects prelude c l first ready loaded;
  are = are prelude c l first ready loaded;
  tables = are_tables prelude c l first ready loaded;
  texts = sym loaded.constant_texts;
}
