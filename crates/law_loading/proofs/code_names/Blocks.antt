-- The code of a supported script names its blocks.
use Rattle.std.proofs.Common.{◌≡◌, ◌∙◌, ◌+◌, ℕ, zero, suc, Bool, true, false, List, [], ◌∷◌, ◌++◌, length, map, Option, Some, None, refl, sym, ap, subst, arith}
use Rattle.std.specs.Prelude.{slice_get}
use Rattle.std.specs.List.{AllByRecursion}
use Rattle.std.proofs.lemmas.List.{length-map, length-append}
use Rattle.pt_tree.specs.Syntax.{Stms}
use Rattle.pt_tree.specs.Blocks.{Block, blocks_script}
use Rattle.pt_wide.specs.Syntax as wide
use Rattle.pt_instr.specs.declared.Instr.{Instr}
use Rattle.pt_instr.specs.declared.Instr.TheVariants as instr
use Rattle.pt_heap.specs.declared.value.Value.{Value}
use Rattle.pt_heap.specs.declared.value.Value.TheVariants as value
use Rattle.sem_names.specs.Around.{names_of}
use Rattle.pt_code.specs.View.{Ins, laid_from}
use Rattle.pt_code.proofs.OneView.{one_view}
use Rattle.sem_code.specs.slots.CodeObject.{CodeObject, Pool}
use Rattle.sem_code.specs.slots.BlockObject.{free_in}
use Rattle.pt_assembler.specs.Layout.{instrs_of}
use Rattle.law_typed_pieces.specs.law_operands.law_files.sem_compile.compile.ScriptCode.{BlockLayout, code_block, code_of, script_layouts}
use Rattle.law_typed_pieces.proofs.law_operands.law_files.sem_compile.compile.Blocks.{as_many_blocks}
use Rattle.law_front.proofs.script_numbers.Scripts.{numbered}
use Rattle.law_compile.specs.script_objects.Laws.{HasCode}
use Rattle.pt_builtins.specs.pt_host.Calls.{module_names, module_world}
use Rattle.law_names.proofs.module_names.Classes.{module_has_no_frees}
use Rattle.law_compile.specs.script_runs.Blocks.{number_of, number_or_module, the_module}
use Rattle.law_compile.specs.script_runs.ProgramBlocks.{program_code, text_of}
use Rattle.sem_run.specs.run.Machine.{BlockId}
use Rattle.law_loading.specs.script_program.ScriptProgram.{program_of, the_module_block}
use Rattle.law_loading.specs.script_program.Laws.{HasItsNames}
use Rattle.pt_code_loader.specs.declared.loading.Loaded.{Loaded}
use Rattle.law_loading.specs.loaded_scripts.Laws.{AreLoadable, HasTables, IsLoadable}
use Rattle.sem_fits.specs.fits.Block.{links_of}
use Rattle.law_typed_pieces.proofs.standing_pieces.Script.{instructions_may_stand}
use Rattle.law_frames.specs.RunNames.{StoresHaveNames}
use Rattle.law_frames.specs.Operands.{CodeNamesItsBlocks, OperandsNameIn}
use Rattle.law_frames.proofs.Runs.{reached_has_names}
use Rattle.law_frames.proofs.Start.{begins_with_names}
use Rattle.law_loading.specs.code_names.Laws.{SupportedCodeNamesItsBlocks, SupportedCodeRunsWithItsNames}
use Rattle.law_loading.proofs.code_names.Instructions.{TakesAsNamed, all-take, laid-is, mapped-at, operands-name, seen-names, within_of}

mapped-count : {A B : Type 0} (f : A → B) (xs : List A) (ys : List B) → map f xs ≡ ys → length xs ≡ length ys
mapped-count f xs ys e = sym (length-map xs f) ∙ ap length e

-- by lists that have as many names
renamed : (locals cells : ℕ) (f g : ℕ → ℕ) → ((l : ℕ) → f l ≡ g l) → (i : Instr) → OperandsNameIn locals cells f i → OperandsNameIn locals cells g i
renamed locals cells f g same (instr.MakeFunction b n l) h = h ∙ same l.0
renamed locals cells f g same i h = h

none-there : {A B : Type 0} (xs : List A) (ys : List B) (n : ℕ) → length xs ≡ length ys → slice_get ys n ≡ None → slice_get xs n ≡ None
none-there [] ys n l e = refl
none-there (x ∷ xs) [] n l e = absurd (omega (arith, l))
none-there (x ∷ xs) (y ∷ ys) zero l e = absurd (let no : Some y ≡ None = e in cc)
none-there (x ∷ xs) (y ∷ ys) (suc n) l e = none-there xs ys n (omega (arith, l)) e

some-same : {A : Type 0} (a b : A) → Some a ≡ Some b → a ≡ b
some-same a b e = cc

-- of a script, by objects of its blocks
module _ (script : wide.Stms) (ss : Stms) (ready : IsLoadable script ss) (own : ℕ → CodeObject Value)
    (of_blocks : (n : ℕ) (k : Block) → slice_get (blocks_script ss) n ≡ Some k → HasCode value.None ss n k (own n)) where
  -- of a block with its object
  module _ (n : ℕ) (k : Block) (h : HasCode value.None ss n k (own n)) where
    abbrev b : BlockLayout
    b = h.layout

    abbrev object : CodeObject Value
    object = own n

    has : HasItsNames ss n (code_block b)
    has = ready.names n b h.is_layout

    locals-count : length (code_block b).locals ≡ length (names_of ss n).locals
    locals-count = mapped-count _ (code_block b).locals (names_of ss n).locals has.locals

    cells-count : length (code_block b).cells + length (code_block b).free ≡ length ((names_of ss n).cells ++ (names_of ss n).frees)
    cells-count =
        let c : length (code_block b).cells ≡ length (names_of ss n).cells = mapped-count _ (code_block b).cells (names_of ss n).cells has.cells in
        let f : length (code_block b).free ≡ length (names_of ss n).frees = mapped-count _ (code_block b).free (names_of ss n).frees has.frees in
        let both : length ((names_of ss n).cells ++ (names_of ss n).frees) ≡ length (names_of ss n).cells + length (names_of ss n).frees =
        length-append (names_of ss n).cells (names_of ss n).frees in
        omega (arith, c, f, both)

    seen : object.at ≡ laid_from (code_block b) 0 (instrs_of b.written)
    seen = one_view (code_block b) object.at (laid_from (code_block b) 0 (instrs_of b.written)) h.is_object.view
        (record { instrs = instrs_of b.written; fits = h.fits; spelled = refl; view_is = refl })

    abbrev lists : ℕ → ℕ
    lists = λ l. length ((links_of (code_of ss)).texts l)

    pub operands : (pc : ℕ) (i : Ins) → object.at pc ≡ Some i
        → OperandsNameIn (length (names_of ss n).locals) (length ((names_of ss n).cells ++ (names_of ss n).frees)) (λ l. length (object.pool.texts l)) i.instr
    operands pc i e =
        let P : ℕ → ℕ → Type 0 = λ m k. OperandsNameIn m k lists i.instr in
        let laid : laid_from (code_block b) 0 (instrs_of b.written) pc ≡ Some i = ap (λ f. f pc) (sym seen) ∙ e in
        let take : AllByRecursion (TakesAsNamed lists) (instrs_of b.written) =
        all-take b.heading.kind (links_of (code_of ss)) b.written b.written.instrs
        (instructions_may_stand ss ready.no_fault (numbered script ss ready.is_script) n b h.is_layout) in
        let raw : P (length (code_block b).locals) (length (code_block b).cells + length (code_block b).free) =
        operands-name (within_of (code_of ss) (code_block b)) lists i.instr
        (seen-names ss n b h.is_layout (numbered script ss ready.is_script) object.at h.is_object.view pc i e)
        (laid-is (TakesAsNamed lists) (code_block b) 0 (instrs_of b.written) pc i take laid) in
        renamed (length (names_of ss n).locals) (length ((names_of ss n).cells ++ (names_of ss n).frees)) lists (λ l. length (object.pool.texts l))
        (λ l. ap (λ (p : Pool). length (p.texts l)) (sym h.is_object.pool)) i.instr
        (subst (λ k. P (length (names_of ss n).locals) k) cells-count (subst (λ m. P m (length (code_block b).cells + length
        (code_block b).free)) locals-count raw))

    pub captures : (m : ℕ) → object.pool.captures m ≡ free_in (slice_get (code_of ss).blocks m)
    captures m = ap (λ (p : Pool). p.captures m) h.is_object.pool

    pub frees-count : free_in (slice_get (code_of ss).blocks n) ≡ length (names_of ss n).frees
    frees-count =
        ap free_in (mapped-at code_block (script_layouts ss) n b h.is_layout) ∙ mapped-count _ (code_block b).free (names_of ss n).frees has.frees

  -- past the end stands the module
  abbrev the_block : Block
  the_block = the_module_block ss

  module-code : HasCode value.None ss 0 the_block (own 0)
  module-code = of_blocks 0 the_block refl

  pub operands-by : (o : Option Block) (n : ℕ) → slice_get (blocks_script ss) n ≡ o → (pc : ℕ) (i : Ins) → (own (number_or_module o n)).at pc ≡ Some i
      → OperandsNameIn (length (names_of ss (number_or_module o n)).locals)
      (length ((names_of ss (number_or_module o n)).cells ++ (names_of ss (number_or_module o n)).frees))
      (λ l. length ((own (number_or_module o n)).pool.texts l)) i.instr
  operands-by (Some k) n e = operands n k (of_blocks n k e)
  operands-by None n e = operands 0 the_block module-code

  pub captures-by : (o : Option Block) (n : ℕ) → slice_get (blocks_script ss) n ≡ o → (m : ℕ)
      → (own (number_or_module o n)).pool.captures m ≡ free_in (slice_get (code_of ss).blocks m)
  captures-by (Some k) n e = captures n k (of_blocks n k e)
  captures-by None n e = captures 0 the_block module-code

  pub frees-by : (o : Option Block) (n : ℕ) → slice_get (blocks_script ss) n ≡ o
      → free_in (slice_get (code_of ss).blocks n) ≡ length (names_of ss (number_or_module o n)).frees
  frees-by (Some k) n e = frees-count n k (of_blocks n k e)
  frees-by None n e = ap free_in (none-there (code_of ss).blocks (blocks_script ss) n (as_many_blocks ss) e) ∙ ap length (sym (module_has_no_frees ss))

-- of a prelude and of a script over it
module _ (first script : wide.Stms) (prelude ss : Stms) (l : Loaded) (ready : AreLoadable first script prelude ss)
    (t : HasTables prelude ss l) where
  abbrev At : (hidden : Bool) → (b : BlockId) → Type 0
  At hidden b = let n = number_of (text_of prelude ss hidden) b in
      ((pc : ℕ) (i : Ins) → (t.object hidden n).at pc ≡ Some i
      → OperandsNameIn (length (names_of (text_of prelude ss hidden) n).locals)
      (length ((names_of (text_of prelude ss hidden) n).cells ++ (names_of (text_of prelude ss hidden) n).frees)) (λ k. length ((t.object hidden n).pool.texts k)) i.instr)
      × ((m : ℕ) → (t.object hidden n).pool.captures m
      ≡ length (names_of (text_of prelude ss hidden) (number_or_module (slice_get (blocks_script (text_of prelude ss hidden)) m) m)).frees)

  at_side : (script : wide.Stms) (hidden : Bool) → IsLoadable script (text_of prelude ss hidden) → (b : BlockId) → At hidden b
  at_side script hidden ready b =
      let ts = text_of prelude ss hidden in
      let o = slice_get (blocks_script ts) b.number in (
        operands-by script ts ready (t.object hidden) (t.of_blocks hidden) o b.number refl,
        λ m. captures-by script ts ready (t.object hidden) (t.of_blocks hidden) o b.number refl m
            ∙ frees-by script ts ready (t.object hidden) (t.of_blocks hidden) (slice_get (blocks_script ts) m) m refl,
      )

  at_both : (hidden : Bool) (b : BlockId) → At hidden b
  at_both true b = at_side first true ready.prelude_is b
  at_both false b = at_side script false ready.script_is b

  names-blocks : CodeNamesItsBlocks (program_of prelude ss) (program_code prelude ss t.object)
  names-blocks = record {
    operands = λ b. (at_both b.hidden b).0;
    names = λ b. t.tables.names b;
    extras = λ b. t.tables.extras b;
    captures = λ b m. (at_both b.hidden b).1 m;
  }

pub code_names_blocks : SupportedCodeNamesItsBlocks
code_names_blocks first script prelude ss l ready t = names-blocks first script prelude ss l ready t

-- the run of the module begins with its names
pub module_begins : (prelude ss : Stms) → StoresHaveNames (program_of prelude ss) the_module
    (record { names = module_names (program_of prelude ss); world = module_world (program_of prelude ss) })
module_begins prelude ss = begins_with_names (program_of prelude ss) (module_has_no_frees ss)

pub runs_with_names : SupportedCodeRunsWithItsNames
runs_with_names first script prelude ss l ready t n s r =
    reached_has_names (program_of prelude ss) (program_code prelude ss t.object) (names-blocks first script prelude ss l ready t) n the_module
    (module_names (program_of prelude ss)) (module_world (program_of prelude ss)) (module_begins prelude ss) s r
