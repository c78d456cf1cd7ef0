-- The code of a script that a text is has the runs of the script, and is ready to run.
use Rattle.std.proofs.Common.{◌≡◌, ◌<◌, ◌∷◌, ℕ, zero, suc, Bool, true, false, [], List, Some, None, Result, Ok, Err, length, sym, subst}
use Rattle.std.specs.Prelude.{IfOk, IfErr, slice_get}
use Rattle.std.proofs.lemmas.Option.{same_Some}
use Rattle.pt_base.specs.Taken.{Pieces}
use Rattle.pt_tree.specs.Syntax.{Stms}
use Rattle.pt_wide.specs.Syntax as wide
use Rattle.law_front.proofs.script_numbers.Scripts.{numbered}
use Rattle.pt_code.specs.declared.CodeBlock.{CodeBlock}
use Rattle.pt_code.specs.declared.Code.{Code}
use Rattle.law_operands.specs.law_files.sem_compile.compile.ScriptCode.{code_of}
use Rattle.law_operands.specs.law_files.code_files.Numbers.{NumbersFit}
use Rattle.law_operands.specs.law_files.operands_fit.Laws.{CellsFit}
use Rattle.pt_heap.specs.declared.value.Value.TheVariants as value
use Rattle.sem_rows.specs.pt_host.HeapHost.{heap_host}
use Rattle.sem_rows.specs.pt_host.Calls.{module_names, module_world}
use Rattle.pt_machine_state.specs.Views.{run_of}
use Rattle.pt_bare_runs.specs.Laws.{NeverStuck}
use Rattle.pt_bare_runs.specs.Strides as bare
use Rattle.sem_rows.specs.sem_code_machine.code_machine.CodeBlocks.{machine}
use Rattle.pt_bare_host.proofs.BlocksOnly.{opens_only}
use Rattle.pt_supported.specs.Built.{Built}
use Rattle.pt_supported.proofs.Silent.{built_blocks_give_nothing_on}
use Rattle.pt_front.specs.Text.{IsScript}
use Rattle.law_compile.specs.read_forms.Laws.{IsWideOf}
use Rattle.law_compile.proofs.read_forms.Texts.{names_begin_without_dot, scripts_of_texts_are_formed}
use Rattle.law_supported.proofs.Different.{cells_are_different}
use Rattle.law_supported.proofs.Written.{blocks_have_names}
use Rattle.pt_run_code.specs.law_loading.script_program.ScriptProgram.{program_of}
use Rattle.law_compile.specs.script_runs.Blocks.{the_module}
use Rattle.law_compile.specs.script_runs.ProgramBlocks.{program_code, program_code_machine, text_of}
use Rattle.law_compile.specs.script_runs.ProgramLaws.{AreObjectsOfBoth}
use Rattle.sem_rows.specs.pt_host.World.{Program}
use Rattle.pt_heap.specs.declared.value.Value.{Value}
use Rattle.sem_code.specs.slots.CodeObject.{CodeObject}
use Rattle.law_compile.specs.read_runs.Laws.{IsReadWith}
use Rattle.law_operands.proofs.free_pieces.Script.{blocks_have_free_names}
use Rattle.law_compile.proofs.formed_scripts.Statements.{scripts_are_formed}
use Rattle.law_compile.proofs.script_objects.Objects.{objects_have_their_code}
use Rattle.law_compile.specs.script_runs.Laws.{AreItsObjects}
use Rattle.law_compile.proofs.script_runs.Objects.{program_has_its_bare_runs, program_code_writes_nothing_else, program_code_is_never_stuck}
use Rattle.pt_machine_state.specs.declared.machine.Machine.{Machine}
use Rattle.pt_machine_state.specs.declared.blocks.BlockCode.{BlockCode}
use Rattle.pt_code_loader.specs.declared.loading.Loaded.{Loaded}
use Rattle.pt_code_loader.specs.Loaded.{AreLoaded, IsLoaded, IsLoadedProgram, IsLoadedSide, Side, side_of}
use Rattle.pt_code_loader.specs.Starting.{Begins, at_start}
use Rattle.pt_run_code.proofs.law_loading.code_names.Blocks.{code_names_blocks, module_begins}
use Rattle.pt_run_code.specs.law_loading.loaded_scripts.Laws.{AreLoadable, HasTables, IsLoadable}
use Rattle.pt_run_code.proofs.law_loading.loaded_scripts.Loading.{code_has_its_module, loaded_script_has_tables, loaded_script_is_read}
use Rattle.law_compile.specs.fitting_scripts.Laws.{CodeFits}
use Rattle.law_compile.proofs.fitting_scripts.Fitting.{code_of_texts_fits}
use Rattle.pt_run_code.specs.pt_runner.declared.ending.Ended.{Ended}
use Rattle.pt_run_code.specs.pt_runner.Runs.{IsReady, ModuleRun}
use Rattle.pt_run_code.specs.pt_runner.Runs as coded
use Rattle.pt_run_code.proofs.pt_runner.GoesTo.{runs_so}
use Rattle.pt_sinks.specs.declared.writing.WriteErr.{WriteErr}
use Rattle.pt_run_script.specs.ScriptRun.{AreCodeOf, ScriptBrokeOff, ScriptFinished}

pub has_its_module : (ss : Stms) (code : Code) → code ≡ code_of ss → 0 < length code.blocks
has_its_module ss code is = subst (λ c. 0 < length c.blocks) (sym is) (code_has_its_module ss)

-- a block of a code that is loaded
loaded_at : (c : Code) (bs : List CodeBlock) (ks : List BlockCode) (n : ℕ) (b : CodeBlock) → AreLoaded c bs ks
    → slice_get bs n ≡ Some b → (k : BlockCode) × IsLoaded c b k
loaded_at c [] ks n b h e = absurd (let none : None ≡ Some b = e in cc)
loaded_at c (x ∷ bs) [] n b h e = absurd h
loaded_at c (x ∷ bs) (k ∷ ks) zero b h e = (k, subst (λ y. IsLoaded c y k) (same_Some _ _ e) h.0)
loaded_at c (x ∷ bs) (k ∷ ks) (suc n) b h e = loaded_at c bs ks n b h.1 e

-- of a script that a text is, hidden or not, whose code is loaded
module _ (text : List ℕ) (ss : Stms) (is : IsScript text ss) (built : Built ss) (fit : NumbersFit (code_of ss)) (room : CellsFit (code_of ss)) where
  tree : wide.Stms
  tree = let w = scripts_of_texts_are_formed text ss is in w.0

  is_tree : IsWideOf tree ss
  unfolding tree
  is_tree = let w = scripts_of_texts_are_formed text ss is in w.1

  loadable : IsLoadable tree ss
  loadable = record {
    is_script = is_tree.is_script;
    is_formed = is_tree.is_formed;
    no_fault = is.no_fault;
    class_name_is_unused = is_tree.class_name_is_unused;
    numbers_fit = fit;
    cells_fit = room;
    names = λ n b at. let h = blocks_have_names ss is.no_fault (numbered tree ss is_tree.is_script) is_tree.class_name_is_unused built n b at in record {
      locals = h.locals;
      cells = h.cells;
      frees = h.frees;
    };
    cells_are_different = cells_are_different ss (names_begin_without_dot text ss is) built;
  }

  -- no place of what is loaded is too deep, so that its blocks fit
  code_fits : (hidden : Bool) (ts : List (List ℕ)) (s : Side) → IsLoadedSide (code_of ss) hidden ts s → CodeFits (code_of ss)
  code_fits hidden ts s loaded n b at view seen =
      let c = code_of ss in
      let block = loaded_at c c.blocks (s.blocks.of_module ∷ s.blocks.others) n b loaded.blocks at in
      code_of_texts_fits text ss is fit room n b at view seen (block.1.shallow view seen)

  their_objects : (object : ℕ → CodeObject Value) → IsReadWith value.None tree ss object → AreItsObjects value.None ss object
  their_objects object read =
      let frees = blocks_have_free_names ss read.no_fault (numbered tree ss read.is_script) read.class_name_is_unused in
      let formed = scripts_are_formed tree ss read.is_formed read.is_script in
      record {
        no_fault = read.no_fault;
        free_names = frees;
        of_blocks = λ n block e. objects_have_their_code value.None ss n block (object n) read.no_fault formed frees (read.of_blocks n block e);
      }

-- a script that a text is and its code, which is one that compiling gives
pub record IsCompiled (ss : Stms) (code : Code) : Type 0 where
  pub text : List ℕ
  pub is : IsScript text ss
  pub built : Built ss
  pub code_is : code ≡ code_of ss
  pub fit : NumbersFit code

module _ (prelude ss : Stms) (first script : Code) (of_prelude : IsCompiled prelude first) (of_script : IsCompiled ss script) (l : Loaded)
    (loaded : IsLoadedProgram first script l) (room : CellsFit first × CellsFit script) where
  fit_of : (ss : Stms) (code : Code) → IsCompiled ss code → NumbersFit (code_of ss)
  fit_of ss code k = subst NumbersFit k.code_is k.fit

  room_of : (ss : Stms) (code : Code) → IsCompiled ss code → CellsFit code → CellsFit (code_of ss)
  room_of ss code k r = subst CellsFit k.code_is r

  loaded_so : IsLoadedProgram (code_of prelude) (code_of ss) l
  loaded_so = subst (λ c. IsLoadedProgram c (code_of ss) l) of_prelude.code_is (subst (λ c. IsLoadedProgram first c l) of_script.code_is loaded)

  abbrev wide_prelude : wide.Stms
  wide_prelude = tree of_prelude.text prelude of_prelude.is of_prelude.built (fit_of prelude first of_prelude) (room_of prelude first of_prelude room.0)

  abbrev wide_script : wide.Stms
  wide_script = tree of_script.text ss of_script.is of_script.built (fit_of ss script of_script) (room_of ss script of_script room.1)

  ready : AreLoadable wide_prelude wide_script prelude ss
  ready = record {
    prelude_is = loadable of_prelude.text prelude of_prelude.is of_prelude.built (fit_of prelude first of_prelude) (room_of prelude first of_prelude room.0);
    script_is = loadable of_script.text ss of_script.is of_script.built (fit_of ss script of_script) (room_of ss script of_script room.1);
  }

  tables : HasTables prelude ss l
  tables = loaded_script_has_tables wide_prelude wide_script prelude ss l ready loaded_so

  are_objects : AreObjectsOfBoth value.None prelude ss tables.object
  are_objects =
      let read = loaded_script_is_read wide_prelude wide_script prelude ss l ready tables in record {
        of_prelude = their_objects of_prelude.text prelude of_prelude.is of_prelude.built (fit_of prelude first of_prelude) (room_of prelude first of_prelude room.0)
            (tables.object true) read.0;
        of_script = their_objects of_script.text ss of_script.is of_script.built (fit_of ss script of_script) (room_of ss script of_script room.1)
            (tables.object false) read.1;
      }

  fits : CodeFits (code_of prelude) × CodeFits (code_of ss)
  fits = (
    code_fits of_prelude.text prelude of_prelude.is of_prelude.built (fit_of prelude first of_prelude) (room_of prelude first of_prelude room.0)
        true l.texts (side_of l true) loaded_so.of_prelude,
    code_fits of_script.text ss of_script.is of_script.built (fit_of ss script of_script) (room_of ss script of_script room.1)
        false l.texts (side_of l false) loaded_so.of_code,
  )

  abbrev program : Program
  program = program_of prelude ss

  -- the run of the code of both
  pub code_run : ModuleRun
  code_run = record { program = program; code = program_code prelude ss tables.object; block = the_module; names = module_names program; world = module_world program }

  never_stuck : (n : ℕ) → NeverStuck (program_code_machine prelude ss tables.object) (heap_host program) n the_module (module_names program) (module_world program)
  never_stuck n =
      program_code_is_never_stuck value.None prelude ss tables.object are_objects (built_blocks_give_nothing_on prelude of_prelude.built)
      (built_blocks_give_nothing_on ss of_script.built) (heap_host program) (opens_only program) n (module_names program) (module_world program)

  -- the run of the module begins where the machine is
  starts : (m : Machine) → Begins l m
      → run_of program m at_start
      ≡ bare.start (machine (program_code prelude ss tables.object)) (heap_host program) the_module (module_names program) (module_world program)
  starts m begins = begins program (program_code prelude ss tables.object) tables.tables tables.texts

  pub is_ready : (m : Machine) → Begins l m → m.frames.activations ≡ [] → m.here.names ≡ [] → (n : ℕ) → IsReady l.tables n m code_run
  unfolding code_run
  is_ready m begins alone plain n = record {
    tables_are = tables.tables;
    beside = at_start;
    starts = starts m begins;
    none_waits = alone;
    no_names = plain;
    names_blocks = code_names_blocks wide_prelude wide_script prelude ss l ready tables;
    has_names = module_begins prelude ss;
    never_stuck = never_stuck n;
  }

  are_code : (hidden : Bool) → AreCodeOf (text_of prelude ss hidden) (tables.object hidden)
  are_code hidden = record {
    of_blocks = tables.of_blocks hidden;
    truths = λ b. (tables.tables.blocks (record { hidden = hidden; number = b.number })).truths;
    extras = λ b. tables.tables.extras (record { hidden = hidden; number = b.number });
  }

  module _ (n : ℕ) (events : Bool) (out_old out_new log_old log_new : Pieces → Pieces → Type 0) where
    pub finished : (x : Ended) → coded.Finished code_run n events x out_old out_new log_old log_new
        → ScriptFinished prelude ss n events out_old out_new log_old log_new x
    unfolding code_run
    finished x f = record {
      outcome = f.outcome;
      runs = (program_has_its_bare_runs value.None prelude ss tables.object are_objects (heap_host program) n (module_names program) (module_world program)
          f.outcome).1
          (runs_so (program_code_machine prelude ss tables.object) (heap_host program) n the_module (module_names program) (module_world program) f.outcome
          f.work f.does);
      work = f.work;
      code_runs = record { numbers_fit = (fit_of prelude first of_prelude, fit_of ss script of_script); fits = fits; object = tables.object; are_code = are_code; does = f.does };
      units = f.units;
      instructions = f.instructions;
      depth = f.depth;
      ends = f.ends;
      took = f.took;
    }

    pub broke_off : (why : WriteErr) → coded.BrokeOff code_run n events out_old out_new log_old log_new why
        → ScriptBrokeOff prelude ss n events out_old out_new log_old log_new why
    unfolding code_run
    broke_off why b = record {
      written = b.written;
      first = program_code_writes_nothing_else value.None prelude ss tables.object are_objects (heap_host program) n (module_names program)
          (module_world program) b.written b.writes_first;
      took = b.took;
    }

    -- what the run of code says of each run that is ready
    module _ (m : Machine) (is_it : IsReady l.tables n m code_run) where
      pub all_finished : (x : Result Ended WriteErr)
          → IfOk x (λ e. (r : ModuleRun) → IsReady l.tables n m r → coded.Finished r n events e out_old out_new log_old log_new)
          → IfOk x (ScriptFinished prelude ss n events out_old out_new log_old log_new)
      all_finished (Ok e) says = finished e (says code_run is_it)
      all_finished (Err e) says = tt

      pub all_broke_off : (x : Result Ended WriteErr)
          → IfErr x (λ why. (r : ModuleRun) → IsReady l.tables n m r → coded.BrokeOff r n events out_old out_new log_old log_new why)
          → IfErr x (ScriptBrokeOff prelude ss n events out_old out_new log_old log_new)
      all_broke_off (Ok e) says = tt
      all_broke_off (Err e) says = broke_off e (says code_run is_it)
