-- The run of a code over a prelude comes to one outcome, whatever code objects of their blocks it runs.
use Rattle.std.proofs.Common.{◌≡◌, ℕ, length, Bool, true, false, Option, Some, refl, sym, ap, ◌∙◌, subst, if◌then◌else◌}
use Rattle.std.specs.Prelude.{slice_get}
use Rattle.pt_instr.specs.Effects.{Kinds}
use Rattle.pt_heap.specs.declared.value.Value.{Value}
use Rattle.pt_code.specs.declared.BlockKind.{BlockKind}
use Rattle.pt_code.specs.declared.BlockKind.TheVariants as kind
use Rattle.pt_code.specs.declared.CodeBlock.{CodeBlock}
use Rattle.pt_code.specs.declared.Code.{Code}
use Rattle.pt_code.specs.View.{Ins}
use Rattle.pt_code.proofs.OneView.{one_view}
use Rattle.sem_control.specs.control.Turn.{Turn}
use Rattle.sem_code.specs.slots.Slots.{State}
use Rattle.sem_code.specs.slots.CodeObject.{CodeObject}
use Rattle.sem_code.specs.slots.BlockObject.{IsBlockObject}
use Rattle.sem_code.specs.slots.Machine as slots
use Rattle.sem_fits.specs.fits.Block.{Block, block_of, kinds_at_start}
use Rattle.sem_fits.specs.fits.Places.{Gets}
use Rattle.sem_fits.specs.fits.Fits.{Fits}
use Rattle.sem_fits.specs.fits.Laws as laws
use Rattle.sem_fits.specs.fits.Laws.{Runs, Sound, Starts}
use Rattle.pt_verify_depths.proofs.ObjectRuns.{object_runs}
use Rattle.sem_run.specs.run.Machine.{BlockId, Machine, refuses, not_at_line}
use Rattle.sem_run.specs.run.Source.{or_null}
use Rattle.sem_code.specs.comp_expr.Law.{active_at}
use Rattle.sem_rows.specs.pt_host.World.{Names, Program, World}
use Rattle.sem_rows.specs.pt_host.Calls.{module_names, module_world}
use Rattle.sem_rows.specs.pt_host.HeapHost.{heap_host}
use Rattle.pt_bare_runs.specs.Strides as bare
use Rattle.pt_bare_runs.specs.Strides.{Outcome, take_turn}
use Rattle.pt_bare_writes.proofs.FrontLemmas.{outcomes_begin_so}
use Rattle.sem_rows.specs.sem_code_machine.code_machine.CodeBlocks.{machine, start_of}
use Rattle.pt_prog.specs.pt_run_script.pt_run_code.pt_code_loader.Loaded.{iterates}
use Rattle.law_fits.proofs.Runs.{starts_sound}
use Rattle.pt_prog.specs.pt_run_script.pt_run_code.pt_runner.Work.{Work, RunDoes}
use Rattle.pt_prog.proofs.pt_run_script.pt_run_code.pt_runner.GoesTo.{does_one_work, runs_so}
use Rattle.pt_prog.specs.pt_run_script.pt_run_code.law_loading.code_program.CodeProgram.{AreObjectsOf, code_blocks, code_in, iterates_by, number_in, program_of_code, the_module}
use Rattle.pt_prog.proofs.pt_run_script.pt_run_code.law_loading.code_program.Objects.{at_number, begins}
use Rattle.pt_prog.specs.pt_run_script.pt_run_code.CodeRun.{nothing, of_run}
use Rattle.law_program.specs.code_ends.Laws.{CodeRunsToOneOutcome, IsVerified, OutcomeBeginsWithFirstWrites}
use Rattle.law_program.proofs.code_ends.Strides.{TurnIn}
use Rattle.law_program.proofs.code_ends.Turns as turns
use Rattle.law_program.proofs.code_ends.Turns.{turns_alike}
use Rattle.law_program.proofs.code_ends.Fitting.{sound_alike, turn_in}
use Rattle.law_program.proofs.code_ends.Outside.{alike_strides, extras_leave}
use Rattle.law_program.proofs.code_ends.Runs.{run_does_too}

-- a block begins with the slots of its kind
starts_by : (b : Block) (i : Ins) → b.at 0 ≡ Some i → (k : BlockKind) → b.kind ≡ k → (null : Value) (iterator : Option Value)
    → Starts b (if iterates k then slots.start_generator (or_null null iterator) else slots.start)
starts_by b i e kind.GeneratorExpression is null iterator = laws.iterating i e (ap kinds_at_start is) _
starts_by b i e kind.Module is null iterator = laws.empty i e (ap kinds_at_start is)
starts_by b i e kind.Function is null iterator = laws.empty i e (ap kinds_at_start is)
starts_by b i e kind.Generator is null iterator = laws.empty i e (ap kinds_at_start is)
starts_by b i e kind.Class is null iterator = laws.empty i e (ap kinds_at_start is)

-- of a prelude and a code over it
module _ (prelude c : Code) (both : (hidden : Bool) → IsVerified (code_in prelude c hidden)) where
  abbrev code : BlockId → Code
  code b = code_in prelude c b.hidden

  abbrev number : BlockId → ℕ
  number b = number_in (code b) b.number

  abbrev block : BlockId → CodeBlock
  block b = (at_number (code b) (both b.hidden).has_file b.number).0

  there : (b : BlockId) → slice_get (code b).blocks (number b) ≡ Some (block b)
  there b = (at_number (code b) (both b.hidden).has_file b.number).1

  abbrev Objects : Type 0
  Objects = (hidden : Bool) → ℕ → CodeObject Value

  abbrev AreObjects : Objects → Type 0
  AreObjects object = (hidden : Bool) → AreObjectsOf (code_in prelude c hidden) (object hidden)

  abbrev program : Program
  program = program_of_code prelude c

  module _ (object : Objects) (are : AreObjects object) where
    abbrev object_of : BlockId → CodeObject Value
    object_of b = object b.hidden (number b)

    abbrev blocks : BlockId → Block
    blocks b = block_of (code b) (block b) (object_of b).at

    is : (b : BlockId) → IsBlockObject (code b) (block b) (object_of b)
    is b = (are b.hidden).of_blocks (number b) (block b) (there b)

    starts : (b : BlockId) (iterator : Option Value) → Starts (blocks b) (start_of (code_blocks prelude c object) b iterator)
    starts b iterator =
        let first = begins (code b) (both b.hidden).has_file (number b) (block b) (there b) (object_of b).at (is b).view in
        subst (λ (t : Bool). Starts (blocks b) (if t then slots.start_generator (or_null (object_of b).null iterator) else slots.start))
        (sym (ap iterates_by (there b))) (starts_by (blocks b) first.0 first.1 (block b).kind refl (object_of b).null iterator)

    fits : (b : BlockId) → Fits (blocks b)
    fits b = (both b.hidden).fit (number b) (block b) (there b) (object_of b).at (is b).view

    runs : (b : BlockId) → Runs (object_of b) (blocks b)
    runs b = object_runs Value (code b) (block b) (object_of b) (is b) (fits b)

  -- two families of code objects
  module _ (object other : Objects) (are : AreObjects object) (too : AreObjects other) where
    abbrev one : BlockId → CodeObject Value
    one b = object b.hidden (number b)

    abbrev two : BlockId → CodeObject Value
    two b = other b.hidden (number b)

    same_null : (b : BlockId) → (one b).null ≡ (two b).null
    same_null b = ((are b.hidden).truths (number b)).null ∙ sym ((too b.hidden).truths (number b)).null

    same_at : (b : BlockId) → (one b).at ≡ (two b).at
    same_at b = one_view (block b) (one b).at (two b).at (is object are b).view (is other too b).view

    -- they differ in no more than how many slots they know and in operations that aren't supported
    same_object : (b : BlockId) → turns.other (one b) (two b).depth_at (two b).extras ≡ two b
    same_object b = λ j. record {
      at = same_at b j;
      depth_at = (two b).depth_at;
      pool = ((is object are b).pool ∙ sym (is other too b).pool) j;
      extras = (two b).extras;
      null = same_null b j;
      truth = λ t. (((are b.hidden).truths (number b)).truth t ∙ sym (((too b.hidden).truths (number b)).truth t)) j;
      is_truth = λ v. (((are b.hidden).truths (number b)).is_truth v ∙ sym (((too b.hidden).truths (number b)).is_truth v)) j;
    }

    abbrev first : Machine (State Value) Value
    first = machine (code_blocks prelude c object)

    abbrev turn : BlockId → State Value → Turn (State Value) Value
    turn b s = slots.turn (two b) s

    abbrev second : Machine (State Value) Value
    second = record first { turn = turn }

    second_is : machine (code_blocks prelude c other) ≡ second
    second_is = λ j. record {
      start = λ b iterator. if iterates_by (slice_get (code b).blocks (number b)) then slots.start_generator (or_null (sym (same_null b) j) iterator) else slots.start;
      turn = turn;
      jump = λ b t l. refuses not_at_line;
      active = active_at;
      destination = λ b t. 0;
    }

    depths : (b : BlockId) (pc : ℕ) (ks : Kinds) → Gets (blocks object are b) (blocks object are b).size pc ks → (two b).depth_at pc ≡ length ks
    depths b pc ks gets =
        (runs other too b).depth_at pc ks
        (subst (λ view. Gets (block_of (code b) (block b) view) (blocks object are b).size pc ks) (same_at b) gets)

    abbrev Within : BlockId → State Value → Type 0
    Within b s = Sound (blocks object are b) s

    begin : (b : BlockId) (iterator : Option Value) → Within b (first.start b iterator)
    begin b iterator = starts_sound (blocks object are b) (starts object are b iterator)

    stay : (b : BlockId) (s : State Value) → Within b s → TurnIn (Within b) (first.turn b s)
    stay b s sound = turn_in (one b) (blocks object are b) (runs object are b) (fits object are b) s sound

    alike : (n : ℕ) (b : BlockId) (s : State Value) → Within b s → (z : bare.State (State Value) Names Value World)
        → take_turn second (heap_host program) n (first.turn b s) z ≡ take_turn second (heap_host program) n (turn b s) z
    alike n b s sound z =
        alike_strides program second n (one b) (two b).depth_at (two b).extras (extras_leave (one b) ((are b.hidden).extras (number b)))
        (extras_leave (two b) ((too b.hidden).extras (number b))) (slots.turn (one b) s) (slots.turn (turns.other (one b) (two b).depth_at (two b).extras) s)
        (turns_alike (one b) (two b).depth_at (two b).extras s
        (sound_alike (one b) (blocks object are b) (runs object are b) (fits object are b) (two b).depth_at (two b).extras (depths b) s sound)) z
        ∙ ap (λ x. take_turn second (heap_host program) n (slots.turn x s) z) (same_object b)

    -- a run of the one is one of the other
    does_too : (n : ℕ) (o : Outcome Value World) (k : Work)
        → RunDoes (machine (code_blocks prelude c object)) (heap_host program) n the_module (module_names program) (module_world program) o k
        → RunDoes (machine (code_blocks prelude c other)) (heap_host program) n the_module (module_names program) (module_world program) o k
    does_too n o k d =
        subst (λ m. RunDoes m (heap_host program) n the_module (module_names program) (module_world program) o k) (sym second_is)
        (run_does_too first turn (heap_host program) n Within begin stay (alike n) the_module (module_names program) (module_world program) o k d)

-- by side
pub both_verified : (prelude c : Code) → IsVerified prelude → IsVerified c → (hidden : Bool) → IsVerified (code_in prelude c hidden)
both_verified prelude c of_prelude of_code true = of_prelude
both_verified prelude c of_prelude of_code false = of_code

pub runs_to_one_outcome : CodeRunsToOneOutcome
runs_to_one_outcome prelude c of_prelude of_code n o p k l r q =
    let program = program_of_code prelude c in
    does_one_work (machine (code_blocks prelude c q.object)) (heap_host program) n the_module (module_names program) (module_world program) o p k l
    (does_too prelude c (both_verified prelude c of_prelude of_code) r.object q.object r.are_objects q.are_objects n o k r.does) q.does

pub begins_with_first_writes : OutcomeBeginsWithFirstWrites
begins_with_first_writes prelude c of_prelude of_code n o k _ r nothing = (o.written, refl)
begins_with_first_writes prelude c of_prelude of_code n o k _ r (of_run ws cells object are writes) =
    let program = program_of_code prelude c in
    outcomes_begin_so (machine (code_blocks prelude c object)) (heap_host program) n the_module (module_names program) (module_world program) o ws
    (runs_so (machine (code_blocks prelude c object)) (heap_host program) n the_module (module_names program) (module_world program) o k
    (does_too prelude c (both_verified prelude c of_prelude of_code) r.object object r.are_objects are n o k r.does)) writes
