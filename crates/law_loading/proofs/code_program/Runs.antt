-- A run of a supported code that fits is never stuck.
use Rattle.std.proofs.Common.{◌≡◌, ℕ, Bool, true, false, if◌then◌else◌, [], Option, Some, None, refl, sym, ap, ◌∙◌, subst}
use Rattle.std.specs.Prelude.{slice_get}
use Rattle.std.proofs.lemmas.Bool.{false≢true}
use Rattle.pt_heap.specs.declared.value.Value.{Value}
use Rattle.pt_code.specs.declared.BlockKind.{BlockKind}
use Rattle.pt_code.specs.declared.BlockKind.TheVariants as kind
use Rattle.pt_code.specs.declared.CodeBlock.{CodeBlock}
use Rattle.pt_code.specs.declared.Code.{Code}
use Rattle.sem_code.specs.slots.CodeObject.{CodeObject}
use Rattle.sem_code.specs.slots.BlockObject.{IsBlockObject}
use Rattle.sem_code.specs.slots.Machine as slots
use Rattle.sem_fits.specs.fits.Block.{Block, block_of, kinds_at_start}
use Rattle.sem_fits.specs.fits.Standing.{may_yield}
use Rattle.sem_fits.specs.fits.Fits.{Fits}
use Rattle.sem_fits.specs.fits.Laws.{Starts}
use Rattle.sem_fits.specs.fits.Laws as laws
use Rattle.pt_verify_depths.proofs.ObjectRuns.{object_runs}
use Rattle.sem_run.specs.run.Machine.{BlockId}
use Rattle.sem_run.specs.run.Source.{or_null}
use Rattle.pt_builtins.specs.pt_host.Calls.{module_names, module_world}
use Rattle.pt_builtins.specs.pt_host.HeapHost.{heap_host}
use Rattle.pt_bare_host.proofs.BlocksOnly.{opens_only}
use Rattle.sem_code_machine.specs.code_machine.CodeBlocks.{start_of}
use Rattle.pt_code_loader.specs.Loaded.{iterates}
use Rattle.law_fits.specs.Laws.{AreFitting}
use Rattle.law_fits.proofs.Runs.{runs_on}
use Rattle.pt_supported_code.specs.Built.{is_plain_kind}
use Rattle.law_loading.proofs.loaded_scripts.Lists.{same_some}
use Rattle.law_loading.specs.code_program.CodeProgram.{AreObjectsOf, code_blocks, code_in, iterates_by, number_in, program_of_code, the_module}
use Rattle.law_loading.specs.code_program.Laws.{IsRunnable, BuiltCodeIsNeverStuck}
use Rattle.law_loading.proofs.code_program.Objects.{at_number, begins}

-- neither a module nor a function or the body of a class gives a value on or begins with an iterator
record IsPlain (k : BlockKind) : Type 0 where
  silent : may_yield k ≡ false
  starts : kinds_at_start k ≡ []
  iterates : iterates k ≡ false

is_plain : (k : BlockKind) → is_plain_kind k ≡ true → IsPlain k
is_plain kind.Module e = record { silent = refl; starts = refl; iterates = refl }
is_plain kind.Function e = record { silent = refl; starts = refl; iterates = refl }
is_plain kind.Generator e = absurd (false≢true e)
is_plain kind.Class e = record { silent = refl; starts = refl; iterates = refl }
is_plain kind.GeneratorExpression e = absurd (false≢true e)

module _ (prelude c : Code) (object : (hidden : Bool) → ℕ → CodeObject Value) (first : IsRunnable prelude) (ready : IsRunnable c)
    (are : (hidden : Bool) → AreObjectsOf (code_in prelude c hidden) (object hidden)) where
  runnable : (hidden : Bool) → IsRunnable (code_in prelude c hidden)
  runnable true = first
  runnable false = ready

  -- the code of a block
  abbrev code : BlockId → Code
  code b = code_in prelude c b.hidden

  abbrev number : BlockId → ℕ
  number b = number_in (code b) b.number

  there : (b : BlockId) → (k : CodeBlock) × (slice_get (code b).blocks (number b) ≡ Some k)
  there b = at_number (code b) (runnable b.hidden).has_file b.number

  abbrev block : BlockId → CodeBlock
  block b = (there b).0

  abbrev own : BlockId → CodeObject Value
  own b = object b.hidden (number b)

  abbrev blocks : BlockId → Block
  blocks b = block_of (code b) (block b) (own b).at

  is : (b : BlockId) → IsBlockObject (code b) (block b) (own b)
  is b = (are b.hidden).of_blocks (number b) (block b) (there b).1

  fits : (b : BlockId) → Fits (blocks b)
  fits b = (runnable b.hidden).fit (number b) (block b) (there b).1 (own b).at (is b).view

  plain : (b : BlockId) → IsPlain (block b).kind
  plain b = is_plain (block b).kind ((runnable b.hidden).built (number b) (block b) (there b).1).is_plain

  iterates_at : (b : CodeBlock) (o : Option CodeBlock) → o ≡ Some b → iterates b.kind ≡ false → iterates_by o ≡ false
  iterates_at b (Some a) e f = ap (λ (x : CodeBlock). iterates x.kind) (same_some a b e) ∙ f
  iterates_at b None e f = refl

  starts : (b : BlockId) (iterator : Option Value) → Starts (blocks b) (start_of (code_blocks prelude c object) b iterator)
  starts b iterator =
      let first_there = begins (code b) (runnable b.hidden).has_file (number b) (block b) (there b).1 (own b).at (is b).view in
      subst (λ (t : Bool). Starts (blocks b) (if t then slots.start_generator (or_null (own b).null iterator) else slots.start))
      (sym (iterates_at (block b) (slice_get (code b).blocks (number b)) (there b).1 (plain b).iterates))
      (laws.empty first_there.0 first_there.1 (plain b).starts)

  are_fitting : AreFitting (code_blocks prelude c object) blocks
  are_fitting = record {
    runs = λ b. object_runs Value (code b) (block b) (own b) (is b) (fits b);
    fits = fits;
    starts = starts;
    gives_nothing_on = λ b. (plain b).silent;
  }

pub built_code_is_never_stuck : BuiltCodeIsNeverStuck
built_code_is_never_stuck prelude c object first ready are n =
    runs_on (code_blocks prelude c object) (blocks prelude c object first ready are) (are_fitting prelude c object first ready are)
    (heap_host (program_of_code prelude c)) (opens_only (program_of_code prelude c)) n the_module
    (module_names (program_of_code prelude c)) (module_world (program_of_code prelude c))
