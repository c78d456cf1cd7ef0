-- Each block that a run of a code file may begin in is one of the file, or of the prelude's code.
use Rattle.std.proofs.Common.{◌≡◌, ℕ, Bool, if◌then◌else◌, [], ◌∷◌, refl, sym, ap, ◌∙◌}
use Rattle.std.specs.Prelude.{slice_get}
use Rattle.pt_heap.specs.declared.value.Value.{Value}
use Rattle.pt_instr.specs.declared.kinds.Kind.TheVariants.{Iter}
use Rattle.pt_code.specs.declared.BlockKind.{BlockKind}
use Rattle.pt_code.specs.declared.BlockKind.TheVariants as kind
use Rattle.pt_code.specs.declared.Code.{Code}
use Rattle.sem_code.specs.slots.CodeObject.{CodeObject}
use Rattle.sem_fits.specs.fits.Block.{kinds_at_start}
use Rattle.sem_run.specs.run.Machine.{BlockId}
use Rattle.pt_prog.specs.pt_run_script.pt_run_code.pt_code_loader.Loaded.{iterates}
use Rattle.pt_prog.specs.pt_run_script.pt_run_code.law_loading.code_program.CodeProgram.{AreObjectsOf, code_blocks, code_in, iterates_by}
use Rattle.pt_prog.proofs.pt_run_script.pt_run_code.law_loading.code_program.Objects.{at_number, begins}
use Rattle.law_code_jumps.specs.jump_answers.Known.{SlotsKnown, KnowsCode}
use Rattle.law_verified_code.specs.Laws.{IsInCode}
use Rattle.law_verified_code.proofs.Verified.{verified_never_halts}
use Rattle.law_program.specs.code_ends.Laws.{IsVerified}
use Rattle.law_program.specs.program_runs.CodeFiles.{number_of}
use Rattle.law_program.specs.program_runs.Laws.{CodeFileNeverHalts}
use Rattle.law_program.proofs.code_ends.Ends.{both_verified}

kinds_of : (k : BlockKind) → kinds_at_start k ≡ (if iterates k then Iter ∷ [] else [])
kinds_of kind.Module = refl
kinds_of kind.Function = refl
kinds_of kind.Generator = refl
kinds_of kind.Class = refl
kinds_of kind.GeneratorExpression = refl

module _ (prelude c : Code) (both : (hidden : Bool) → IsVerified (code_in prelude c hidden))
    (object : (hidden : Bool) → ℕ → CodeObject Value)
    (are : (hidden : Bool) → AreObjectsOf (code_in prelude c hidden) (object hidden))
    (known : (hidden : Bool) → ℕ → SlotsKnown)
    (knows : (hidden : Bool) → KnowsCode (code_in prelude c hidden) (known hidden)) where
  abbrev code : BlockId → Code
  code b = code_in prelude c b.hidden

  in_code : (b : BlockId) → IsInCode (code b) (code_blocks prelude c object)
      (λ k. slice_get (code k).blocks (number_of prelude c k))
      (λ k. known k.hidden (number_of prelude c k)) b
  in_code b =
      let n = number_of prelude c b in
      let file = (both b.hidden).has_file in
      let at = at_number (code b) file b.number in
      let is = (are b.hidden).of_blocks n at.0 at.1 in
      let first = begins (code b) file n at.0 at.1 (object b.hidden n).at is.view in
      record {
        number = n;
        code_block = at.0;
        there = at.1;
        told = at.1;
        is_object = is;
        first = first.0;
        begins = first.1;
        starts = kinds_of (at.0).kind
            ∙ ap (λ o. if iterates_by o then Iter ∷ [] else []) (sym at.1);
        knows = (knows b.hidden).each n at.0 at.1 (object b.hidden n).at is.view;
      }

pub code_file_never_halts : {D N W : Type 0} → CodeFileNeverHalts D N W
code_file_never_halts prelude c first second object are known knows host ask n b names world d =
    let both = both_verified prelude c first second in
    verified_never_halts (λ k. code_in prelude c k.hidden) (λ k. (both k.hidden).fit)
    (code_blocks prelude c object) (λ k. slice_get (code_in prelude c k.hidden).blocks (number_of prelude c k))
    (λ k. known k.hidden (number_of prelude c k))
    (in_code prelude c both object are known knows) host ask n b names world d
