-- The code of a script that a text is can be listed, and has a file; and so the command writes it.
use Rattle.std.proofs.Common.{◌≡◌, ℕ, List, Result, Ok, Err, IfOk, sym, subst}
use Rattle.std.specs.List.{AllByRecursion}
use Rattle.pt_ranges.specs.Marks.{Rises}
use Rattle.pt_tree.specs.Syntax.{Stms}
use Rattle.pt_code.specs.declared.Code.{Code}
use Rattle.pt_code.specs.File.{HasFile, file}
use Rattle.pt_wide.specs.StatementFold.{stms_from}
use Rattle.sem_control.specs.numbering.Numbered.{IsNumbered}
use Rattle.law_front.proofs.script_numbers.Scripts.{numbered}
use Rattle.pt_front.specs.Text.{IsScript}
use Rattle.law_files.specs.sem_compile.compile.ScriptCode.{code_of}
use Rattle.law_files.specs.code_files.Numbers.{NumbersFit}
use Rattle.law_files.proofs.code_files.Marks.{marks_rise}
use Rattle.law_files.proofs.code_files.Whole.{script_has_file}
use Rattle.pt_listing.specs.Listing.{IsListing}
use Rattle.pt_words.specs.declared.line.Command.{Command}
use Rattle.pt_words.specs.declared.line.Command.TheVariants as command
use Rattle.pt_prog.specs.Answer.{IsCodeBy, IsWrittenBy}

module _ (text : List ℕ) (script : Stms) (is : IsScript text script) (code : Code) (has : (code ≡ code_of script) × NumbersFit code) where
  is_numbered : IsNumbered script
  is_numbered = numbered (stms_from is.are_script.wide) script is.are_script.is_narrow

  script_has_its_file : HasFile (code_of script)
  script_has_its_file = script_has_file script is_numbered is.no_fault (subst NumbersFit has.0 has.1)

  pub has_file : HasFile code
  has_file = subst HasFile (sym has.0) script_has_its_file

  -- what is written of it is the file of the script's code
  pub is_file : {X E : Type 0} (r : Result X E) (items : X → List ℕ) → IfOk r (λ v. items v ≡ file code)
      → IfOk r (λ v. HasFile (code_of script) × (items v ≡ file (code_of script)))
  is_file (Ok v) items e = (script_has_its_file, subst (λ c. items v ≡ file c) has.0 e)
  is_file (Err x) items e = tt

  pub rise : AllByRecursion (λ b. Rises b.marks) code.blocks
  rise = let P : Code → Type 0 = λ c. AllByRecursion (λ b. Rises b.marks) c.blocks in subst P (sym has.0) (marks_rise script)

module _ (k : Command) (text bytes : List ℕ) (script : Stms) (is : IsScript text script) where
  written_by : (c : Command) → k ≡ c → IsWrittenBy c (code_of script) bytes → IsCodeBy k text bytes
  written_by c same w = record { script = script; is_script = is; is_written = subst (λ d. IsWrittenBy d (code_of script) bytes) (sym same) w }

  pub by_dis : k ≡ command.Dis → IsListing (code_of script) bytes → IsCodeBy k text bytes
  by_dis same w = written_by command.Dis same w

  pub by_build : k ≡ command.Build → HasFile (code_of script) × (bytes ≡ file (code_of script)) → IsCodeBy k text bytes
  by_build same w = written_by command.Build same w
