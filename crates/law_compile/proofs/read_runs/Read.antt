-- The code objects of a script that is read are those of its blocks.
use Rattle.std.proofs.Common.{ℕ}
use Rattle.pt_tree.specs.Syntax.{Stms}
use Rattle.pt_wide.specs.Syntax as wide
use Rattle.sem_code.specs.slots.CodeObject.{CodeObject}
use Rattle.law_front.proofs.script_numbers.Scripts.{numbered}
use Rattle.law_typed_pieces.proofs.law_operands.free_pieces.Script.{blocks_have_free_names}
use Rattle.law_compile.proofs.formed_scripts.Statements.{scripts_are_formed}
use Rattle.law_compile.proofs.script_objects.Objects.{objects_have_their_code}
use Rattle.law_compile.specs.script_runs.Laws.{AreItsObjects}
use Rattle.law_compile.proofs.script_runs.Objects.{script_has_its_bare_runs, code_of_script_writes_nothing_else, code_is_never_stuck, code_runs_as_its_script}
use Rattle.law_compile.specs.read_runs.Laws.{IsReadWith, ReadScriptHasItsBareRuns, ReadScriptWritesAsItsCode, CodeOfReadScriptIsNeverStuck, ReadScriptRunsAsItsCode}

are_its_objects : {V : Type 0} (null : V) (script : wide.Stms) (ss : Stms) (object : ℕ → CodeObject V) → IsReadWith null script ss object
    → AreItsObjects null ss object
are_its_objects null script ss object read =
    let frees = blocks_have_free_names ss read.no_fault (numbered script ss read.is_script) read.class_name_is_unused in record {
      no_fault = read.no_fault;
      free_names = frees;
      of_blocks = λ n block e.
          objects_have_their_code null ss n block (object n) read.no_fault (scripts_are_formed script ss read.is_formed read.is_script) frees
          (read.of_blocks n block e);
    }

module _ {N V W : Type 0} where
  pub read_script_has_its_bare_runs : ReadScriptHasItsBareRuns N V W
  read_script_has_its_bare_runs null script ss object read = script_has_its_bare_runs null ss object (are_its_objects null script ss object read)

  pub read_script_writes_as_its_code : ReadScriptWritesAsItsCode N V W
  read_script_writes_as_its_code null script ss object read = code_of_script_writes_nothing_else null ss object (are_its_objects null script ss object read)

  pub code_of_read_script_is_never_stuck : CodeOfReadScriptIsNeverStuck N V W
  code_of_read_script_is_never_stuck null script ss object read = code_is_never_stuck null ss object (are_its_objects null script ss object read)

  pub read_script_runs_as_its_code : ReadScriptRunsAsItsCode N V W
  read_script_runs_as_its_code null script ss object read = code_runs_as_its_script null ss object (are_its_objects null script ss object read)
