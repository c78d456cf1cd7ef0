-- What the law says of the code of a script that is read.
use Rattle.std.specs.Prelude.{◌≡◌, ℕ, slice_get, false, Some, None}
use Rattle.pt_tree.specs.Syntax.{Stms}
use Rattle.pt_tree.specs.Blocks.{Block, blocks_script, yields}
use Rattle.pt_wide.specs.Syntax as wide
use Rattle.pt_refine_expr.specs.StatementNarrow.{narrow_script}
use Rattle.pt_scopes.specs.Mentions.{places_script}
use Rattle.pt_scopes.specs.Refusals.{fault_of}
use Rattle.sem_code.specs.slots.CodeObject.{CodeObject}
use Rattle.sem_run.specs.run.Host.{Host}
use Rattle.sem_run.specs.run.Run as R
use Rattle.sem_run.specs.run.Run.{nobody}
use Rattle.sem_run.specs.run.Laws.{session}
use Rattle.pt_bare_runs.specs.Strides as bare
use Rattle.pt_bare_runs.specs.Strides.{Outcome}
use Rattle.pt_bare_runs.specs.Laws.{IsAlike, NeverStuck, OpensOnly}
use Rattle.law_typed_pieces.specs.law_operands.free_names.FreeNames.{ClassNameIsUnused}
use Rattle.law_compile.specs.formed_scripts.Wide as formed
use Rattle.law_compile.specs.script_objects.Laws.{HasCode}
use Rattle.pt_bare_code.specs.Turns.{HaveTheSameBareRuns, WritesNothingElse}
use Rattle.law_compile.specs.script_runs.Blocks.{the_module}
use Rattle.law_compile.specs.script_runs.Laws.{tree_machine, code_machine}

-- a script that a wide tree is, which the parser gives, without a fault in its declarations; and code objects of its code, by their numbers, over values
-- with this None. No name is `.class`, which isn't an identifier
pub record IsReadWith {V : Type 0} (null : V) (script : wide.Stms) (ss : Stms) (object : ℕ → CodeObject V) : Type 0 where
  pub is_script : narrow_script script ≡ Some ss
  pub is_formed : formed.StmsFormed script
  pub no_fault : fault_of (places_script ss) ≡ None
  pub class_name_is_unused : ClassNameIsUnused ss
  pub of_blocks : (n : ℕ) (block : Block) → slice_get (blocks_script ss) n ≡ Some block → HasCode null ss n block (object n)

module _ (N V W : Type 0) where
  abbrev pub ReadScriptHasItsBareRuns : Type 0
  ReadScriptHasItsBareRuns = (null : V) (script : wide.Stms) (ss : Stms) (object : ℕ → CodeObject V) → IsReadWith null script ss object
      → (host : Host N V W) (n : ℕ) (names : N) (world : W) → HaveTheSameBareRuns (tree_machine null ss) (code_machine ss object) host n the_module names world

  -- also where the code comes to no outcome, the script writes first what it writes first
  abbrev pub ReadScriptWritesAsItsCode : Type 0
  ReadScriptWritesAsItsCode = (null : V) (script : wide.Stms) (ss : Stms) (object : ℕ → CodeObject V) → IsReadWith null script ss object
      → (host : Host N V W) (n : ℕ) (names : N) (world : W) → WritesNothingElse (tree_machine null ss) (code_machine ss object) host n the_module names world

  -- the code is never stuck, where no block gives a value on and the host requests nothing but that blocks run
  abbrev pub CodeOfReadScriptIsNeverStuck : Type 0
  CodeOfReadScriptIsNeverStuck = (null : V) (script : wide.Stms) (ss : Stms) (object : ℕ → CodeObject V) → IsReadWith null script ss object
      → ((k : ℕ) (block : Block) → slice_get (blocks_script ss) k ≡ Some block → yields block.code ≡ false) → (host : Host N V W) → OpensOnly host
      → (n : ℕ) (names : N) (world : W) → NeverStuck (code_machine ss object) host n the_module names world

  abbrev pub ReadScriptRunsAsItsCode : Type 0
  ReadScriptRunsAsItsCode = (null : V) (script : wide.Stms) (ss : Stms) (object : ℕ → CodeObject V) → IsReadWith null script ss object
      → (host : Host N V W) (n : ℕ) (names : N) (world : W) (o : Outcome V W) → bare.Runs (code_machine ss object) host n the_module names world o
      → (p : R.Outcome (Unit {0}) N V W) × R.Runs (tree_machine null ss) host nobody n (session (tree_machine null ss) the_module names world tt) p × IsAlike p o
