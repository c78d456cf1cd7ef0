-- What the law says of the code of a script beside the script.
use Rattle.std.specs.Prelude.{◌≡◌, ℕ, false, slice_get, Some, None}
use Rattle.pt_tree.specs.Syntax.{Stms}
use Rattle.pt_tree.specs.Blocks.{Block, blocks_script, yields}
use Rattle.pt_scopes.specs.Mentions.{places_script}
use Rattle.pt_scopes.specs.Refusals.{fault_of}
use Rattle.sem_code.specs.slots.CodeObject.{CodeObject}
use Rattle.sem_code.specs.slots.Slots.{State}
use Rattle.sem_run.specs.run.Machine.{Machine}
use Rattle.sem_run.specs.run.Host.{Host}
use Rattle.sem_run.specs.run.Run as R
use Rattle.sem_run.specs.run.Run.{nobody}
use Rattle.sem_run.specs.run.Laws.{session}
use Rattle.sem_run.specs.run.Source as control
use Rattle.pt_bare_runs.specs.Strides as bare
use Rattle.pt_bare_runs.specs.Strides.{Outcome}
use Rattle.pt_bare_runs.specs.Laws.{IsAlike, NeverStuck, OpensOnly}
use Rattle.sem_code_machine.specs.code_machine.CodeBlocks as coded
use Rattle.pt_bare_code.specs.law_code_runs.code_follows.Laws.{HasObject, HasItsFreeNames}
use Rattle.pt_bare_code.specs.Turns.{HaveTheSameBareRuns, IsStuckNowhereElse, WritesNothingElse}
use Rattle.law_compile.specs.script_runs.Blocks.{script_trees, script_code, the_module}

abbrev pub tree_machine : {V : Type 0} → (null : V) → Stms → Machine (control.Position V) V
tree_machine null ss = control.machine (script_trees ss null)

abbrev pub code_machine : {V : Type 0} → Stms → (object : ℕ → CodeObject V) → Machine (State V) V
code_machine ss object = coded.machine (script_code ss object)

-- a script without a fault in its declarations, and code objects of its blocks, by their numbers, over values with this None
pub record AreItsObjects {V : Type 0} (null : V) (ss : Stms) (object : ℕ → CodeObject V) : Type 0 where
  pub no_fault : fault_of (places_script ss) ≡ None
  pub free_names : HasItsFreeNames ss
  pub of_blocks : (n : ℕ) (block : Block) → slice_get (blocks_script ss) n ≡ Some block → HasObject null ss n block (object n)

module _ (N V W : Type 0) where
  -- the code has the bare runs of the script
  abbrev pub ScriptHasItsBareRuns : Type 0
  ScriptHasItsBareRuns = (null : V) (ss : Stms) (object : ℕ → CodeObject V) → AreItsObjects null ss object → (host : Host N V W) (n : ℕ) (names : N)
      (world : W) → HaveTheSameBareRuns (tree_machine null ss) (code_machine ss object) host n the_module names world

  -- and it is never stuck if the script isn't
  abbrev pub CodeIsStuckNowhereElse : Type 0
  CodeIsStuckNowhereElse = (null : V) (ss : Stms) (object : ℕ → CodeObject V) → AreItsObjects null ss object → (host : Host N V W) (n : ℕ) (names : N)
      (world : W) → IsStuckNowhereElse (tree_machine null ss) (code_machine ss object) host n the_module names world

  -- and also where it comes to no outcome, the script writes first what it writes first
  abbrev pub CodeWritesNothingElse : Type 0
  CodeWritesNothingElse = (null : V) (ss : Stms) (object : ℕ → CodeObject V) → AreItsObjects null ss object → (host : Host N V W) (n : ℕ) (names : N)
      (world : W) → WritesNothingElse (tree_machine null ss) (code_machine ss object) host n the_module names world

  -- so it is never stuck where no block gives a value on, over a host that requests nothing but that blocks run
  abbrev pub CodeIsNeverStuck : Type 0
  CodeIsNeverStuck = (null : V) (ss : Stms) (object : ℕ → CodeObject V) → AreItsObjects null ss object
      → ((k : ℕ) (block : Block) → slice_get (blocks_script ss) k ≡ Some block → yields block.code ≡ false) → (host : Host N V W) → OpensOnly host
      → (n : ℕ) (names : N) (world : W) → NeverStuck (code_machine ss object) host n the_module names world

  -- so where a bare run of the code comes to an outcome, the run of the script in which nobody is asked comes to one that is alike
  abbrev pub CodeRunsAsItsScript : Type 0
  CodeRunsAsItsScript = (null : V) (ss : Stms) (object : ℕ → CodeObject V) → AreItsObjects null ss object → (host : Host N V W) (n : ℕ) (names : N)
      (world : W) (o : Outcome V W) → bare.Runs (code_machine ss object) host n the_module names world o
      → (p : R.Outcome (Unit {0}) N V W) × R.Runs (tree_machine null ss) host nobody n (session (tree_machine null ss) the_module names world tt) p × IsAlike p o
