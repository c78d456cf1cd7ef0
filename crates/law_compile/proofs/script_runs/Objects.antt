-- The code objects of a script stand for its blocks, by their numbers.
use Rattle.std.proofs.Common.{◌≡◌, ℕ, Bool, true, false, Option, Some, None, refl}
use Rattle.std.specs.Prelude.{slice_get}
use Rattle.pt_tree.specs.Syntax.{Stms}
use Rattle.pt_tree.specs.Blocks.{Block, blocks_script, yields}
use Rattle.sem_names.specs.Around.{around_of}
use Rattle.sem_code.specs.slots.CodeObject.{CodeObject}
use Rattle.law_typed_pieces.specs.law_operands.law_files.sem_compile.compile.ScriptCode.{code_block}
use Rattle.pt_bare_code.specs.law_code_runs.code_run.Law.{Of}
use Rattle.pt_bare_code.specs.law_code_runs.code_follows.Laws.{iterates}
use Rattle.pt_bare_code.proofs.law_code_runs.code_follows.Objects.{blocks_have_their_code, object_of}
use Rattle.pt_bare_runs.proofs.BareRuns.{bare_runs_are_runs}
use Rattle.pt_bare_code.specs.Law.{HaveTheirCode, NoneGivesOn}
use Rattle.pt_bare_code.proofs.Coded.{has_the_bare_runs, is_stuck_nowhere_else, code_writes_nothing_else}
use Rattle.pt_bare_code.proofs.Plain.{never_stuck_where_nothing_is_given_on}
use Rattle.law_compile.specs.script_runs.Blocks.{number_or_module, code_or_module, script_trees, script_code, block_of, the_module}
use Rattle.law_compile.specs.script_runs.ProgramBlocks.{program_code, program_trees, text_of}
use Rattle.law_compile.specs.script_runs.ProgramLaws.{AreObjectsOfBoth, GiveNothingOn, ProgramHasItsBareRuns, ProgramCodeWritesNothingElse, ProgramCodeIsNeverStuck}
use Rattle.law_compile.specs.script_runs.Laws.{AreItsObjects, ScriptHasItsBareRuns, CodeIsStuckNowhereElse, CodeWritesNothingElse, CodeIsNeverStuck, CodeRunsAsItsScript, tree_machine}

module _ {V : Type 0} (null : V) (ss : Stms) (object : ℕ → CodeObject V) (are : AreItsObjects null ss object) where
  -- the object of a number stands for the block of that number, or for the module
  abbrev Stands : Option Block → ℕ → Type 0
  Stands o n =
      Of (around_of null ss (number_or_module o n)) (object (number_or_module o n)) (iterates (code_or_module ss o)) (code_or_module ss o)

  has_code : (n : ℕ) (k : Block) → slice_get (blocks_script ss) n ≡ Some k → Of (around_of null ss n) (object n) (iterates k.code) k.code
  has_code n k is =
      let h = are.of_blocks n k is in
      object_of (around_of null ss n) (object n) (code_block h.layout).starts k.code h.same_null (blocks_have_their_code null ss n k (object n) are.no_fault are.free_names h).0

  stands_by : (o : Option Block) (n : ℕ) → slice_get (blocks_script ss) n ≡ o → Stands o n
  stands_by (Some k) n e = has_code n k e
  stands_by None n e = has_code 0 _ refl

  pub have_their_code : HaveTheirCode (script_trees ss null) (script_code ss object)
  have_their_code b = stands_by (block_of ss b) b.number refl

module _ {V : Type 0} (null : V) (ss : Stms) (none : (k : ℕ) (block : Block) → slice_get (blocks_script ss) k ≡ Some block → yields block.code ≡ false)
  where
    none_by : (o : Option Block) (n : ℕ) → slice_get (blocks_script ss) n ≡ o → yields (code_or_module ss o) ≡ false
    none_by (Some k) n e = none n k e
    none_by None n e = none 0 _ refl

    pub none_gives_on : NoneGivesOn (script_trees ss null)
    none_gives_on b = none_by (block_of ss b) b.number refl

module _ {N V W : Type 0} where
  pub script_has_its_bare_runs : ScriptHasItsBareRuns N V W
  script_has_its_bare_runs null ss object are host n names world =
      has_the_bare_runs (script_trees ss null) (script_code ss object) (have_their_code null ss object are) host n the_module names world

  pub code_is_stuck_nowhere_else : CodeIsStuckNowhereElse N V W
  code_is_stuck_nowhere_else null ss object are host n names world =
      is_stuck_nowhere_else (script_trees ss null) (script_code ss object) (have_their_code null ss object are) host n the_module names world

  pub code_of_script_writes_nothing_else : CodeWritesNothingElse N V W
  code_of_script_writes_nothing_else null ss object are host n names world =
      code_writes_nothing_else (script_trees ss null) (script_code ss object) (have_their_code null ss object are) host n the_module names world

  pub code_is_never_stuck : CodeIsNeverStuck N V W
  code_is_never_stuck null ss object are none host opens n names world =
      never_stuck_where_nothing_is_given_on (script_trees ss null) (script_code ss object) (have_their_code null ss object are) (none_gives_on null ss none) host
      opens n the_module names world

  pub code_runs_as_its_script : CodeRunsAsItsScript N V W
  code_runs_as_its_script null ss object are host n names world o c =
      bare_runs_are_runs (tree_machine null ss) host n the_module names world o ((script_has_its_bare_runs null ss object are host n names world o).1 c)

-- of a prelude and of a script over it
module _ {V : Type 0} (null : V) (prelude ss : Stms) (object : (hidden : Bool) → ℕ → CodeObject V) (are : AreObjectsOfBoth null prelude ss object) where
  -- each by its own text
  both_have_their_code : HaveTheirCode (program_trees prelude ss null) (program_code prelude ss object)
  both_have_their_code b = by b.hidden
    where
      by : (hidden : Bool) → let ts = text_of prelude ss hidden in
          Of ((script_trees ts null).around b) ((script_code ts (object hidden)).object b) ((script_code ts (object hidden)).iterates b) ((script_trees ts null).code b)
      by true = have_their_code null prelude (object true) are.of_prelude b
      by false = have_their_code null ss (object false) are.of_script b

  neither_gives_on : GiveNothingOn prelude → GiveNothingOn ss → NoneGivesOn (program_trees prelude ss null)
  neither_gives_on first none b = by b.hidden
    where
      by : (hidden : Bool) → yields ((script_trees (text_of prelude ss hidden) null).code b) ≡ false
      by true = none_gives_on null prelude first b
      by false = none_gives_on null ss none b

module _ {N V W : Type 0} where
  pub program_has_its_bare_runs : ProgramHasItsBareRuns N V W
  program_has_its_bare_runs null prelude ss object are host n names world =
      has_the_bare_runs (program_trees prelude ss null) (program_code prelude ss object) (both_have_their_code null prelude ss object are) host n the_module names world

  pub program_code_writes_nothing_else : ProgramCodeWritesNothingElse N V W
  program_code_writes_nothing_else null prelude ss object are host n names world =
      code_writes_nothing_else (program_trees prelude ss null) (program_code prelude ss object) (both_have_their_code null prelude ss object are) host n the_module
      names world

  pub program_code_is_never_stuck : ProgramCodeIsNeverStuck N V W
  program_code_is_never_stuck null prelude ss object are first none host opens n names world =
      never_stuck_where_nothing_is_given_on (program_trees prelude ss null) (program_code prelude ss object) (both_have_their_code null prelude ss object are)
      (neither_gives_on null prelude ss object are first none) host opens n the_module names world
