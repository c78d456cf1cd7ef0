-- What a host knows of a script over a prelude: of each block what its code object tells (Language Reference 3.2.13.1, 4.2; Library Reference, "inspect": code
-- objects), and the texts of their constants.
use Rattle.std.specs.Prelude.{[], Bool, false, map, is_some, codes, Option, Some, None}
use Rattle.pt_tree.specs.Syntax as S
use Rattle.pt_tree.specs.Syntax.{Name, Params, Stms}
use Rattle.pt_tree.specs.Blocks as B
use Rattle.pt_tree.specs.Blocks.{Block, Code as BlockCode, no_params, yields}
use Rattle.sem_names.specs.Around.{Names, names_of}
use Rattle.sem_names.specs.BlockNames.{formal_names}
use Rattle.sem_names.specs.Script.{naming_script, spelled_in}
use Rattle.pt_bind.specs.declared.arguments.Params as arguments
use Rattle.law_typed_pieces.specs.law_operands.law_files.sem_compile.compile.ScriptCode.{code_of}
use Rattle.sem_run.specs.run.Machine.{BlockId}
use Rattle.pt_builtins.specs.pt_host.World.{CodeFacts, Program}
use Rattle.law_compile.specs.script_runs.Blocks.{block_of, number_of}
use Rattle.law_compile.specs.script_runs.ProgramBlocks.{text_of}
use Rattle.pt_code_loader.specs.Texts.{program_texts}

-- a call of a function that gives values on makes a generator (6.2.9)
abbrev pub makes_generator : BlockCode → Bool
makes_generator (B.of_function ss) = yields (B.of_function ss)
makes_generator (B.of_lambda l e) = yields (B.of_lambda l e)
makes_generator c = false

-- parameters under the names that they have in the block (6.2.1); a function object has their defaults
abbrev pub params_of : (spelled : Name → Name) → Params → arguments.Params
params_of f (S.parameters ps s ks d) = record {
  plain = map f (formal_names ps);
  only = map f (formal_names ks);
  star = is_some s;
  stars = is_some d;
  defaults = [];
}

abbrev pub facts_with : (spelled : Name → Name) → Names → Block → CodeFacts
facts_with f ns k = record {
  name = k.name;
  first_line = k.first_line;
  params = params_of f k.params;
  locals = ns.locals;
  cells = ns.cells;
  frees = ns.frees;
  yields = makes_generator k.code;
}

abbrev pub the_module_block : Stms → Block
the_module_block ss = record { name = codes "<module>"; first_line = 1; class = None; params = no_params; code = B.of_module ss }

abbrev pub block_or_module : Stms → Option Block → Block
block_or_module ss (Some k) = k
block_or_module ss None = the_module_block ss

module _ (ss : Stms) where
  abbrev pub facts_at : BlockId → CodeFacts
  facts_at b = let n = number_of ss b in facts_with (spelled_in (naming_script ss) n) (names_of ss n) (block_or_module ss (block_of ss b))

-- a script over a prelude, which is one too and whose blocks are hidden
module _ (prelude ss : Stms) where
  -- texts stand in the order in which the prelude's code and then the script's has its constants; where it was read from is said beside (`read_from`)
  abbrev pub program_of : Program
  program_of = record {
    facts = λ b. facts_at (text_of prelude ss b.hidden) b;
    texts = program_texts (code_of prelude) (code_of ss);
    file = [];
    source = None;
  }
