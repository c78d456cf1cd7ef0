-- What a code tells of its blocks beside what they run (Library Reference, "inspect": code objects; Language Reference 3.2.13.1).
use Rattle.std.specs.Prelude.{◌≡◌, ℕ, List, [], Bool, true, false, map, take, drop, if◌then◌else◌}
use Rattle.pt_tree.specs.Syntax.{Name}
use Rattle.pt_heap.specs.declared.value.Value.{Value}
use Rattle.pt_bind.specs.declared.arguments.Params.{Params}
use Rattle.pt_instr.specs.declared.TextNo.{TextNo}
use Rattle.pt_code.specs.declared.BlockKind.{BlockKind}
use Rattle.pt_code.specs.declared.BlockKind.TheVariants as kind
use Rattle.pt_code.specs.declared.CodeBlock.{CodeBlock}
use Rattle.pt_code.specs.declared.Code.{Code}
use Rattle.sem_code.specs.slots.BlockObject.{text_in, pool_of}
use Rattle.sem_code.specs.slots.CodeObject.{CodeObject}
use Rattle.sem_run.specs.run.Machine as M
use Rattle.sem_rows.specs.pt_host.World.{CodeFacts, Program}
use Rattle.sem_rows.specs.variables.Numbers.{KnowsNames}
use Rattle.pt_code_facts.specs.declared.facts.BlockFacts.{BlockFacts}
use Rattle.pt_code_facts.specs.declared.facts.Blocks.{Blocks}
use Rattle.pt_code_facts.specs.declared.facts.SideFacts.{SideFacts}
use Rattle.pt_code_facts.specs.Numbered.{by_number}

-- as a host has them
abbrev pub facts_view : BlockFacts → CodeFacts
facts_view f = record {
  name = f.name;
  first_line = f.first_line.0;
  params = f.params;
  locals = f.locals;
  cells = f.cells;
  frees = f.frees;
  yields = f.yields;
}

abbrev pub named_texts : (texts : List Name) → List TextNo → List Name
named_texts texts xs = map (λ x. text_in texts x.0) xs

abbrev pub is_generator : BlockKind → Bool
is_generator kind.Generator = true
is_generator k = false

-- the plain parameters stand first among the local names, then those that a name alone fills; defaults stand in function objects
abbrev pub params_of : (texts : List Name) → CodeBlock → Params
params_of texts b = record {
  plain = named_texts texts (take b.parameters b.locals);
  only = named_texts texts (take b.keyword_only (drop b.parameters b.locals));
  star = b.rest.positional;
  stars = b.rest.named;
  defaults = [];
}

abbrev pub facts_of : (texts : List Name) → CodeBlock → BlockFacts
facts_of texts b = record {
  name = text_in texts b.name.0;
  first_line = b.first_line;
  params = params_of texts b;
  locals = named_texts texts b.locals;
  cells = named_texts texts b.cells;
  frees = named_texts texts b.free;
  yields = is_generator b.kind;
}

abbrev pub blocks_of : (texts : List Name) → List CodeBlock → List BlockFacts
blocks_of texts bs = map (facts_of texts) bs

-- those of a code by their numbers; hidden ones are the prelude's
abbrev pub facts_in : SideFacts → (number : ℕ) → BlockFacts
facts_in s n = by_number s.of_module s.others n

abbrev pub side_facts : Blocks → (hidden : Bool) → SideFacts
side_facts bs hidden = if hidden then bs.prelude else bs.script

abbrev pub facts_at : Blocks → M.BlockId → BlockFacts
facts_at bs b = facts_in (side_facts bs b.hidden) b.number

-- the blocks of a program
abbrev pub KnowsBlocks : Program → Blocks → Type 0
KnowsBlocks program bs = (b : M.BlockId) → program.facts b ≡ facts_view (facts_at bs b)

abbrev pub FactsKnowNames : Type 0
FactsKnowNames = (c : Code) (b : CodeBlock) (object : CodeObject Value) → object.pool ≡ pool_of c b → KnowsNames object (facts_view (facts_of c.texts b))
