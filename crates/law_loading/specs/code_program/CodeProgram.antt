-- What a host knows of a code: of each block what its code object tells, and the texts of constants (Language Reference 3.2.13.1, 4.2; Library
-- Reference, "inspect": code objects). The run of a code begins in its module, which has number 0 and stands for a number that the code doesn't have.
use Rattle.std.specs.Prelude.{◌≡◌, ℕ, [], Bool, false, if◌then◌else◌, List, slice_get, Option, Some, None}
use Rattle.pt_tree.specs.Syntax.{Name}
use Rattle.pt_heap.specs.declared.value.Value.{Value}
use Rattle.pt_code.specs.declared.CodeBlock.{CodeBlock}
use Rattle.pt_code.specs.declared.Code.{Code}
use Rattle.sem_code.specs.slots.CodeObject.{CodeObject}
use Rattle.sem_code.specs.slots.BlockObject.{IsBlockObject}
use Rattle.sem_code_machine.specs.code_machine.CodeBlocks.{CodeBlocks}
use Rattle.pt_builtins.specs.pt_host.World.{CodeFacts, Program}
use Rattle.pt_code_loader.specs.pt_code_tables.pt_machine_state.pt_code_facts.sem_rows.heap_rows.Leads.{HasHeapTruths, HasHeapExtras}
use Rattle.pt_code_loader.specs.pt_code_tables.pt_machine_state.pt_code_facts.Facts.{facts_of, facts_view}
use Rattle.pt_code_loader.specs.Texts.{program_texts}
use Rattle.pt_code_loader.specs.Loaded.{iterates}
pub use Rattle.law_compile.specs.script_runs.Blocks.{number_or_module, the_module}

abbrev pub number_in : Code → (number : ℕ) → ℕ
number_in c n = number_or_module (slice_get c.blocks n) n

-- a code without blocks has no file
abbrev pub no_facts : CodeFacts
no_facts = record {
  name = [];
  first_line = 0;
  params = record { plain = []; only = []; star = false; stars = false; defaults = [] };
  locals = [];
  cells = [];
  frees = [];
  yields = false;
}

abbrev pub facts_by : (texts : List Name) → Option CodeBlock → CodeFacts
facts_by texts (Some b) = facts_view (facts_of texts b)
facts_by texts None = no_facts

abbrev pub iterates_by : Option CodeBlock → Bool
iterates_by (Some b) = iterates b.kind
iterates_by None = false

-- code objects of the blocks of a code, which know the None, True and False of the heap; operations that no tree asks for leave the profile
pub record AreObjectsOf (c : Code) (object : ℕ → CodeObject Value) : Type 0 where
  pub of_blocks : (n : ℕ) (b : CodeBlock) → slice_get c.blocks n ≡ Some b → IsBlockObject c b (object n)
  pub truths : (n : ℕ) → HasHeapTruths (object n)
  pub extras : (n : ℕ) → HasHeapExtras (object n)

-- a code over a prelude, whose blocks are hidden
module _ (prelude c : Code) where
  abbrev pub code_in : (hidden : Bool) → Code
  code_in hidden = if hidden then prelude else c

  -- texts stand in the order in which the prelude and then the code has its constants; where it was read from is said beside (`read_from`)
  abbrev pub program_of_code : Program
  program_of_code = record {
    facts = λ b. facts_by (code_in b.hidden).texts (slice_get (code_in b.hidden).blocks (number_in (code_in b.hidden) b.number));
    texts = program_texts prelude c;
    file = [];
    source = None;
  }

  abbrev pub code_blocks : (object : (hidden : Bool) (n : ℕ) → CodeObject Value) → CodeBlocks Value
  code_blocks object = record {
    object = λ b. object b.hidden (number_in (code_in b.hidden) b.number);
    iterates = λ b. iterates_by (slice_get (code_in b.hidden).blocks (number_in (code_in b.hidden) b.number));
  }
