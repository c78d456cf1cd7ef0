-- What the law says of the starts of a script's code (Library Reference, "inspect": `f_lineno`).
use Rattle.std.specs.Prelude.{◌≡◌, ℕ, Some, None}
use Rattle.pt_tree.specs.Syntax.{Stms}
use Rattle.pt_scopes.specs.Mentions.{places_script}
use Rattle.pt_scopes.specs.Refusals.{fault_of}
use Rattle.sem_control.specs.control.Jump.{Target, starts_of, on_line}
use Rattle.sem_names.specs.Around.{around_of}
use Rattle.sem_code.specs.comp.Surroundings.{Surroundings}
use Rattle.sem_fits.specs.fits.Block as F
use Rattle.law_pieces.specs.piece_kinds.Table.{next_of}
use Rattle.sem_run.specs.run.Machine.{BlockId}
use Rattle.sem_run.specs.run.Source.{Source}
use Rattle.law_code_runs.specs.code_run.CodeMachine.{CodeSource}
use Rattle.law_code_runs.specs.code_run.Parts.{StartsInParts}
use Rattle.law_code_runs.specs.code_follows.Laws.{HasItsFreeNames, IsOfScript}
use Rattle.law_parts.specs.part_slots.Text.{Code_grammatical, Code_else_apart}
use Rattle.law_typed_pieces.specs.script_tables.Laws.{around_block, block_in}
use Rattle.law_parts.specs.script_parts.Laws.{HasLeastStarts}
use Rattle.law_jumps.specs.start_nests.Loops.{ending_in, loops_of_code}

module _ {V : Type 0} (null : V) (ss : Stms) (source : Source V) (code : CodeSource V) (b : BlockId) (of : IsOfScript null ss source code b) where
  -- the block of the code object, as it is asked whether it fits
  abbrev pub own_block : F.Block
  own_block = block_in ss of.has_object.layout (code.object b)

  -- in which surroundings its `finally` parts let go on what they hold
  abbrev pub own_ending : (tried : ℕ) → Surroundings
  own_ending t = ending_in (loops_of_code (around_of null ss of.number) (next_of own_block) of.block.code) t

  -- its parts, with the least places of its lines
  abbrev pub HasOwnParts : Type 0
  HasOwnParts = HasLeastStarts (around_block ss of.number) of.block.code own_block

-- the first statement on a line starts in its parts, and from there code goes on as control does
abbrev pub ScriptStartsInParts : (V : Type 0) → Type 0
ScriptStartsInParts V = (null : V) (ss : Stms) (source : Source V) (code : CodeSource V) (b : BlockId) → fault_of (places_script ss) ≡ None → HasItsFreeNames ss
    → (of : IsOfScript null ss source code b) (parts : HasOwnParts null ss source code b of) → Code_grammatical of.block.code → Code_else_apart of.block.code
    → (line : ℕ) (t : Target) → on_line line (starts_of (source.code b)) ≡ Some t
    → StartsInParts source code b (own_block null ss source code b of) parts.parts.part (own_ending null ss source code b of) line t
