-- What is raised of names without a value, and when code does with names what rows say (Language Reference 4.2.2, 7.2, 7.5).
use Rattle.std.specs.Prelude.{◌≡◌, ℕ, Bool, ◌==◌, ◌<◌, ◌++◌, List, [], ◌∷◌, if◌then◌else◌, length, Option, Some, None, slice_get, slice_set}
use Rattle.std.specs.Option.{option_flatten}
use Rattle.pt_tree.specs.Syntax.{Name}
use Rattle.sem_control.specs.control.Turn as T
use Rattle.sem_control.specs.control.Turn.{Scope, Variable}
use Rattle.pt_instr.specs.declared.Instr.{Instr}
use Rattle.pt_heap.specs.declared.value.Value.{Value}
use Rattle.pt_names.specs.Names.{Named, name_value}
use Rattle.pt_frames.specs.declared.slot.Slot.{Slot}
use Rattle.pt_builtins.specs.pt_host.World.{CodeFacts, World, Stores, in_world}
use Rattle.pt_builtins.specs.pt_host.Texts.{unbound_text, unbound_class}
use Rattle.pt_builtins.specs.pt_host.Builtins.{meaning}
use Rattle.pt_moves.specs.sem_rows.declared.heap_rows.progress.Progress.{Progress}
use Rattle.pt_moves.specs.sem_rows.declared.heap_rows.progress.Progress.TheVariants as progress
use Rattle.pt_moves.specs.sem_rows.heap_rows.RowsIn.{RowsIn, Standpoint}
use Rattle.pt_moves.specs.sem_rows.heap_rows.Views.{stores_in}
use Rattle.pt_moves.specs.sem_rows.variables.Numbers.{cell_variable, KnowsNames, HasLocals, HasCells}
use Rattle.pt_code_facts.specs.declared.facts.BlockFacts.{BlockFacts}
use Rattle.pt_code_facts.specs.Facts.{facts_view}
use Rattle.pt_builtins.specs.declared.BuiltinLookup.{BuiltinLookup}
use Rattle.pt_builtins.specs.Lookups.{builtin_view}

-- what stands behind the dot that a text begins with
abbrev pub behind_dot : List ℕ → Option (List ℕ)
behind_dot [] = None
behind_dot (c ∷ cs) = if c == 46 then Some cs else None

-- a name of this scope has no value
abbrev pub unbound : Scope → Name → Progress
unbound s x = progress.FailsSaying (unbound_class s) (unbound_text s x)

abbrev pub local_unbound : Name → Progress
local_unbound x = unbound T.local x

abbrev pub free_unbound : Name → Progress
free_unbound x = unbound T.free x

abbrev pub global_unbound : Name → Progress
global_unbound x = unbound T.global x

abbrev pub cell_unbound : CodeFacts → (number : ℕ) → Progress
cell_unbound facts n = unbound (cell_variable facts n).scope (cell_variable facts n).name

-- what stands in the cell of a name
abbrev pub value_of_cell : List (Option Value) → Option ℕ → Option Value
value_of_cell cells (Some c) = option_flatten (slice_get cells c)
value_of_cell cells None = None

abbrev pub value_through : (own : List ℕ) → (cells : List (Option Value)) → (number : ℕ) → Option Value
value_through own cells n = value_of_cell cells (slice_get own n)

abbrev pub with_value : Option ℕ → Option Value → (cells : List (Option Value)) → List (Option Value)
with_value (Some c) v cells = slice_set cells c v
with_value None v cells = cells

abbrev pub with_cells : List (Option Value) → World → World
with_cells cells w = record w { cells = cells }

abbrev pub with_globals : Named → Stores → Stores
with_globals globals st = in_world (record st.world { globals = globals }) st

-- what code did with the slots and the local names is the row of an instruction that names one of them, in code of the block, which
-- has a place for each and no name twice
unfoldable pub RowsLocal : BlockFacts → (number : ℕ) → Instr → (old : List Slot) (locals : List (Option Value)) → Progress → (new : List Slot) (changed : List (Option Value)) → Type 0
RowsLocal facts n j old locals p new changed =
    (own : List ℕ) (of_class : Named) (w : World) → HasLocals (facts_view facts) locals → n < length facts.locals
    → RowsIn (λ s. KnowsNames s.code (facts_view facts)) j old (stores_in (facts_view facts) locals own of_class w) p new (stores_in (facts_view facts) changed own of_class w)

-- the same of cell and free names: what cells hold changes
unfoldable pub RowsCell : BlockFacts → (own : List ℕ) → (number : ℕ) → Instr → (old : List Slot) (cells : List (Option Value)) → Progress → (new : List Slot) (changed : List (Option Value)) → Type 0
RowsCell facts own n j old cells p new changed =
    (locals : List (Option Value)) (of_class : Named) (w : World) → HasCells (facts_view facts) own → n < length (facts.cells ++ facts.frees)
    → RowsIn (λ s. KnowsNames s.code (facts_view facts)) j old (stores_in (facts_view facts) locals own of_class (with_cells cells w))
    p new (stores_in (facts_view facts) locals own of_class (with_cells changed w))

-- and where a cell name may have another cell
unfoldable pub RowsOwnCell : BlockFacts → (number : ℕ) → Instr → (own : List ℕ) (cells : List (Option Value)) → Progress → (changed_own : List ℕ) (changed : List (Option Value)) → Type 0
RowsOwnCell facts n j own cells p changed_own changed =
    (slots : List Slot) (locals : List (Option Value)) (of_class : Named) (w : World) → HasCells (facts_view facts) own → n < length (facts.cells ++ facts.frees)
    → RowsIn (λ s. KnowsNames s.code (facts_view facts)) j slots (stores_in (facts_view facts) locals own of_class (with_cells cells w))
    p slots (stores_in (facts_view facts) locals changed_own of_class (with_cells changed w))

-- of names of the module, where the operand names this text
unfoldable pub RowsGlobal : Name → Instr → (text : ℕ) → (old : List Slot) (globals : Named) → Progress → (new : List Slot) (changed : Named) → Type 0
RowsGlobal x j t old globals p new changed =
    (st : Stores) → RowsIn (λ s. s.code.pool.text t ≡ x) j old (with_globals globals st) p new (with_globals changed st)

-- a hidden block sees no name of the module
abbrev pub seen_value : (hidden : Bool) → Name → (globals : Named) → Option Value
seen_value hidden x globals = if hidden then None else name_value x globals

-- the operand names this text, in a hidden block or in another
pub record NamesText (hidden : Bool) (x : Name) (text : ℕ) (s : Standpoint) : Type 0 where
  pub is_text : s.code.pool.text text ≡ x
  pub is_hidden : s.here.block.hidden ≡ hidden

-- a name is loaded, of which is known what it means by itself
unfoldable pub RowsLoadGlobal : (hidden : Bool) → Name → BuiltinLookup → Instr → (text : ℕ) → (old : List Slot) (globals : Named) → Progress → (new : List Slot) → Type 0
RowsLoadGlobal hidden x b j t old globals p new =
    (st : Stores) → builtin_view b ≡ meaning hidden x → RowsIn (NamesText hidden x t) j old (with_globals globals st) p new (with_globals globals st)
