-- What tables made of a code have (Library Reference, "inspect": code objects; "dis").
use Rattle.std.specs.Prelude.{◌≡◌, ℕ, Bool, true, false, List, [], ◌∷◌, length, map, slice_index_or, Option}
use Rattle.pt_tree.specs.Syntax.{Name}
use Rattle.pt_heap.specs.declared.value.Value.{Value}
use Rattle.pt_code.specs.declared.BlockKind.{BlockKind}
use Rattle.pt_code.specs.declared.BlockKind.TheVariants as kind
use Rattle.pt_code.specs.declared.CodeBlock.{CodeBlock}
use Rattle.pt_code.specs.declared.Code.{Code}
use Rattle.pt_code.specs.View.{Ins, IsView}
use Rattle.pt_places.specs.PlaceTable.{HasPlaces}
use Rattle.sem_code.specs.slots.BlockObject.{text_in}
use Rattle.sem_fits.specs.fits.Block as F
use Rattle.sem_fits.specs.fits.Fits.{TooDeep}
use Rattle.pt_verify_depths.specs.Sizes.{Sized}
use Rattle.pt_verify_depths.specs.PlaceTable.{SizesDisagree}
use Rattle.pt_code_tables.specs.pt_builtins.pt_host.Builtins.{meaning}
use Rattle.pt_code_tables.specs.pt_machine_state.pt_code_facts.Facts.{blocks_of, side_facts}
use Rattle.pt_code_tables.specs.pt_builtins.Lookups.{builtin_view}
use Rattle.pt_code_tables.specs.pt_machine_state.declared.blocks.BlockCode.{BlockCode}
use Rattle.pt_code_tables.specs.pt_machine_state.declared.blocks.SideBlocks.{SideBlocks}
use Rattle.pt_code_tables.specs.pt_machine_state.pt_code_facts.declared.facts.SideFacts.{SideFacts}
use Rattle.pt_code_tables.specs.declared.tables.PoolTables.{PoolTables}
use Rattle.pt_code_tables.specs.pt_machine_state.Blocks.{side_blocks}
use Rattle.pt_code_tables.specs.Tables.{pool_in}
use Rattle.pt_code_loader.specs.declared.loading.Loaded.{Loaded}
use Rattle.pt_code_loader.specs.Texts.{program_texts, AreValues}

-- where the sizes of a block agree, a place has so many slots
abbrev pub HasDepths : F.Block → List ℕ → Type 0
HasDepths b depths = ((p : ℕ) → SizesDisagree b p → ⊥) → (pc n : ℕ) → Sized b b.size pc n → slice_index_or depths pc 0 ≡ n

-- no place gets more slots than an activation holds
abbrev pub IsShallow : F.Block → Type 0
IsShallow b = TooDeep b → ⊥

abbrev pub iterates : BlockKind → Bool
iterates kind.GeneratorExpression = true
iterates k = false

abbrev pub is_class : BlockKind → Bool
is_class kind.Class = true
is_class k = false

pub record IsLoaded (c : Code) (b : CodeBlock) (block : BlockCode) : Type 0 where
  pub name : block.name ≡ text_in c.texts b.name.0
  pub first_line : block.first_line ≡ b.first_line
  pub places : (view : ℕ → Option Ins) → IsView b view → HasPlaces view block.places
  pub handlers : block.handlers ≡ b.handlers
  pub depths : (view : ℕ → Option Ins) → IsView b view → HasDepths (F.block_of c b view) block.depths
  pub shallow : (view : ℕ → Option Ins) → IsView b view → IsShallow (F.block_of c b view)
  pub iterates : block.iterates ≡ iterates b.kind

-- each block, in their order
abbrev pub AreLoaded : Code → List CodeBlock → List BlockCode → Type 0
AreLoaded c [] [] = Unit {0}
AreLoaded c (b ∷ bs) (k ∷ ks) = IsLoaded c b k × AreLoaded c bs ks
AreLoaded c bs ks = ⊥

abbrev pub listed_texts : (texts : List Name) → List ℕ → List Name
listed_texts texts ts = map (text_in texts) ts

abbrev pub captures_of : List CodeBlock → List ℕ
captures_of bs = map (λ b. length b.free) bs

abbrev pub classes_of : List CodeBlock → List Bool
classes_of bs = map (λ b. is_class b.kind) bs

-- what its numbers name, over these values of its constants
pub record IsPoolOf (c : Code) (hidden : Bool) (vs : List Value) (pool : PoolTables) : Type 0 where
  pub constants : pool.constants ≡ vs
  pub texts : pool.texts ≡ c.texts
  pub builtins : map builtin_view pool.builtins ≡ map (meaning hidden) c.texts
  pub lists : pool.lists ≡ map (listed_texts c.texts) c.lists
  pub captures : pool.captures ≡ captures_of c.blocks
  pub classes : pool.classes ≡ classes_of c.blocks

-- what tables have of hidden blocks, or of a script's
pub record Side : Type 0 where
  pub blocks : SideBlocks
  pub facts : SideFacts
  pub pool : PoolTables

abbrev pub side_of : Loaded → (hidden : Bool) → Side
side_of l hidden = record {
  blocks = side_blocks l.tables.blocks hidden;
  facts = side_facts l.tables.facts hidden;
  pool = pool_in l.tables hidden;
}

-- those of a code, whose blocks are hidden or not, where these are the texts of a program's constants
pub record IsLoadedSide (c : Code) (hidden : Bool) (ts : List Name) (s : Side) : Type 0 where
  pub blocks : AreLoaded c c.blocks (s.blocks.of_module ∷ s.blocks.others)
  pub facts : s.facts.of_module ∷ s.facts.others ≡ blocks_of c.texts c.blocks
  pub constants : AreValues c.texts c.constants ts s.pool.constants
  pub texts : s.pool.texts ≡ c.texts
  pub builtins : map builtin_view s.pool.builtins ≡ map (meaning hidden) c.texts
  pub lists : s.pool.lists ≡ map (listed_texts c.texts) c.lists
  pub captures : s.pool.captures ≡ captures_of c.blocks
  pub classes : s.pool.classes ≡ classes_of c.blocks

-- those of a code over a prelude
pub record IsLoadedProgram (prelude c : Code) (l : Loaded) : Type 0 where
  pub of_prelude : IsLoadedSide prelude true l.texts (side_of l true)
  pub of_code : IsLoadedSide c false l.texts (side_of l false)
  pub constant_texts : l.texts ≡ program_texts prelude c
