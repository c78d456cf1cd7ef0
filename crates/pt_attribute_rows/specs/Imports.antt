-- When code does with modules and their names what rows say (Language Reference 7.11).
use Rattle.std.specs.Prelude.{◌≡◌, Bool, true, false, List}
use Rattle.pt_tree.specs.Syntax.{Name}
use Rattle.pt_instr.specs.declared.Instr.TheVariants.{Import, ImportName}
use Rattle.pt_instr.specs.declared.TextNo.{TextNo}
use Rattle.pt_heap.specs.declared.object.Object.{Object}
use Rattle.pt_frames.specs.declared.slot.Slot.{Slot}
use Rattle.pt_prims.specs.pt_methods.declared.attribute.Attribute.{Attribute}
use Rattle.pt_prims.specs.pt_methods.declared.attribute.Attribute.TheVariants.{Missing}
use Rattle.sem_rows.specs.pt_host.World.{Stores, with_objects}
use Rattle.sem_rows.specs.pt_host.Texts.{no_module_text, no_name_text}
use Rattle.sem_rows.specs.pt_host.declared.places.TheConstants.{IMPORT_ERROR, MODULE_NOT_FOUND_ERROR}
use Rattle.sem_rows.specs.declared.heap_rows.progress.Progress.{Progress}
use Rattle.sem_rows.specs.declared.heap_rows.progress.Progress.TheVariants as progress
use Rattle.sem_rows.specs.heap_rows.RowsIn.{RowsIn}
use Rattle.pt_function_rows.specs.pt_code_facts.declared.facts.Blocks.{Blocks}
use Rattle.pt_attribute_rows.specs.Attributes.{Knows}

-- what code did is the row of the instruction of a module, whose operand names this name
unfoldable pub RowsImport : Name → TextNo → (old : List Slot) → Progress → (new : List Slot) → Type 0
RowsImport x t old p new = (st : Stores) → RowsIn (λ s. s.code.pool.text t.0 ≡ x) (Import t) old st p new st

-- the same of the instruction of a module's name
unfoldable pub RowsImportName : Blocks → Name → TextNo → (old : List Slot) (heap : List Object) → Progress → (new : List Slot) (grown : List Object) → Type 0
RowsImportName blocks x t old heap p new grown =
    (st : Stores) → RowsIn (λ s. Knows s blocks × (s.code.pool.text t.0 ≡ x)) (ImportName t) old (with_objects heap st) p new (with_objects grown st)

abbrev pub is_missing : Attribute → Bool
is_missing Missing = true
is_missing a = false

abbrev pub no_module : Name → Progress
no_module x = progress.FailsSaying MODULE_NOT_FOUND_ERROR (no_module_text x)

abbrev pub no_name : Name → Progress
no_name x = progress.FailsSaying IMPORT_ERROR (no_name_text x)
