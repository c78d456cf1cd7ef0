-- When code does with attributes what rows say (Language Reference 6.3.1).
use Rattle.std.specs.Prelude.{◌≡◌, List, [], Option, Some}
use Rattle.pt_tree.specs.Syntax.{Name}
use Rattle.pt_instr.specs.declared.Instr.{Instr}
use Rattle.pt_instr.specs.declared.Instr.TheVariants.{Attr}
use Rattle.pt_instr.specs.declared.TextNo.{TextNo}
use Rattle.pt_heap.specs.declared.value.Value.{Value}
use Rattle.pt_heap.specs.declared.object.Object.{Object}
use Rattle.pt_heap.specs.declared.object.Object.TheVariants as object
use Rattle.pt_frames.specs.declared.slot.Slot.{Slot}
use Rattle.pt_code.specs.View.{Ins}
use Rattle.pt_function_rows.specs.pt_code_facts.declared.facts.Blocks.{Blocks}
use Rattle.pt_function_rows.specs.pt_code_facts.Facts.{KnowsBlocks, facts_at}
use Rattle.pt_prims.specs.pt_methods.declared.attribute.Attribute.{Attribute}
use Rattle.sem_rows.specs.pt_host.World.{Stores, allot, with_objects}
use Rattle.sem_rows.specs.pt_host.Trees.{answer_with}
use Rattle.sem_rows.specs.pt_host.Attributes.{by_attribute}
use Rattle.sem_rows.specs.declared.heap_rows.progress.Progress.{Progress}
use Rattle.sem_rows.specs.heap_rows.Leads.{by_tree, giving}
use Rattle.sem_rows.specs.heap_rows.RowsIn.{Standpoint, RowsIn}
use Rattle.sem_rows.specs.heap_rows.Told.{block_id, told}
use Rattle.sem_rows.specs.heap_rows.Views.{slots_view}

-- what code did is to give a new object
unfoldable pub Places : Object → (old : List Slot) (heap : List Object) → Progress → (new : List Slot) (grown : List Object) → Type 0
Places o old heap p new grown =
    (s : Standpoint) (i : Ins) (st : Stores)
    → told s.program s.code i s.here p (slots_view new) (with_objects grown st)
    ≡ by_tree s.code i (giving s.code i (slots_view old)) (slots_view old) (answer_with (allot o heap) (with_objects heap st))

-- the name of a class, and that of a function's block, by what is known of the blocks
abbrev pub name_in : Blocks → Option Object → Name
name_in blocks (Some (object.Class c)) = c.name
name_in blocks (Some (object.Function f)) = (facts_at blocks (block_id f.block f.hidden)).name
name_in blocks o = []

-- the program's blocks are known so
abbrev pub Knows : Standpoint → Blocks → Type 0
Knows s blocks = KnowsBlocks s.program blocks

-- it is what the host's answer of an attribute of the value leads to
unfoldable pub Gives : Blocks → Name → Value → Attribute → (old : List Slot) (heap : List Object) → Progress → (new : List Slot) (grown : List Object) → Type 0
Gives blocks x v a old heap p new grown =
    (s : Standpoint) (i : Ins) (st : Stores) → Knows s blocks
    → told s.program s.code i s.here p (slots_view new) (with_objects grown st)
    ≡ by_tree s.code i (giving s.code i (slots_view old)) (slots_view old) (by_attribute s.program x v a s.here (with_objects heap st))

-- it is the row of an instruction whose operand names this name
unfoldable pub RowsAttribute : Blocks → Name → TextNo → (old : List Slot) (heap : List Object) → Progress → (new : List Slot) (grown : List Object) → Type 0
RowsAttribute blocks x t old heap p new grown =
    (st : Stores) → RowsIn (λ s. Knows s blocks × (s.code.pool.text t.0 ≡ x)) (Attr t) old (with_objects heap st) p new (with_objects grown st)

-- the same of an instruction that sets or deletes an attribute
unfoldable pub RowsNamed : Name → TextNo → Instr → (old : List Slot) (heap : List Object) → Progress → (new : List Slot) (grown : List Object) → Type 0
RowsNamed x t j old heap p new grown =
    (st : Stores) → RowsIn (λ s. s.code.pool.text t.0 ≡ x) j old (with_objects heap st) p new (with_objects grown st)
