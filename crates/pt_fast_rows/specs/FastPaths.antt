-- When a fast path of an instruction's row is taken, and where it leads.
use Rattle.std.specs.Prelude.{◌≡◌, ℕ, ℤ, not, Bool, false, List, Option, Some, None}
use Rattle.pt_base.specs.declared.numbers.Pc.{Pc}
use Rattle.pt_base.specs.declared.operators.CompareOp.{CompareOp}
use Rattle.pt_base.specs.declared.operators.CompareOp.TheVariants.{Less, LessEqual, Greater, GreaterEqual, Equal, NotEqual}
use Rattle.pt_tree.specs.Syntax.{Name}
use Rattle.pt_instr.specs.declared.Instr.{Instr}
use Rattle.pt_heap.specs.declared.value.Value.{Value}
use Rattle.pt_heap.specs.declared.value.Value.TheVariants as value
use Rattle.pt_heap.specs.declared.object.Object.{Object}
use Rattle.pt_heap.specs.declared.completion.Completion.TheVariants as completion
use Rattle.pt_instr.specs.declared.Instr.TheVariants as instr
use Rattle.pt_names.specs.Names.{Named}
use Rattle.pt_frames.specs.declared.slot.Slot.{Slot}
use Rattle.pt_frames.specs.declared.slot.Slot.TheVariants as slot
use Rattle.pt_frames.specs.Slots.{active_in}
use Rattle.pt_comparisons.specs.Orders.{number_order}
use Rattle.pt_comparisons.specs.Equalities.{same_number}
use Rattle.pt_operators.specs.pt_moves.sem_rows.declared.heap_rows.progress.Progress.{Progress}
use Rattle.pt_operators.specs.pt_moves.sem_rows.declared.heap_rows.progress.Progress.TheVariants as progress
use Rattle.pt_name_rows.specs.pt_code_facts.declared.facts.BlockFacts.{BlockFacts}
use Rattle.pt_name_rows.specs.pt_builtins.declared.BuiltinLookup.{BuiltinLookup}
use Rattle.pt_operators.specs.pt_moves.Operands.{RowsSlots, RowsHeap, RowsConstant}
use Rattle.pt_name_rows.specs.Names.{RowsLocal, RowsCell, RowsGlobal, RowsLoadGlobal}

-- the place that is next, where an instruction comes to one
abbrev pub place_behind : (next : Pc) → Progress → Option Pc
place_behind next progress.Next = Some next
place_behind next (progress.Goto pc) = Some pc
place_behind next p = None

-- the row was done, and leads to this place
pub record Led (next pc : Pc) (done : Progress → Type 0) : Type 0 where
  pub progress : Progress
  pub to : place_behind next progress ≡ Some pc
  pub row : done progress

-- it leads to a place, or nothing was done
abbrev pub Leads : (next : Pc) → Option Pc → (done : Progress → Type 0) → (left : Type 0) → Type 0
Leads next (Some pc) done left = Led next pc done
Leads next None done left = left

-- the row was done on the slots alone, whatever the heap holds
abbrev pub FastRow : Instr → Progress → (old new : List Slot) → Type 0
FastRow j p old new = ((heap : List Object) → RowsHeap j old heap p new heap) × (active_in new ≡ active_in old)

abbrev pub FastConstant : Value → Progress → (old new : List Slot) → Type 0
FastConstant v p old new = RowsConstant v old p new × (active_in new ≡ active_in old)

-- a return leaves its place with the value
abbrev pub FastReturn : Value → (old new : List Slot) → Type 0
FastReturn v old new = RowsSlots instr.Return old (progress.Leaves (completion.Return v)) new × (active_in new ≡ active_in old)

-- names, whatever else is known of the block, and whatever the name means by itself
abbrev pub FastLocal : Instr → (number : ℕ) → Progress → (old : List Slot) (locals : List (Option Value))
    → (new : List Slot) (changed : List (Option Value)) → Type 0
FastLocal j n p old locals new changed = ((facts : BlockFacts) → RowsLocal facts n j old locals p new changed) × (active_in new ≡ active_in old)

abbrev pub FastCell : (own : List ℕ) → Instr → (number : ℕ) → Progress → (old : List Slot) (cells : List (Option Value))
    → (new : List Slot) (changed : List (Option Value)) → Type 0
FastCell own j n p old cells new changed = ((facts : BlockFacts) → RowsCell facts own n j old cells p new changed) × (active_in new ≡ active_in old)

abbrev pub FastLoad : Name → Instr → (text : ℕ) → Progress → (old : List Slot) (globals : Named) → (new : List Slot) → Type 0
FastLoad x j t p old globals new = ((b : BuiltinLookup) → RowsLoadGlobal false x b j t old globals p new) × (active_in new ≡ active_in old)

abbrev pub FastGlobal : Name → Instr → (text : ℕ) → Progress → (old : List Slot) (globals : Named) → (new : List Slot) (changed : Named) → Type 0
FastGlobal x j t p old globals new changed = RowsGlobal x j t old globals p new changed × (active_in new ≡ active_in old)

-- what a slot holds

abbrev pub integer_in : Option Slot → Option ℤ
integer_in (Some (slot.Value (value.Int n))) = Some n
integer_in o = None

abbrev pub truth_in : Option Slot → Option Bool
truth_in (Some (slot.Value (value.Bool b))) = Some b
truth_in o = None

-- how integers compare (6.10.1)
abbrev pub integers_compare : CompareOp → (a b : ℤ) → Option Bool
integers_compare Less a b = Some (number_order Less a b)
integers_compare LessEqual a b = Some (number_order LessEqual a b)
integers_compare Greater a b = Some (number_order Greater a b)
integers_compare GreaterEqual a b = Some (number_order GreaterEqual a b)
integers_compare Equal a b = Some (same_number a b)
integers_compare NotEqual a b = Some (not (same_number a b))
integers_compare o a b = None
