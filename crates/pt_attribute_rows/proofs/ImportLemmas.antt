-- Rows of modules and their names.
use Rattle.std.proofs.Common.{◌≡◌, ◌∙◌, ℕ, Bool, true, false, List, [], ◌∷◌, Some, None, refl, sym, ap, subst}
use Rattle.std.specs.Prelude.{codes, drop, if◌then◌else◌}
use Rattle.std.specs.Str.{bytes_eq}
use Rattle.pt_tree.specs.Syntax.{Name}
use Rattle.sem_control.specs.control.Turn as T
use Rattle.pt_instr.specs.declared.Instr.TheVariants.{Import, ImportName}
use Rattle.pt_instr.specs.declared.TextNo.{TextNo}
use Rattle.pt_heap.specs.declared.value.Value.{Value}
use Rattle.pt_heap.specs.declared.value.Value.TheVariants as value
use Rattle.pt_heap.specs.declared.object.Object.{Object}
use Rattle.pt_frames.specs.declared.slot.Slot.{Slot}
use Rattle.pt_frames.specs.declared.slot.Slot.TheVariants as slot
use Rattle.pt_code.specs.View.{Ins}
use Rattle.sem_run.specs.run.Host.{Here, answer}
use Rattle.pt_prims.specs.pt_methods.declared.attribute.Attribute.{Attribute}
use Rattle.pt_prims.specs.pt_methods.declared.attribute.Attribute.TheVariants as attribute
use Rattle.pt_prims.specs.pt_methods.Attributes.{attribute_of}
use Rattle.sem_rows.specs.pt_host.declared.places.TheConstants.{MODULE_NOT_FOUND_ERROR, SYS}
use Rattle.sem_rows.specs.pt_host.World.{Stores, Program, with_objects}
use Rattle.sem_rows.specs.pt_host.HeapHost.{heap_host}
use Rattle.sem_rows.specs.sem_code_machine.rows.Rows.{row_of}
use Rattle.sem_rows.specs.pt_host.Texts.{no_module_text}
use Rattle.sem_rows.specs.pt_host.Errors.{raise_saying}
use Rattle.sem_rows.specs.pt_host.Attributes.{by_attribute}
use Rattle.sem_rows.specs.pt_host.Imports.{import_module, by_imported}
use Rattle.sem_rows.specs.declared.heap_rows.progress.Progress.{Progress}
use Rattle.sem_rows.specs.declared.heap_rows.progress.Progress.TheVariants as progress
use Rattle.sem_rows.specs.heap_rows.Leads.{HeapSuccessor, by_tree, giving}
use Rattle.sem_rows.specs.heap_rows.RowsIn.{Standpoint, RowsIn}
use Rattle.sem_rows.specs.heap_rows.Told.{told}
use Rattle.sem_rows.specs.heap_rows.Views.{slots_view}
use Rattle.sem_rows.proofs.heap_rows.RowLemmas.{asks_lead, operations_lead}
use Rattle.pt_operators.specs.pt_moves.Operands.{one_value}
use Rattle.pt_operators.proofs.pt_moves.TakeLemmas.{one_on}
use Rattle.pt_operators.proofs.pt_moves.MoveLemmas.{lacks_one, stuck_row}
use Rattle.pt_function_rows.specs.pt_code_facts.declared.facts.Blocks.{Blocks}
use Rattle.pt_attribute_rows.specs.Attributes.{Gives}
use Rattle.pt_attribute_rows.specs.Imports.{RowsImport, RowsImportName, is_missing, no_module, no_name}

-- modules
module _ (x : Name) (t : TextNo) (old : List Slot) where
  abbrev Imports : Standpoint → Ins → Stores → Bool → HeapSuccessor
  Imports s i st b =
      by_tree s.code i (giving s.code i (slots_view old)) (slots_view old)
      (if b then answer (value.Obj SYS) st else raise_saying MODULE_NOT_FOUND_ERROR (no_module_text x) s.here st)

  leads : (s : Standpoint) (pc : ℕ) (i : Ins) (st : Stores) → s.code.pool.text t.0 ≡ x
      → Imports s i st (bytes_eq x (codes "sys")) ≡ row_of (heap_host s.program) s.code pc i (Import t) (slots_view old) s.here st
  leads s pc i st knows =
      ap (λ y. by_tree s.code i (giving s.code i (slots_view old)) (slots_view old) (import_module y s.here st)) (sym knows)
      ∙ sym (operations_lead s.program s.code i s.here st (T.import (s.code.pool.text t.0)) [] (slots_view old))

  pub module_row : (new : List Slot) → bytes_eq x (codes "sys") ≡ true → new ≡ slot.Value (value.Obj SYS) ∷ old → RowsImport x t old progress.Next new
  unfolding RowsImport RowsIn
  module_row new is e st s pc i truths knows =
      ap (λ ss. told s.program s.code i s.here progress.Next (slots_view ss) st) e
      ∙ (ap (Imports s i st) (sym is) ∙ leads s pc i st knows)

  pub no_module_row : (p : Progress) → bytes_eq x (codes "sys") ≡ false → p ≡ no_module x → RowsImport x t old p old
  unfolding RowsImport RowsIn
  no_module_row p is e st s pc i truths knows =
      ap (λ q. told s.program s.code i s.here q (slots_view old) st) e
      ∙ (ap (Imports s i st) (sym is) ∙ leads s pc i st knows)

-- their names
kept_name : (program : Program) (x : Name) (m : Value) (a : Attribute) (h : Here Value) (st : Stores) → is_missing a ≡ false
    → by_attribute program x m a h st ≡ by_imported program x m a h st
kept_name program x m attribute.Missing h st e = absurd (cc)
kept_name program x m (attribute.Method n) h st e = refl
kept_name program x m (attribute.Held v) h st e = refl
kept_name program x m (attribute.Bound f) h st e = refl
kept_name program x m attribute.NameOf h st e = refl
kept_name program x m attribute.Arguments h st e = refl
kept_name program x m attribute.Unbuilt h st e = refl

lost_name : (a : Attribute) → is_missing a ≡ true → a ≡ attribute.Missing
lost_name attribute.Missing e = refl
lost_name (attribute.Method n) e = absurd (cc)
lost_name (attribute.Held v) e = absurd (cc)
lost_name (attribute.Bound f) e = absurd (cc)
lost_name attribute.NameOf e = absurd (cc)
lost_name attribute.Arguments e = absurd (cc)
lost_name attribute.Unbuilt e = absurd (cc)

-- with the module on top
module _ (blocks : Blocks) (x : Name) (t : TextNo) (m : Value) (below : List Slot) (heap : List Object) where
  abbrev over : List Slot
  over = slot.Value m ∷ below

  abbrev by_name : Standpoint → Ins → Stores → Name → Attribute → HeapSuccessor
  by_name s i st y a = by_tree s.code i (giving s.code i (slots_view over)) (slots_view over) (by_imported s.program y m a s.here (with_objects heap st))

  names_lead : (s : Standpoint) (pc : ℕ) (i : Ins) (st : Stores) → s.code.pool.text t.0 ≡ x
      → by_name s i st x (attribute_of heap m x) ≡ row_of (heap_host s.program) s.code pc i (ImportName t) (slots_view over) s.here (with_objects heap st)
  names_lead s pc i st knows =
      ap (λ y. by_name s i st y (attribute_of heap m y)) (sym knows)
      ∙ sym (asks_lead s.program s.code i s.here (with_objects heap st) (T.seek (T.operate (T.import_name (s.code.pool.text t.0)) (m ∷ [])))
      (giving s.code i (slots_view over)) (slots_view over) tt)

  name_of : (a : Attribute) (p : Progress) (new : List Slot) (grown : List Object) → is_missing a ≡ false → a ≡ attribute_of heap m x → Gives blocks x m a over heap p new grown
      → RowsImportName blocks x t over heap p new grown
  unfolding Gives RowsImportName RowsIn
  name_of a p new grown kept is done st s pc i truths (knows, text) =
      done s i st knows
      ∙ (ap (λ y. by_tree s.code i (giving s.code i (slots_view over)) (slots_view over) y) (kept_name s.program x m a s.here (with_objects heap st) kept)
      ∙ (ap (λ b. by_name s i st x b) is ∙ names_lead s pc i st text))

  no_name_of : attribute_of heap m x ≡ attribute.Missing → RowsImportName blocks x t over heap (no_name x) over heap
  unfolding RowsImportName RowsIn
  no_name_of is st s pc i truths (knows, text) = ap (λ b. by_name s i st x b) (sym is) ∙ names_lead s pc i st text

module _ (blocks : Blocks) (x : Name) (t : TextNo) (old : List Slot) (heap : List Object) (m : Value) (p : Progress) (a : Attribute) (on : one_value old ≡ Some m) (is : a ≡ attribute_of heap m x) where
  pub name_row : (new : List Slot) (grown : List Object) → is_missing a ≡ false → Gives blocks x m a old heap p new grown → RowsImportName blocks x t old heap p new grown
  name_row new grown kept done =
      subst (λ ss. RowsImportName blocks x t ss heap p new grown) (sym (one_on old m on))
      (name_of blocks x t m (drop 1 old) heap a p new grown kept is (subst (λ ss. Gives blocks x m a ss heap p new grown) (one_on old m on) done))

  pub no_name_row : is_missing a ≡ true → p ≡ no_name x → RowsImportName blocks x t old heap p old heap
  no_name_row lost done =
      subst (λ q. RowsImportName blocks x t old heap q old heap) (sym done)
      (subst (λ ss. RowsImportName blocks x t ss heap (no_name x) ss heap) (sym (one_on old m on))
      (no_name_of blocks x t m (drop 1 old) heap (sym is ∙ lost_name a lost)))

pub name_lacks : (blocks : Blocks) (x : Name) (t : TextNo) (old new : List Slot) (heap grown : List Object) → one_value old ≡ None → RowsImportName blocks x t old heap progress.Lacks new grown
unfolding RowsImportName RowsIn
name_lacks blocks x t old new heap grown e st s pc i truths knows = stuck_row s.program s.here (with_objects heap st) _ (lacks_one old e _)
