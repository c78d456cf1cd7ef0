-- Rows of names that are bound.
use Rattle.std.proofs.Common.{◌≡◌, ◌∙◌, ℕ, false, List, ◌∷◌, Option, Some, None, refl, sym, ap}
use Rattle.std.specs.Prelude.{slice_get, slice_set}
use Rattle.std.specs.Option.{option_flatten}
use Rattle.std.specs.Str.{bytes_eq}
use Rattle.indexmap.specs.IndexMap.{insert_entry}
use Rattle.pt_base.specs.declared.numbers.Pc.{Pc}
use Rattle.pt_tree.specs.Syntax.{Name}
use Rattle.pt_instr.specs.declared.Instr.TheVariants as instr
use Rattle.pt_instr.specs.declared.SlotNo.{SlotNo}
use Rattle.pt_instr.specs.declared.TextNo.{TextNo}
use Rattle.pt_heap.specs.declared.value.Value.{Value}
use Rattle.pt_names.specs.Names.{Named, name_value}
use Rattle.pt_frames.specs.declared.slot.Slot.{Slot}
use Rattle.pt_frames.specs.declared.slot.Slot.TheVariants as slot
use Rattle.pt_frames.specs.Slots.{active_in}
use Rattle.pt_operators.proofs.pt_moves.TakeLemmas.{quiet_one}
use Rattle.pt_name_rows.specs.Names.{value_through, with_value}
use Rattle.pt_name_rows.proofs.LocalLemmas as locals
use Rattle.pt_name_rows.proofs.CellLemmas as cells
use Rattle.pt_name_rows.proofs.GlobalLemmas as globals
use Rattle.pt_fast_rows.specs.FastPaths.{FastLocal, FastCell, FastLoad, FastGlobal, Led}
use Rattle.pt_fast_rows.proofs.ValueLemmas.{at_next, Taken}

module _ (x : SlotNo) (next : Pc) (old : List Slot) (values : List (Option Value)) where
  pub local_given : (v : Value) (new : List Slot) → option_flatten (slice_get values x.0) ≡ Some v → new ≡ slot.Value v ∷ old
      → Led next next (λ p. FastLocal (instr.Local x) x.0 p old values new values)
  local_given v new e f = at_next next (λ facts. locals.found facts x old values new v e f, ap active_in f)

  pub local_stored : (o : Option Value) (v : Value) (new : List Slot) (changed : List (Option Value)) → Taken o old new → o ≡ Some v
      → changed ≡ slice_set values x.0 (Some v)
      → Led next next (λ p. FastLocal (instr.SetLocal x) x.0 p old values new changed)
  local_stored None v new changed t e f = absurd (cc)
  local_stored (Some w) v new changed t e f =
      let same : w ≡ v = cc in
      at_next next (
        λ facts. locals.stored facts x old values new changed w t.0 t.1 (f ∙ ap (λ u. slice_set values x.0 (Some u)) (sym same)),
        ap active_in t.1 ∙ quiet_one old w t.0,
      )

pub none_stored : (o : Option Value) (old new : List Slot) (values : List (Option Value)) → Taken o old new → o ≡ None → (new ≡ old) × (values ≡ values)
none_stored (Some w) old new values t e = absurd (cc)
none_stored None old new values t e = (t, refl)

module _ (x : SlotNo) (next : Pc) (own : List ℕ) (old : List Slot) (values : List (Option Value)) where
  pub cell_given : (v : Value) (new : List Slot) → value_through own values x.0 ≡ Some v → new ≡ slot.Value v ∷ old
      → Led next next (λ p. FastCell own (instr.Cell x) x.0 p old values new values)
  cell_given v new e f = at_next next (λ facts. cells.found facts own x old values new v e f, ap active_in f)

  pub cell_stored : (o : Option Value) (v : Value) (new : List Slot) (changed : List (Option Value)) → Taken o old new → o ≡ Some v
      → changed ≡ with_value (slice_get own x.0) (Some v) values
      → Led next next (λ p. FastCell own (instr.SetCell x) x.0 p old values new changed)
  cell_stored None v new changed t e f = absurd (cc)
  cell_stored (Some w) v new changed t e f =
      let same : w ≡ v = cc in
      at_next next (
        λ facts. cells.stored facts own x old values new changed w t.0 t.1 (f ∙ ap (λ u. with_value (slice_get own x.0) (Some u) values) (sym same)),
        ap active_in t.1 ∙ quiet_one old w t.0,
      )

module _ (t : TextNo) (x : Name) (next : Pc) (old : List Slot) (names : Named) where
  pub global_given : (v : Value) (new : List Slot) → name_value x names ≡ Some v → new ≡ slot.Value v ∷ old
      → Led next next (λ p. FastLoad x (instr.Global t) t.0 p old names new)
  global_given v new e f = at_next next (λ b. globals.found x t old names false b new v e f, ap active_in f)

  pub global_stored : (o : Option Value) (v : Value) (new : List Slot) (changed : Named) → Taken o old new → o ≡ Some v
      → changed ≡ insert_entry bytes_eq names x (Some v)
      → Led next next (λ p. FastGlobal x (instr.SetGlobal t) t.0 p old names new changed)
  global_stored None v new changed k e f = absurd (cc)
  global_stored (Some w) v new changed k e f =
      let same : w ≡ v = cc in
      at_next next (
        globals.stored x t old names new changed w k.0 k.1 (f ∙ ap (λ u. insert_entry bytes_eq names x (Some u)) (sym same)),
        ap active_in k.1 ∙ quiet_one old w k.0,
      )

pub none_bound : (o : Option Value) (old new : List Slot) (names : Named) → Taken o old new → o ≡ None → (new ≡ old) × (names ≡ names)
none_bound (Some w) old new names t e = absurd (cc)
none_bound None old new names t e = (t, refl)
