-- Rows of names of the module.
use Rattle.std.proofs.Common.{◌≡◌, ◌∙◌, Bool, List, ◌∷◌, Option, Some, None, refl, sym, ap, subst}
use Rattle.std.specs.Prelude.{drop}
use Rattle.std.specs.Str.{bytes_eq}
use Rattle.indexmap.specs.IndexMap.{insert_entry}
use Rattle.pt_base.specs.declared.what.What.TheVariants.{Feature}
use Rattle.pt_tree.specs.Syntax.{Name}
use Rattle.sem_control.specs.control.Turn as T
use Rattle.pt_instr.specs.declared.Instr.TheVariants as instr
use Rattle.pt_instr.specs.declared.TextNo.{TextNo}
use Rattle.pt_heap.specs.declared.value.Value.{Value}
use Rattle.pt_names.specs.Names.{Named, name_value}
use Rattle.pt_frames.specs.declared.slot.Slot.{Slot}
use Rattle.pt_frames.specs.declared.slot.Slot.TheVariants as slot
use Rattle.sem_code.specs.slots.Slots.{on}
use Rattle.sem_code.specs.slots.CodeObject.{global}
use Rattle.pt_builtins.specs.pt_host.World.{Stores}
use Rattle.pt_builtins.specs.pt_host.Variables.{by_builtin, readable_value}
use Rattle.pt_builtins.specs.pt_host.Builtins.{meaning}
use Rattle.pt_moves.specs.sem_rows.declared.heap_rows.progress.Progress.{Progress}
use Rattle.pt_moves.specs.sem_rows.declared.heap_rows.progress.Progress.TheVariants as progress
use Rattle.pt_moves.specs.sem_rows.heap_rows.Leads.{by_tree, giving}
use Rattle.pt_moves.specs.sem_rows.heap_rows.Told.{told}
use Rattle.pt_moves.specs.sem_rows.heap_rows.RowsIn.{Standpoint, RowsIn}
use Rattle.pt_moves.specs.sem_rows.heap_rows.Views.{slots_view}
use Rattle.pt_code.specs.View.{Ins}
use Rattle.pt_builtins.specs.declared.BuiltinLookup.{BuiltinLookup}
use Rattle.pt_builtins.specs.declared.BuiltinLookup.TheVariants as lookup
use Rattle.pt_builtins.specs.Lookups.{builtin_view}
use Rattle.pt_moves.specs.Operands.{one_value}
use Rattle.pt_moves.proofs.TakeLemmas.{one_on}
use Rattle.pt_moves.proofs.MoveLemmas.{lacks_one, stuck_row}
use Rattle.pt_name_rows.specs.Names.{RowsGlobal, RowsLoadGlobal, seen_value, global_unbound, with_globals}
use Rattle.pt_name_rows.proofs.AskLemmas.{goes_to, loads, loads_none, stores, deletes, deletes_none}

module _ (x : Name) (t : TextNo) (old : List Slot) (globals : Named) where
  -- what a block sees, hidden or not
  seen : (b hidden : Bool) (n : Name) → b ≡ hidden → n ≡ x → (st : Stores) → readable_value b T.global n (with_globals globals st) ≡ seen_value hidden x globals
  seen b hidden n e f st = ap (λ c. readable_value c T.global n (with_globals globals st)) e ∙ ap (λ y. seen_value hidden y globals) f

  reads : (n : Name) → n ≡ x → name_value n globals ≡ name_value x globals
  reads n e = ap (λ y. name_value y globals) e

  writes : (n : Name) (v : Option Value) (st : Stores) → n ≡ x → with_globals (insert_entry bytes_eq globals n v) st ≡ with_globals (insert_entry bytes_eq globals x v) st
  writes n v st e = ap (λ y. with_globals (insert_entry bytes_eq globals y v) st) e

  found_of : (hidden : Bool) (b : BuiltinLookup) (v : Value) → seen_value hidden x globals ≡ Some v → RowsLoadGlobal hidden x b (instr.Global t) t.0 old globals progress.Next (slot.Value v ∷ old)
  unfolding RowsLoadGlobal RowsIn
  found_of hidden b v e st means s pc i truths knows =
      loads s.program s.code i s.here (with_globals globals st) (slots_view old) (global (s.code.pool.text t.0)) v (seen _ hidden _ knows.is_hidden knows.is_text st ∙ e)

  -- what a name means by itself, where the module doesn't bind it
  abbrev otherwise : BuiltinLookup → Progress
  otherwise (lookup.Found v) = progress.Next
  otherwise lookup.Unavailable = progress.Outside Feature
  otherwise lookup.Unbound = global_unbound x

  abbrev slots_otherwise : BuiltinLookup → List Slot
  slots_otherwise (lookup.Found v) = slot.Value v ∷ old
  slots_otherwise b = old

  leads_otherwise : (b : BuiltinLookup) (s : Standpoint) (i : Ins) (st : Stores)
      → told s.program s.code i s.here (otherwise b) (slots_view (slots_otherwise b)) st
      ≡ by_tree s.code i (giving s.code i (slots_view old)) (slots_view old) (by_builtin (builtin_view b) T.global x s.here st)
  leads_otherwise (lookup.Found v) s i st = refl
  leads_otherwise lookup.Unavailable s i st = refl
  leads_otherwise lookup.Unbound s i st = refl

  otherwise_of : (hidden : Bool) (b : BuiltinLookup) → seen_value hidden x globals ≡ None → RowsLoadGlobal hidden x b (instr.Global t) t.0 old globals (otherwise b) (slots_otherwise b)
  unfolding RowsLoadGlobal RowsIn
  otherwise_of hidden b e st means s pc i truths knows =
      leads_otherwise b s i (with_globals globals st)
      ∙ (ap (λ m. by_tree s.code i (giving s.code i (slots_view old)) (slots_view old) (by_builtin m T.global x s.here (with_globals globals st))) means
      ∙ (ap (λ c. by_tree s.code i (giving s.code i (slots_view old)) (slots_view old) (by_builtin (meaning c x) T.global x s.here (with_globals globals st))) (sym knows.is_hidden)
      ∙ (ap (λ y. by_tree s.code i (giving s.code i (slots_view old)) (slots_view old) (by_builtin (meaning s.here.block.hidden y) T.global y s.here (with_globals globals st))) (sym knows.is_text)
      ∙ loads_none s.program s.code i s.here (with_globals globals st) (slots_view old) (global (s.code.pool.text t.0)) (seen _ hidden _ knows.is_hidden knows.is_text st ∙ e))))

  stored_of : (v : Value) → RowsGlobal x (instr.SetGlobal t) t.0 (slot.Value v ∷ old) globals progress.Next old (insert_entry bytes_eq globals x (Some v))
  unfolding RowsGlobal RowsIn
  stored_of v st s pc i truths knows = ap (λ (c : Stores). goes_to (on i.next (slots_view old)) c) (sym (writes _ (Some v) st knows))
      ∙ stores s.program s.code i s.here (with_globals globals st) (slots_view old) (global (s.code.pool.text t.0)) v refl

  deleted_of : (v : Value) → name_value x globals ≡ Some v → RowsGlobal x (instr.DelGlobal t) t.0 old globals progress.Next old (insert_entry bytes_eq globals x None)
  unfolding RowsGlobal RowsIn
  deleted_of v e st s pc i truths knows = ap (λ (c : Stores). goes_to (on i.next (slots_view old)) c) (sym (writes _ None st knows))
      ∙ deletes s.program s.code i s.here (with_globals globals st) (slots_view old) (global (s.code.pool.text t.0)) v (reads _ knows ∙ e)

  delete_missing_of : name_value x globals ≡ None → RowsGlobal x (instr.DelGlobal t) t.0 old globals (global_unbound x) old globals
  unfolding RowsGlobal RowsIn
  delete_missing_of e st s pc i truths knows = ap (λ n. told s.program s.code i s.here (global_unbound n) (slots_view old) (with_globals globals st)) (sym knows)
      ∙ deletes_none s.program s.code i s.here (with_globals globals st) (slots_view old) (global (s.code.pool.text t.0)) (reads _ knows ∙ e)

-- the same by what code found, took and wrote
module _ (x : Name) (t : TextNo) (old : List Slot) (globals : Named) where
  pub found : (hidden : Bool) (b : BuiltinLookup) (new : List Slot) (v : Value) → seen_value hidden x globals ≡ Some v → new ≡ slot.Value v ∷ old → RowsLoadGlobal hidden x b (instr.Global t) t.0 old globals progress.Next new
  found hidden b new v e f = subst (λ n. RowsLoadGlobal hidden x b (instr.Global t) t.0 old globals progress.Next n) (sym f) (found_of x t old globals hidden b v e)

  pub builtin_found : (hidden : Bool) (new : List Slot) (v : Value) → seen_value hidden x globals ≡ None → new ≡ slot.Value v ∷ old → RowsLoadGlobal hidden x (lookup.Found v) (instr.Global t) t.0 old globals progress.Next new
  builtin_found hidden new v e f = subst (λ n. RowsLoadGlobal hidden x (lookup.Found v) (instr.Global t) t.0 old globals progress.Next n) (sym f) (otherwise_of x t old globals hidden (lookup.Found v) e)

  pub builtin_unavailable : (hidden : Bool) → seen_value hidden x globals ≡ None → RowsLoadGlobal hidden x lookup.Unavailable (instr.Global t) t.0 old globals (progress.Outside Feature) old
  builtin_unavailable hidden e = otherwise_of x t old globals hidden lookup.Unavailable e

  pub missing : (hidden : Bool) (p : Progress) → seen_value hidden x globals ≡ None → p ≡ global_unbound x → RowsLoadGlobal hidden x lookup.Unbound (instr.Global t) t.0 old globals p old
  missing hidden p e f = subst (λ q. RowsLoadGlobal hidden x lookup.Unbound (instr.Global t) t.0 old globals q old) (sym f) (otherwise_of x t old globals hidden lookup.Unbound e)

  pub stored : (new : List Slot) (changed : Named) (v : Value) → one_value old ≡ Some v → new ≡ drop 1 old → changed ≡ insert_entry bytes_eq globals x (Some v)
      → RowsGlobal x (instr.SetGlobal t) t.0 old globals progress.Next new changed
  stored new changed v e f g = subst (λ n. RowsGlobal x (instr.SetGlobal t) t.0 old globals progress.Next n changed) (sym f)
      (subst (λ c. RowsGlobal x (instr.SetGlobal t) t.0 old globals progress.Next (drop 1 old) c) (sym g)
      (subst (λ o. RowsGlobal x (instr.SetGlobal t) t.0 o globals progress.Next (drop 1 old) (insert_entry bytes_eq globals x (Some v))) (sym (one_on old v e))
      (stored_of x t (drop 1 old) globals v)))

  pub store_lacks : (new : List Slot) (changed : Named) → one_value old ≡ None → RowsGlobal x (instr.SetGlobal t) t.0 old globals progress.Lacks new changed
  unfolding RowsGlobal RowsIn
  store_lacks new changed e st s pc i truths knows = stuck_row s.program s.here _ _ (lacks_one old e _)

  pub deleted : (changed : Named) (v : Value) → name_value x globals ≡ Some v → changed ≡ insert_entry bytes_eq globals x None → RowsGlobal x (instr.DelGlobal t) t.0 old globals progress.Next old changed
  deleted changed v e g = subst (λ c. RowsGlobal x (instr.DelGlobal t) t.0 old globals progress.Next old c) (sym g) (deleted_of x t old globals v e)

  pub delete_missing : (p : Progress) → name_value x globals ≡ None → p ≡ global_unbound x → RowsGlobal x (instr.DelGlobal t) t.0 old globals p old globals
  delete_missing p e f = subst (λ q. RowsGlobal x (instr.DelGlobal t) t.0 old globals q old globals) (sym f) (delete_missing_of x t old globals e)
