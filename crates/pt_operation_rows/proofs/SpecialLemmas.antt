-- What the special method of an instance comes to.
use Rattle.std.proofs.Common.{◌≡◌, ◌∙◌, ℕ, List, [], ◌∷◌, Option, Some, None, refl, sym, ap}
use Rattle.pt_heap.specs.declared.value.Value.{Value}
use Rattle.pt_heap.specs.declared.object.Object.{Object}
use Rattle.pt_bind.specs.declared.arguments.Args.{Args}
use Rattle.pt_frames.specs.declared.slot.Slot.{Slot}
use Rattle.pt_content.specs.declared.op.Op.{Op}
use Rattle.pt_content.specs.pt_attrs.Look.{object_of}
use Rattle.pt_content.specs.pt_attrs.declared.look.Found.{Found}
use Rattle.pt_content.specs.pt_attrs.declared.look.Found.TheVariants as found
use Rattle.sem_run.specs.run.Host.{Here}
use Rattle.pt_call_rows.specs.pt_operators.pt_prims.pt_special_methods.Instances.{method_of}
use Rattle.pt_call_rows.specs.pt_operators.pt_moves.sem_rows.pt_host.World.{Program, Stores}
use Rattle.pt_call_rows.specs.pt_operators.pt_moves.sem_rows.pt_host.Trees.{Tree}
use Rattle.pt_call_rows.specs.pt_operators.pt_moves.sem_rows.pt_host.Calls.{by_prim_or_helper, call_function_at, call_special, call_value}
use Rattle.pt_call_rows.specs.pt_operators.pt_moves.sem_rows.declared.heap_rows.progress.Progress.{Progress}
use Rattle.pt_call_rows.specs.pt_operators.pt_moves.sem_rows.heap_rows.Leads.{by_tree, giving}
use Rattle.pt_call_rows.specs.pt_operators.pt_moves.sem_rows.heap_rows.Views.{slots_view}
use Rattle.pt_call_rows.specs.pt_function_rows.pt_code_facts.declared.facts.Blocks.{Blocks}
use Rattle.pt_call_rows.specs.pt_class_rows.Calls.{Calls, Running, with_parts}
use Rattle.pt_call_rows.specs.pt_block_calls.declared.blocks.Given.TheVariants as gives
use Rattle.pt_call_rows.specs.pt_block_calls.BlockCalls.{CallsFunctionAt, OperatesOrAsks, without_names}
use Rattle.pt_call_rows.specs.CallRows.{CallsValue}
use Rattle.pt_operation_rows.specs.OperationRows.{AsksSpecial}

module _ (name : List ℕ) (o : Op) (v : Value) (rest vs : List Value) (blocks : Blocks) (r : Running) (slots : List Slot) (cells : List (Option Value)) (heap : List Object)
    (m : Option Found) (has : m ≡ method_of heap v name) where
  abbrev leads_by : Program → Here Value → Stores → Option Found → Tree Value
  leads_by program h st k = call_special program k v rest (by_prim_or_helper program o vs h (with_parts cells heap st)) h (with_parts cells heap st)

  pub function_called : (f : Value) (args : Args) (p : Progress) (changed : List (Option Value)) (grown : List Object)
      → m ≡ Some (found.Bound f) → args ≡ without_names (v ∷ rest) → CallsFunctionAt blocks f args gives.Itself slots cells heap p changed grown
      → AsksSpecial name o v rest vs blocks r slots cells heap p slots changed grown
  unfolding AsksSpecial CallsFunctionAt Calls
  function_called f args p changed grown is so done program code i h st knows =
      done program code i h st knows.0
      ∙ ap (λ (t : Tree Value). by_tree code i (giving code i (slots_view slots)) (slots_view slots) t)
      (ap (λ a. call_function_at program (object_of heap f) a h (with_parts cells heap st)) so ∙ ap (leads_by program h st) (sym is ∙ has))

  pub value_called : (w : Value) (args : Args) (p : Progress) (new : List Slot) (changed : List (Option Value)) (grown : List Object)
      → m ≡ Some (found.Plain w) → args ≡ without_names rest → CallsValue blocks r w args slots cells heap p new changed grown
      → AsksSpecial name o v rest vs blocks r slots cells heap p new changed grown
  unfolding AsksSpecial CallsValue Calls
  value_called w args p new changed grown is so done program code i h st knows =
      done program code i h st knows
      ∙ ap (λ (t : Tree Value). by_tree code i (giving code i (slots_view slots)) (slots_view slots) t)
      (ap (λ a. call_value program w a h (with_parts cells heap st)) so ∙ ap (leads_by program h st) (sym is ∙ has))

  otherwise : (program : Program) (h : Here Value) (st : Stores) (k : Option Found) → ((f : Value) → k ≡ Some (found.Bound f) → ⊥) → ((w : Value) → k ≡ Some (found.Plain w) → ⊥)
      → ◌≡◌ {A = Tree Value} (by_prim_or_helper program o vs h (with_parts cells heap st)) (leads_by program h st k)
  otherwise program h st None n l = refl
  otherwise program h st (Some (found.Bound f)) n l = absurd (n f refl)
  otherwise program h st (Some (found.Plain w)) n l = absurd (l w refl)
  otherwise program h st (Some found.Unbuilt) n l = refl

  pub operated : (p : Progress) (new : List Slot) (changed : List (Option Value)) (grown : List Object)
      → ((f : Value) → m ≡ Some (found.Bound f) → ⊥) → ((w : Value) → m ≡ Some (found.Plain w) → ⊥)
      → OperatesOrAsks o vs blocks slots cells heap p new changed grown → AsksSpecial name o v rest vs blocks r slots cells heap p new changed grown
  unfolding AsksSpecial OperatesOrAsks Calls
  operated p new changed grown n l done program code i h st knows =
      done program code i h st knows.0
      ∙ ap (λ (t : Tree Value). by_tree code i (giving code i (slots_view slots)) (slots_view slots) t)
      (otherwise program h st m n l ∙ ap (leads_by program h st) has)
