-- What the calls of tools answer and leave, by the fields that the code has (u), as its caller sees them (t).
use Rattle.std.proofs.Common.{◌≡◌, ℕ, ℤ, List, Bool, Option, Some, None, is_some, sym, ap, ◌∙◌, subst}
use Rattle.sem_run.specs.run.Machine.{BlockId}
use Rattle.pt_heap.specs.declared.value.Value.{Value}
use Rattle.sem_run.specs.run.Rows.{put_at}
use Rattle.sem_run.specs.run.Tools.{Tool, Tools, ToolCall, ToolAnswer, ToolResult, tool_at, with_tool, tool_call, use_id, free_id, name_of, set_of, local_set_of, give_set, give_local_set, register, use_tool, free_tool, set_events, set_local_events, register_for, only_bit, unsigned, bits, local_set, wrong, bad_id, a_name, a_set}
use Rattle.pt_monitor.specs.Alike.{ToolsAlike}
use Rattle.pt_monitor.specs.Answers.{tool_place, reply}
use Rattle.pt_monitor.proofs.Calls.{at_place, no_place}
use Rattle.pt_monitor.proofs.Told.{answered, leaves}

module _ (u t : Tools Value) (same : u ≡ t) (c : ToolCall Value) where
  pub told_at : {A : Type 0} (told : ToolAnswer Value → A) (r : ToolResult Value) → tool_call c u ≡ r → reply told r.0 ≡ reply told (tool_call c t).0
  told_at told r h = answered told c u r h ∙ ap (λ (s : Tools Value). reply told (tool_call c s).0) same

  pub left_at : (r : ToolResult Value) (new : Tools Value) → tool_call c u ≡ r → ToolsAlike new r.1 → ToolsAlike new (tool_call c t).1
  left_at r new h alike = subst (λ (s : Tools Value). ToolsAlike new (tool_call c s).1) same (leaves c u r new h alike)

  pub stays_at : (a : ToolAnswer Value) → tool_call c u ≡ (a, u) → t ≡ (tool_call c t).1
  stays_at a h = sym same ∙ sym (ap (λ (s : ToolResult Value). s.1) h) ∙ ap (λ (s : Tools Value). (tool_call c s).1) same

  -- a tool is put in its place
  pub put_at_place : (a : ToolAnswer Value) (n : ℕ) (tool : Tool Value) (rows : List (Tool Value)) → tool_call c u ≡ (a, with_tool n tool u)
      → rows ≡ put_at n tool u.tools → record { tools = rows; off = u.off } ≡ (tool_call c t).1
  put_at_place a n tool rows h put =
      ap (λ (ts : List (Tool Value)). record { tools = ts; off = u.off }) put ∙ sym (ap (λ (s : ToolResult Value). s.1) h)
      ∙ ap (λ (s : Tools Value). (tool_call c s).1) same

-- whether the tool of a row has a name
pub in_use : (row tool : Tool Value) (b v : Bool) → row ≡ tool → b ≡ is_some row.name → b ≡ v → is_some tool.name ≡ v
in_use row tool b v is named known = sym (ap (λ (r : Tool Value). is_some r.name) is) ∙ sym named ∙ known

-- no tool has the id
module _ (id : ℤ) (none : None ≡ tool_place id) (ts : Tools Value) where
  pub no_id_used : (x : List ℕ) → tool_call (use_id id x) ts ≡ (wrong bad_id, ts)
  no_id_used x = no_place id (sym none) ts (λ n. use_tool n x ts (tool_at n ts).name)

  pub no_id_freed : tool_call (free_id id) ts ≡ (wrong bad_id, ts)
  no_id_freed = no_place id (sym none) ts (λ n. free_tool n ts)

  pub no_id_named : tool_call (name_of id) ts ≡ (wrong bad_id, ts)
  no_id_named = no_place id (sym none) ts (λ n. (a_name (tool_at n ts).name, ts))

  pub no_id_set : tool_call (set_of id) ts ≡ (wrong bad_id, ts)
  no_id_set = no_place id (sym none) ts (λ n. (a_set (tool_at n ts).set, ts))

  pub no_id_local : (b : BlockId) → tool_call (local_set_of id b) ts ≡ (wrong bad_id, ts)
  no_id_local b = no_place id (sym none) ts (λ n. (a_set (local_set (tool_at n ts).local b), ts))

  pub no_id_given : (z : ℤ) → tool_call (give_set id z) ts ≡ (wrong bad_id, ts)
  no_id_given z = no_place id (sym none) ts (λ n. set_events n (unsigned z) ts (tool_at n ts).name)

  pub no_id_local_given : (b : BlockId) (z : ℤ) → tool_call (give_local_set id b z) ts ≡ (wrong bad_id, ts)
  no_id_local_given b z = no_place id (sym none) ts (λ n. set_local_events n b (unsigned z) ts (tool_at n ts).name)

  pub no_id_registered : (z : ℤ) (f : Option Value) → tool_call (register id z f) ts ≡ (wrong bad_id, ts)
  no_id_registered z f = no_place id (sym none) ts (λ n. register_for n (only_bit (unsigned z) bits) f ts)

-- a tool has it
module _ (id : ℤ) (n : ℕ) (place : Some n ≡ tool_place id) (ts : Tools Value) where
  pub freed : tool_call (free_id id) ts ≡ free_tool n ts
  freed = at_place id n (sym place) ts (λ m. free_tool m ts)

  pub named : tool_call (name_of id) ts ≡ (a_name (tool_at n ts).name, ts)
  named = at_place id n (sym place) ts (λ m. (a_name (tool_at m ts).name, ts))

  pub set_read : tool_call (set_of id) ts ≡ (a_set (tool_at n ts).set, ts)
  set_read = at_place id n (sym place) ts (λ m. (a_set (tool_at m ts).set, ts))

  pub local_read : (b : BlockId) → tool_call (local_set_of id b) ts ≡ (a_set (local_set (tool_at n ts).local b), ts)
  local_read b = at_place id n (sym place) ts (λ m. (a_set (local_set (tool_at m ts).local b), ts))
