-- When what code did for a call is what the host's answer to it leads to, and the block that calls (Language Reference 6.3.4).
use Rattle.std.specs.Prelude.{◌≡◌, ℕ, List, Bool, true, false, Option}
use Rattle.pt_heap.specs.declared.value.Value.{Value}
use Rattle.pt_heap.specs.declared.object.Object.{Object}
use Rattle.pt_names.specs.Names.{Named}
use Rattle.pt_bind.specs.declared.arguments.BindErr.{BindErr}
use Rattle.pt_bind.specs.declared.arguments.BindErr.TheVariants as refusal
use Rattle.pt_frames.specs.declared.slot.Slot.{Slot}
use Rattle.pt_code.specs.View.{Ins}
use Rattle.sem_code.specs.slots.CodeObject.{CodeObject}
use Rattle.sem_run.specs.run.Host.{Here}
use Rattle.pt_moves.specs.sem_rows.pt_host.World.{Stores, Program, with_objects, in_world}
use Rattle.pt_moves.specs.sem_rows.pt_host.Trees.{Tree}
use Rattle.pt_moves.specs.sem_rows.declared.heap_rows.progress.Progress.{Progress}
use Rattle.pt_moves.specs.sem_rows.heap_rows.Leads.{by_tree, giving}
use Rattle.pt_moves.specs.sem_rows.heap_rows.Told.{told}
use Rattle.pt_moves.specs.sem_rows.heap_rows.Views.{slots_view, names_in}
use Rattle.pt_function_rows.specs.pt_code_facts.declared.facts.BlockFacts.{BlockFacts}
use Rattle.pt_function_rows.specs.pt_code_facts.Facts.{facts_view}

-- stores with these cells and objects
abbrev pub with_parts : (cells : List (Option Value)) → List Object → Stores → Stores
with_parts cells heap st = with_objects heap (in_world (record st.world { cells = cells }) st)

-- in programs of which this holds, what code did with the slots below a call, the cells and the heap is what an answer in the making
-- leads to
unfoldable pub Calls : (Program → Here Value → Stores → Type 0) → (Program → Here Value → Stores → Tree Value)
    → (old : List Slot) (cells : List (Option Value)) (heap : List Object) → Progress
    → (new : List Slot) (changed : List (Option Value)) (grown : List Object) → Type 0
Calls Where answer old cells heap p new changed grown =
    (program : Program) (code : CodeObject Value) (i : Ins) (h : Here Value) (st : Stores) → Where program h st
    → told program code i h p (slots_view new) (with_parts changed grown st)
    ≡ by_tree code i (giving code i (slots_view old)) (slots_view old) (answer program h (with_parts cells heap st))

-- the same of an answer that has to do with neither blocks nor cells
unfoldable pub Makes : (Here Value → Stores → Tree Value) → (old : List Slot) (heap : List Object) → Progress → (new : List Slot) (grown : List Object) → Type 0
Makes answer old heap p new grown =
    (cells : List (Option Value)) → Calls (λ program h st. Unit {0}) (λ program h st. answer h st) old cells heap p new cells grown

-- the block that calls: what is known of it, its local names, the numbers of its cells, and the names of its class
pub record Running : Type 0 where
  pub facts : BlockFacts
  pub locals : List (Option Value)
  pub numbers : List ℕ
  pub own : Named

abbrev pub running : BlockFacts → (locals : List (Option Value)) → (numbers : List ℕ) → (own : Named) → Running
running facts ls ns own = record { facts = facts; locals = ls; numbers = ns; own = own }

-- it is the one that runs here, with these names
pub record Runs (r : Running) (program : Program) (h : Here Value) (st : Stores) : Type 0 where
  pub facts : program.facts h.block ≡ facts_view r.facts
  pub names : st.names ≡ names_in (facts_view r.facts) r.locals r.numbers r.own

-- want of memory is none of what arguments are refused for
abbrev pub is_memory : BindErr → Bool
is_memory refusal.Memory = true
is_memory e = false
