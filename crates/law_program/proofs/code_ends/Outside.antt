-- Whichever operations that aren't supported an act asks for, a run over the heap ends the same there.
use Rattle.std.proofs.Common.{◌≡◌, ℕ, List, [], true, false, Option, Some, None, refl, sym, ap, ◌∙◌, if◌then◌else◌}
use Rattle.std.specs.Prelude.{nat_lt}
use Rattle.pt_base.specs.declared.what.What.TheVariants.{Feature}
use Rattle.pt_heap.specs.declared.value.Value.{Value}
use Rattle.sem_control.specs.control.Turn as T
use Rattle.sem_control.specs.control.Turn.{Mark, Operation, Reply, Turn}
use Rattle.sem_code.specs.slots.Slots as slots
use Rattle.sem_code.specs.slots.CodeObject.{CodeObject, Extras}
use Rattle.sem_run.specs.run.Machine.{Machine}
use Rattle.sem_run.specs.run.State.{OpenAsk}
use Rattle.sem_run.specs.run.Step.{callee_of, line_before}
use Rattle.sem_run.specs.transitions.Transitions.{by_answer}
use Rattle.sem_run.specs.transitions.Successors.{successor}
use Rattle.sem_rows.specs.pt_host.World.{Names, World, Program}
use Rattle.sem_rows.specs.pt_host.HeapHost.{heap_host}
use Rattle.sem_rows.specs.heap_rows.Leads.{LeavesFeature, HasHeapExtras}
use Rattle.pt_bare_runs.specs.Strides as B
use Rattle.pt_bare_runs.specs.Strides.{State, Stride, take_turn}
use Rattle.law_program.proofs.code_ends.Turns.{Extra, tuple_join, dict_merge, super, operation, AlikeTurns, same, extra}

module _ (program : Program) (machine : Machine (slots.State Value) Value) (n : ℕ) where
  abbrev Here : Type 0
  Here = State (slots.State Value) Names Value World

  -- the profile is left, by an act with its mark where it has one
  abbrev left : Here → Stride (slots.State Value) Names Value World
  left s = B.ends [] s.units (B.outside_at Feature (B.visible_line machine (heap_host program) s))

  abbrev left_at : Option Mark → Here → Stride (slots.State Value) Names Value World
  left_at None s = left s
  left_at (Some m) s =
      if nat_lt s.units n then B.behind (B.line_logged machine (heap_host program) m (line_before s.here) (B.take_unit m s)) (left (B.take_unit m s))
      else B.ends [] s.units B.spent

  leaves_so : (o : Operation) → LeavesFeature o → (m : Option Mark) (vs : List Value) (k : Reply Value Value → slots.State Value) (s : Here)
      → take_turn machine (heap_host program) n (T.act m (T.seek (T.operate o vs)) k) s ≡ left_at m s
  leaves_so o leaves None vs k s =
      let q : OpenAsk (slots.State Value) Value = record { ask = T.seek (T.operate o vs); next = k; is_act = false; callee = None } in
      ap (λ t. B.lead machine (heap_host program) q.ask (successor (by_answer q t)) s) (leaves program vs (B.here_of machine (heap_host program) s) (B.store s))
  leaves_so o leaves (Some m) vs k s =
      let z : Here = B.take_unit m s in
      let q : OpenAsk (slots.State Value) Value
      = record { ask = T.seek (T.operate o vs); next = k; is_act = true; callee = callee_of (heap_host program) (T.seek (T.operate o vs)) s.world } in
      ap (λ t. if nat_lt s.units n
      then B.behind (B.line_logged machine (heap_host program) m (line_before s.here) z) (B.lead machine (heap_host program) q.ask (successor (by_answer q t)) z)
      else B.ends [] s.units B.spent) (leaves program vs (B.here_of machine (heap_host program) z) (B.store z))

  pub alike_strides : (code : CodeObject Value) (depth_at : ℕ → ℕ) (extras : Extras) → ((x : Extra) → LeavesFeature (operation code.extras x))
      → ((x : Extra) → LeavesFeature (operation extras x)) → (t u : Turn (slots.State Value) Value) → AlikeTurns code depth_at extras t u → (s : Here)
      → take_turn machine (heap_host program) n t s ≡ take_turn machine (heap_host program) n u s
  alike_strides code depth_at extras f g _ _ (same t) s = refl
  alike_strides code depth_at extras f g _ _ (extra m x vs k k') s =
      leaves_so (operation code.extras x) (f x) m vs k s ∙ sym (leaves_so (operation extras x) (g x) m vs k' s)

pub extras_leave : (code : CodeObject Value) → HasHeapExtras code → (x : Extra) → LeavesFeature (operation code.extras x)
extras_leave code has tuple_join = has.tuple_join
extras_leave code has dict_merge = has.dict_merge
extras_leave code has super = has.super
