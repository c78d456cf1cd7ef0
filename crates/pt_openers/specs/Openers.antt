-- Activations that wait, the newest first: whether another one may open, which exception is active in
-- them, and whether a hook runs (Language Reference 4.1, 7.8; Library Reference, `sys.settrace`).
use Rattle.std.specs.Prelude.{suc, nat_le, List, [], ◌∷◌, length, Bool, false, ◌||◌, Option, None}
use Rattle.sem_control.specs.control.Bases.{or_else}
use Rattle.sem_run.specs.run.State.{most_activations}
use Rattle.pt_heap.specs.declared.value.Value.{Value}

module _ {P : Type 0} where
  -- with the newest of all, which isn't among them, as many are open as may be
  abbrev pub is_full : List P → Bool
  is_full os = nat_le most_activations (suc (length os))

  -- the exception of the newest that has one
  abbrev pub active_in : (exception : P → Option Value) → List P → Option Value
  active_in exception [] = None
  active_in exception (o ∷ os) = or_else (exception o) (active_in exception os)

  -- one of them waits for a hook
  abbrev pub hook_runs : (is_for_hook : P → Bool) → List P → Bool
  hook_runs is_for_hook [] = false
  hook_runs is_for_hook (o ∷ os) = is_for_hook o || hook_runs is_for_hook os
