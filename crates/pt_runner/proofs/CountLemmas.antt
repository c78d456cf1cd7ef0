-- What the run of code counts is the work of its strides.
use Rattle.std.proofs.Common.{arith, ◌≡◌, ℕ, ◌-◌, ◌^◌, min, max, Bool, List, Option, Some, refl, sym, ap}
use Rattle.std.proofs.lemmas.List.{length-map}
use Rattle.pt_heap.specs.declared.value.Value.{Value}
use Rattle.pt_frames.specs.declared.activation.Activation.{Activation}
use Rattle.sem_rows.specs.pt_host.World.{World}
use Rattle.pt_bare_runs.specs.Strides as bare
use Rattle.pt_bare_runs.specs.Strides.{Ending}
use Rattle.sem_rows.specs.heap_rows.Views.{slot_view}
use Rattle.pt_transfers.specs.pt_machine_state.declared.machine.Standing.{Standing}
use Rattle.pt_transfers.specs.pt_machine_state.declared.machine.Standing.TheVariants as standing
use Rattle.pt_transfers.specs.pt_machine_state.Views.{state_of}
use Rattle.pt_runner.specs.declared.ending.RunEnd.{RunEnd}
use Rattle.pt_runner.specs.declared.ending.RunEnd.TheVariants as end
use Rattle.pt_runner.specs.declared.ending.Totals.{Totals}
use Rattle.pt_runner.specs.Ends.{IsEnding}
use Rattle.pt_runner.specs.Work.{Work, both, work_at, slots_next, is_spent}
use Rattle.pt_runner.specs.Advancing.{counted, next_over, stopped_spent}

-- where the machine stands, as the run sees it
pub same_next : (s : Standing) (a : Activation) → next_over s a ≡ slots_next (state_of s a)
same_next standing.AtPlace a = ap (λ n. Some n) (sym (length-map a.slots slot_view))
same_next (standing.Returns v) a = refl
same_next (standing.Raises v) a = refl

pub same_spent : (name : ℕ → List ℕ) (x : RunEnd) (e : Ending Value World) → IsEnding name x e → is_spent e ≡ stopped_spent (Some x)
same_spent name end.Done bare.done i = refl
same_spent name end.Done (bare.exited k t) i = absurd i
same_spent name end.Done (bare.raised v w) i = absurd i
same_spent name end.Done bare.spent i = absurd i
same_spent name end.Done (bare.outside_at w l) i = absurd i
same_spent name (end.Exited status text) bare.done i = absurd i
same_spent name (end.Exited status text) (bare.exited k t) i = refl
same_spent name (end.Exited status text) (bare.raised v w) i = absurd i
same_spent name (end.Exited status text) bare.spent i = absurd i
same_spent name (end.Exited status text) (bare.outside_at w l) i = absurd i
same_spent name (end.Raised told) bare.done i = absurd i
same_spent name (end.Raised told) (bare.exited k t) i = absurd i
same_spent name (end.Raised told) (bare.raised v w) i = refl
same_spent name (end.Raised told) bare.spent i = absurd i
same_spent name (end.Raised told) (bare.outside_at w l) i = absurd i
same_spent name end.Spent bare.done i = absurd i
same_spent name end.Spent (bare.exited k t) i = absurd i
same_spent name end.Spent (bare.raised v w) i = absurd i
same_spent name end.Spent bare.spent i = refl
same_spent name end.Spent (bare.outside_at w l) i = absurd i
same_spent name (end.Outside what line) bare.done i = absurd i
same_spent name (end.Outside what line) (bare.exited k t) i = absurd i
same_spent name (end.Outside what line) (bare.raised v w) i = absurd i
same_spent name (end.Outside what line) bare.spent i = absurd i
same_spent name (end.Outside what line) (bare.outside_at w l) i = refl

-- totals that tell of work, whose count of instructions stands still at the greatest u64
pub record TellsOf (t : Totals) (w : Work) : Type 0 where
  pub instructions : t.instructions ≡ min w.instructions (2 ^ 64 - 1)
  pub depth : t.depth ≡ w.depth

-- a stride's work more
pub tells_more : (t : Totals) (w : Work) (next : Option ℕ) (spent : Bool) (units : ℕ) → TellsOf t w
    → TellsOf (counted next spent units t) (both w (work_at next spent))
tells_more t w next spent units told = record {
  instructions = omega (arith, told.instructions);
  depth = ap (λ d. max d (work_at next spent).depth) told.depth;
}
