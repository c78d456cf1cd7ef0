-- An exception that arose is what a run does with what the instruction came to.
use Rattle.std.proofs.Common.{◌≡◌, ◌+◌, ◌≤◌, ℕ, List, Bool, Option, Some, None, refl, sym, subst, length}
use Rattle.std.specs.Prelude.{codes, IfOk, Result, Ok, Err}
use Rattle.pt_base.specs.declared.numbers.BlockId.{BlockId}
use Rattle.pt_base.specs.declared.numbers.ObjId.{ObjId}
use Rattle.pt_base.specs.declared.numbers.Pc.{Pc}
use Rattle.pt_base.specs.declared.what.What.TheVariants.{Heap}
use Rattle.pt_bind.specs.declared.arguments.Locals.{Locals}
use Rattle.pt_frames.specs.declared.purpose.Purpose.{Purpose}
use Rattle.pt_frames.specs.declared.purpose.Purpose.TheVariants as purpose
use Rattle.pt_heap.specs.declared.value.Value.{Value}
use Rattle.pt_heap.specs.declared.object.Object.{Object}
use Rattle.sem_rows.specs.declared.heap_rows.progress.Progress.{Progress}
use Rattle.sem_rows.specs.declared.heap_rows.progress.Progress.TheVariants as progress
use Rattle.sem_rows.specs.pt_host.Calls.{arguments_of}
use Rattle.sem_rows.specs.pt_host.Errors.{error, error_saying}
use Rattle.sem_rows.specs.pt_host.World.{Allotted, IsAllotted, allot}
use Rattle.sem_rows.specs.pt_host.declared.places.TheConstants.{RECURSION_ERROR, RUNTIME_ERROR}
use Rattle.sem_run.specs.run.State.{most_activations}
use Rattle.pt_transfers.specs.pt_machine_state.declared.blocks.BlockCode.{BlockCode}
use Rattle.pt_transfers.specs.pt_machine_state.declared.blocks.Blocks.{Blocks}
use Rattle.pt_transfers.specs.pt_machine_state.declared.machine.Machine.{Machine}
use Rattle.pt_transfers.specs.pt_machine_state.declared.machine.MachineEnd.TheVariants as end
use Rattle.pt_transfers.specs.pt_machine_state.declared.machine.Stride.{Stride}
use Rattle.pt_transfers.specs.pt_machine_state.declared.machine.Stride.TheVariants as stride
use Rattle.pt_transfers.specs.pt_machine_state.declared.writes.Writes.{Writes}
use Rattle.pt_transfers.specs.pt_machine_state.Applies.{Applied}
use Rattle.pt_transfers.specs.pt_machine_state.Views.{active_of}
use Rattle.pt_transfers.proofs.pt_machine_state.FailLemmas.{applied_fails, applied_fails_saying, fails_outside, fails_saying_outside, none_again}
use Rattle.pt_transfers.proofs.pt_machine_state.CallLemmas.{fails_to_open, no_room_to_fail}
use Rattle.pt_progress.specs.Arising.{Arises, ArisesOf, Leaves, LeavesBy}

-- one by which a block was left whose result is the value of its call arises where that was called
module _ (blocks : Blocks) (block : BlockCode) (r : Stride) (m : Machine) (w : Writes) (new : Machine) (w1 : Writes) where
  arises-by : (o : Option Value) (h : List Object) → Leaves blocks block purpose.Result o r (record m { heap = h }) w new w1 → Arises blocks block o r (record m { heap = h }) w new w1
  arises-by (Some v) h it = it
  arises-by None h it = it

  pub arisen_plainly : (made : Allotted) → LeavesBy made blocks block purpose.Result r m w new w1 → ArisesOf made blocks block r m w new w1
  arisen_plainly made it = record { exception = it.exception; heap = it.heap; allotted = it.allotted; arises = arises-by it.exception it.heap it.leaves }

module _ (blocks : Blocks) (block : BlockCode) (next : Pc) (m : Machine) (w : Writes) where
  abbrev Does : Progress → Stride → Machine → Writes → Type 0
  Does p r new w1 = Applied blocks block next p r m w new w1

  module _ (r : Stride) (new : Machine) (w1 : Writes) where
    fails-by : (class : ObjId) (arg : Option Value) (o : Option Value) (h : List Object) → IsAllotted (allot (error class (arguments_of arg) None (active_of m)) m.heap) o h
        → Arises blocks block o r (record m { heap = h }) w new w1 → Does (progress.Fails class arg) r new w1
    fails-by class arg (Some v) h given (goes, (is, adds)) =
        subst (λ s. Does (progress.Fails class arg) s new w1) (sym goes)
        (subst (λ n. Does (progress.Fails class arg) stride.Goes n w1) (sym is) (applied_fails blocks block next m w class arg v h w1 given adds))
    fails-by class arg None h given (line, (ends, (at, (is, same)))) =
        subst (λ s. Does (progress.Fails class arg) s new w1) (sym ends)
        (subst (λ n. Does (progress.Fails class arg) (stride.Ends (end.Outside Heap line)) n w1) (sym is)
        (subst (λ y. Does (progress.Fails class arg) (stride.Ends (end.Outside Heap line)) (record m { heap = h }) y) (sym same)
        (fails_outside blocks block next m w (record m { heap = h }) refl line at class arg h given)))

    pub fails_arisen : (class : ObjId) (arg : Option Value) → ArisesOf (allot (error class (arguments_of arg) None (active_of m)) m.heap) blocks block r m w new w1
        → Does (progress.Fails class arg) r new w1
    fails_arisen class arg it = fails-by class arg it.exception it.heap it.allotted it.arises

    saying-by : (class : ObjId) (text : List ℕ) (o : Option Value) (h : List Object) → IsAllotted (error_saying class text None (active_of m) m.heap) o h
        → Arises blocks block o r (record m { heap = h }) w new w1 → Does (progress.FailsSaying class text) r new w1
    saying-by class text (Some v) h given (goes, (is, adds)) =
        subst (λ s. Does (progress.FailsSaying class text) s new w1) (sym goes)
        (subst (λ n. Does (progress.FailsSaying class text) stride.Goes n w1) (sym is) (applied_fails_saying blocks block next m w class text v h w1 given adds))
    saying-by class text None h given (line, (ends, (at, (is, same)))) =
        subst (λ s. Does (progress.FailsSaying class text) s new w1) (sym ends)
        (subst (λ n. Does (progress.FailsSaying class text) (stride.Ends (end.Outside Heap line)) n w1) (sym is)
        (subst (λ y. Does (progress.FailsSaying class text) (stride.Ends (end.Outside Heap line)) (record m { heap = h }) y) (sym same)
        (fails_saying_outside blocks block next m w (record m { heap = h }) refl line at class text h given)))

    pub saying_arisen : (class : ObjId) (text : List ℕ) → ArisesOf (error_saying class text None (active_of m) m.heap) blocks block r m w new w1
        → Does (progress.FailsSaying class text) r new w1
    saying_arisen class text it = saying-by class text it.exception it.heap it.allotted it.arises

    -- where none is active that would arise once more
    pub none_arisen : active_of m ≡ None → ArisesOf (error_saying RUNTIME_ERROR (codes "no active exception") None (active_of m) m.heap) blocks block r m w new w1
        → Does progress.RaisesAgain r new w1
    none_arisen is it = none_again blocks block next m w r new w1 is (saying_arisen RUNTIME_ERROR (codes "no active exception") it)

    -- in place of a block too many

    module _ (b : BlockId) (hidden : Bool) (ls : Locals) (why : Purpose) (full : most_activations ≤ length m.frames.activations + 1) where
      too-deep-by : (o : Option Value) (h : List Object) → IsAllotted (error_saying RECURSION_ERROR (codes "too many activations") None (active_of m) m.heap) o h
          → Leaves blocks block why o r (record m { heap = h }) w new w1 → Does (progress.Calls b hidden ls why) r new w1
      too-deep-by (Some v) h given (goes, (is, adds)) =
          subst (λ s. Does (progress.Calls b hidden ls why) s new w1) (sym goes)
          (subst (λ n. Does (progress.Calls b hidden ls why) stride.Goes n w1) (sym is) (fails_to_open blocks block next m w b hidden ls why v h w1 full given adds))
      too-deep-by None h given (line, (ends, (at, (is, same)))) =
          subst (λ s. Does (progress.Calls b hidden ls why) s new w1) (sym ends)
          (subst (λ n. Does (progress.Calls b hidden ls why) (stride.Ends (end.Outside Heap line)) n w1) (sym is)
          (subst (λ y. Does (progress.Calls b hidden ls why) (stride.Ends (end.Outside Heap line)) (record m { heap = h }) y) (sym same)
          (no_room_to_fail blocks block next m w b hidden ls why h (record m { heap = h }) line full given refl at)))

      pub too_deep_arisen : LeavesBy (error_saying RECURSION_ERROR (codes "too many activations") None (active_of m) m.heap) blocks block why r m w new w1
          → Does (progress.Calls b hidden ls why) r new w1
      too_deep_arisen it = too-deep-by it.exception it.heap it.allotted it.leaves

-- in place of an exception that is active, by its text
pub none_active : {E : Type 0} (blocks : Blocks) (block : BlockCode) (m new : Machine) (w w1 : Writes) (t : List ℕ) (o : Result Stride E) → t ≡ codes "no active exception" → active_of m ≡ None
    → IfOk o (λ r. ArisesOf (error_saying RUNTIME_ERROR t None (active_of m) m.heap) blocks block r m w new w1)
    → IfOk o (λ r. (next : Pc) → Applied blocks block next progress.RaisesAgain r m w new w1)
none_active blocks block m new w w1 t (Ok r) same none arises = λ next.
    none_arisen blocks block next m w r new w1 none
    (subst (λ u. ArisesOf (error_saying RUNTIME_ERROR u None (active_of m) m.heap) blocks block r m w new w1) same arises)
none_active blocks block m new w w1 t (Err e) same none arises = tt
