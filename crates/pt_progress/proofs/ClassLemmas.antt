-- The body of a class came to its end as in a run.
use Rattle.std.proofs.Common.{◌≡◌, ℕ, List, Option, Some, None, refl, sym, subst}
use Rattle.std.specs.Prelude.{codes}
use Rattle.pt_base.specs.declared.numbers.Line.{Line}
use Rattle.pt_base.specs.declared.numbers.ObjId.{ObjId}
use Rattle.pt_base.specs.declared.numbers.Pc.{Pc}
use Rattle.pt_base.specs.declared.what.What.TheVariants.{Feature, Heap}
use Rattle.pt_heap.specs.declared.value.Value.{Value}
use Rattle.pt_heap.specs.declared.object.Object.{Object}
use Rattle.pt_frames.specs.declared.activation.Activation.{Activation}
use Rattle.sem_rows.specs.pt_host.Classes.{base_of}
use Rattle.sem_rows.specs.pt_host.Errors.{error_saying}
use Rattle.sem_rows.specs.pt_host.World.{IsAllotted, allot}
use Rattle.sem_rows.specs.pt_host.declared.classes.Base.TheVariants as bases
use Rattle.sem_rows.specs.pt_host.declared.places.TheConstants.{TYPE_ERROR}
use Rattle.pt_transfers.specs.pt_machine_state.Applies.{class_of}
use Rattle.pt_transfers.specs.pt_machine_state.Changes.{given_back, visible_line, with_class}
use Rattle.pt_transfers.specs.pt_machine_state.Views.{active_of}
use Rattle.pt_transfers.specs.pt_machine_state.declared.blocks.BlockCode.{BlockCode}
use Rattle.pt_transfers.specs.pt_machine_state.declared.blocks.Blocks.{Blocks}
use Rattle.pt_transfers.specs.pt_machine_state.declared.machine.Machine.{Machine}
use Rattle.pt_transfers.specs.pt_machine_state.declared.machine.MachineEnd.TheVariants as end
use Rattle.pt_transfers.specs.pt_machine_state.declared.machine.Stride.{Stride}
use Rattle.pt_transfers.specs.pt_machine_state.declared.machine.Stride.TheVariants as stride
use Rattle.pt_transfers.specs.pt_machine_state.declared.writes.Writes.{Writes}
use Rattle.pt_transfers.proofs.pt_machine_state.TakeLemmas.{takes_class, takes_full, takes_no_base, takes_no_room, takes_unavailable}
use Rattle.pt_progress.specs.Arising.{Arises, ArisesOf}
use Rattle.pt_progress.specs.Making.{EndsClass, IsMade}

module _ (blocks : Blocks) (next : Pc) (a : Activation) (m : Machine) where
  pub class_made : (base : ObjId) (cell : Option ℕ) (o : Object) (v : Value) (h : List Object) (new : Machine) → o ≡ class_of blocks a base
      → IsAllotted (allot o m.heap) (Some v) h → new ≡ given_back next v (with_class cell v (record m { heap = h }))
      → IsMade blocks next a base cell stride.Goes m new
  class_made base cell o v h new is given done class on caller w u =
      subst (λ n. EndsClass blocks caller next a class cell stride.Goes m w n w) (sym done)
      (takes_class blocks caller next m w a class cell base on v h (subst (λ x. IsAllotted (allot x m.heap) (Some v) h) is given)) u

  -- there is no room for it
  pub class_full : (base : ObjId) (cell : Option ℕ) (o : Object) (h : List Object) (r : Stride) → o ≡ class_of blocks a base → IsAllotted (allot o m.heap) None h
      → (line : Line) × ((r ≡ stride.Ends (end.Outside Heap line)) × (line.0 ≡ visible_line blocks (record m { heap = h })))
      → IsMade blocks next a base cell r m (record m { heap = h })
  class_full base cell o h r is given (line, (ends, at)) class on caller w u =
      subst (λ s. EndsClass blocks caller next a class cell s m w (record m { heap = h }) w) (sym ends)
      (takes_full blocks caller next m w a class cell (record m { heap = h }) refl line at base on h (subst (λ x. IsAllotted (allot x m.heap) None h) is given)) u

  module _ (caller : BlockCode) (w : Writes) (class : Value) (cell : Option ℕ) where
    -- such bases aren't there yet
    pub base_unavailable : (r : Stride) → base_of m.heap class ≡ bases.Unavailable
        → (line : Line) × ((r ≡ stride.Ends (end.Outside Feature line)) × (line.0 ≡ visible_line blocks m)) → EndsClass blocks caller next a class cell r m w m w
    base_unavailable r is (line, (ends, at)) u =
        subst (λ s. EndsClass blocks caller next a class cell s m w m w) (sym ends) (takes_unavailable blocks caller next m w a class cell m refl line at is) u

    -- a TypeError arises in place of a class on what is no base
    no-base-by : (r : Stride) (new : Machine) (w1 : Writes) (o : Option Value) (h : List Object) → base_of m.heap class ≡ bases.NoBase
        → IsAllotted (error_saying TYPE_ERROR (codes "bad argument") None (active_of m) m.heap) o h
        → Arises blocks caller o r (record m { heap = h }) w new w1 → EndsClass blocks caller next a class cell r m w new w1
    no-base-by r new w1 (Some v) h is given (goes, (done, adds)) u =
        subst (λ s. EndsClass blocks caller next a class cell s m w new w1) (sym goes)
        (subst (λ n. EndsClass blocks caller next a class cell stride.Goes m w n w1) (sym done) (takes_no_base blocks caller next m w a class cell is v h w1 given adds)) u
    no-base-by r new w1 None h is given (line, (ends, (at, (done, same)))) u =
        subst (λ s. EndsClass blocks caller next a class cell s m w new w1) (sym ends)
        (subst (λ n. EndsClass blocks caller next a class cell (stride.Ends (end.Outside Heap line)) m w n w1) (sym done)
        (subst (λ y. EndsClass blocks caller next a class cell (stride.Ends (end.Outside Heap line)) m w (record m { heap = h }) y) (sym same)
        (takes_no_room blocks caller next m w a class cell (record m { heap = h }) refl line at is h given))) u

    pub no_base : (r : Stride) (new : Machine) (w1 : Writes) (t : List ℕ) → t ≡ codes "bad argument" → base_of m.heap class ≡ bases.NoBase
        → ArisesOf (error_saying TYPE_ERROR t None (active_of m) m.heap) blocks caller r m w new w1 → EndsClass blocks caller next a class cell r m w new w1
    no_base r new w1 t same is it =
        no-base-by r new w1 it.exception it.heap is (subst (λ x. IsAllotted (error_saying TYPE_ERROR x None (active_of m) m.heap) it.exception it.heap) same it.allotted) it.arises
