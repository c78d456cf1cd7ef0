-- By the base of a class.
use Rattle.std.proofs.Common.{◌≡◌, ℕ, List, Bool, Option, None, sym, subst}
use Rattle.std.specs.Prelude.{codes}
use Rattle.pt_base.specs.declared.numbers.ObjId.{ObjId}
use Rattle.pt_base.specs.declared.numbers.Pc.{Pc}
use Rattle.pt_base.specs.declared.what.What.TheVariants.{Feature}
use Rattle.pt_heap.specs.declared.value.Value.{Value}
use Rattle.pt_frames.specs.declared.activation.Activation.{Activation}
use Rattle.pt_giving.specs.pt_turning.pt_telling.pt_transfers.pt_machine_state.declared.blocks.BlockCode.{BlockCode}
use Rattle.pt_giving.specs.pt_host.declared.classes.Base.TheVariants.{On, Unavailable, NoBase}
use Rattle.pt_giving.specs.pt_host.declared.places.TheConstants.{TYPE_ERROR}
use Rattle.pt_giving.specs.pt_host.Classes.{base_of}
use Rattle.pt_giving.specs.pt_host.Errors.{error_saying}
use Rattle.pt_giving.specs.pt_host.World.{allot}
use Rattle.pt_giving.specs.pt_purposes.declared.purpose.Called.{Called}
use Rattle.pt_giving.specs.pt_turning.pt_telling.pt_run_state.declared.machine.Machine.{Machine}
use Rattle.pt_giving.specs.pt_failing.declared.failing.Failed.{Failed}
use Rattle.pt_giving.specs.pt_failing.declared.failing.Failing.{Failing}
use Rattle.pt_giving.specs.pt_failing.Failing.{FailsOf, leaving}
use Rattle.pt_making.specs.Making.{class_of_body, failing_here, MakesOf, MakesBy, MakesSo}

pub said_so : (block : BlockCode) (f : Failing) (context : Option Value) (old : Machine)
    (r : Failed) (new : Machine) (t : List ℕ) → t ≡ codes "bad argument"
    → FailsOf (error_saying TYPE_ERROR t None context old.code.heap) block f old r new
    → FailsOf (error_saying TYPE_ERROR (codes "bad argument") None context old.code.heap) block f
    old r new
said_so block f context old r new t is did =
    subst (λ u. FailsOf (error_saying TYPE_ERROR u None context old.code.heap) block f old r new) is
    did

module _ (block : BlockCode) (next : Pc) (closed : Activation) (body : BlockCode) (base : Value)
    (cell : Option ℕ) (called : Option Called) (acts : Bool) (context : Option Value)
    (old : Machine) (r : Failed) (new : Machine) where
  pub where_on : (b : ObjId) → base_of old.code.heap base ≡ On b
      → MakesOf (allot (class_of_body closed body b) old.code.heap) block next cell called acts old
      r new
      → MakesSo block next closed body base cell called acts context old r new
  where_on b is did =
      subst (λ x. MakesBy x block next closed body cell called acts context old r new) (sym is) did

  pub where_unavailable : base_of old.code.heap base ≡ Unavailable
      → record { failed = r; machine = new } ≡ leaving Feature old
      → MakesSo block next closed body base cell called acts context old r new
  where_unavailable is did =
      subst (λ x. MakesBy x block next closed body cell called acts context old r new) (sym is) did

  pub where_none : base_of old.code.heap base ≡ NoBase
      → FailsOf (error_saying TYPE_ERROR (codes "bad argument") None context old.code.heap) block
      (failing_here called acts old) old r new
      → MakesSo block next closed body base cell called acts context old r new
  where_none is did =
      subst (λ x. MakesBy x block next closed body cell called acts context old r new) (sym is) did
