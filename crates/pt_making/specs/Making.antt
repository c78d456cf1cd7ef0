-- What the machine does as the body of a class has ended, for which an ask waits: the class is made of
-- the names that the body has bound, and stands in its cell; or its base is none, and a TypeError
-- arises (Language Reference 8.8).
use Rattle.std.specs.Prelude.{◌≡◌, ℕ, List, [], Bool, Option, Some, None, codes}
use Rattle.pt_base.specs.declared.numbers.ObjId.{ObjId}
use Rattle.pt_base.specs.declared.numbers.Pc.{Pc}
use Rattle.pt_base.specs.declared.what.What.TheVariants.{Feature, Heap}
use Rattle.pt_heap.specs.declared.value.Value.{Value}
use Rattle.pt_heap.specs.declared.object.Object.{Object}
use Rattle.pt_names.specs.Names.{bindings_of}
use Rattle.pt_frames.specs.Slots.{active_in}
use Rattle.pt_frames.specs.declared.activation.Activation.{Activation}
use Rattle.pt_giving.specs.pt_turning.pt_telling.pt_transfers.pt_machine_state.declared.blocks.BlockCode.{BlockCode}
use Rattle.pt_giving.specs.pt_turning.pt_telling.pt_transfers.pt_machine_state.Changes.{with_class}
use Rattle.pt_giving.specs.pt_host.declared.classes.Base.{Base}
use Rattle.pt_giving.specs.pt_host.declared.classes.Base.TheVariants.{On, Unavailable, NoBase}
use Rattle.pt_giving.specs.pt_host.declared.places.TheConstants.{TYPE_ERROR}
use Rattle.pt_giving.specs.pt_host.Classes.{base_of, bound_entries, class_with}
use Rattle.pt_giving.specs.pt_host.Errors.{error_saying}
use Rattle.pt_giving.specs.pt_host.World.{Allotted, IsAllotted, allot}
use Rattle.pt_giving.specs.pt_purposes.declared.purpose.Called.{Called}
use Rattle.pt_giving.specs.pt_turning.pt_telling.pt_run_state.declared.machine.Machine.{Machine}
use Rattle.pt_giving.specs.pt_failing.declared.failing.Failed.{Failed}
use Rattle.pt_giving.specs.pt_failing.declared.failing.Failed.TheVariants.{Leaves}
use Rattle.pt_giving.specs.pt_failing.declared.failing.Failing.{Failing}
use Rattle.pt_giving.specs.pt_failing.Failing.{FailedSo, FailsOf, goes, leaving, with_heap}
use Rattle.pt_giving.specs.Giving.{given_to}

abbrev pub class_of_body : Activation → (body : BlockCode) → (base : ObjId) → Object
class_of_body closed body base =
    class_with body.name base (bound_entries [] (bindings_of closed.names))

abbrev pub filled : (cell : Option ℕ) → Value → Machine → Machine
filled cell v m = record m { code = with_class cell v m.code }

-- one that was made is given, if there was room for it
abbrev pub made_by : BlockCode → (next : Pc) → Option Value → (cell : Option ℕ) → Option Called
    → (is_act : Bool) → Machine → FailedSo
made_by block next (Some v) cell called acts m =
    goes (given_to block next v called acts (filled cell v m))
made_by block next None cell called acts m = leaving Heap m

-- of this, put into the heap if there is room
pub record MakesOf (made : Allotted) (block : BlockCode) (next : Pc) (cell : Option ℕ)
    (called : Option Called) (acts : Bool) (old : Machine) (r : Failed) (new : Machine) : Type 0
  where
    pub class : Option Value
    pub heap : List Object
    pub allotted : IsAllotted made class heap
    pub comes : record { failed = r; machine = new }
        ≡ made_by block next class cell called acts (with_heap heap old)

abbrev pub failing_here : Option Called → (is_act : Bool) → Machine → Failing
failing_here called acts m = record {
  called = called;
  is_act = acts;
  active = active_in m.code.here.slots;
}

-- the machine did so, by its base
abbrev pub MakesBy : Base → BlockCode → (next : Pc) → (closed : Activation) → (body : BlockCode)
    → (cell : Option ℕ) → Option Called → (is_act : Bool) → (context : Option Value)
    → (old : Machine) → Failed → (new : Machine) → Type 0
MakesBy (On base) block next closed body cell called acts context old r new =
    MakesOf (allot (class_of_body closed body base) old.code.heap) block next cell called acts old
    r new
MakesBy Unavailable block next closed body cell called acts context old r new =
    record { failed = r; machine = new } ≡ leaving Feature old
MakesBy NoBase block next closed body cell called acts context old r new =
    FailsOf (error_saying TYPE_ERROR (codes "bad argument") None context old.code.heap) block
    (failing_here called acts old) old r new

abbrev pub MakesSo : BlockCode → (next : Pc) → (closed : Activation) → (body : BlockCode)
    → (base : Value) → (cell : Option ℕ) → Option Called → (is_act : Bool)
    → (context : Option Value) → (old : Machine) → Failed → (new : Machine) → Type 0
MakesSo block next closed body base cell called acts context old r new =
    MakesBy (base_of old.code.heap base) block next closed body cell called acts context old r new
