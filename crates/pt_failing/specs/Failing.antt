-- What the machine does where an instruction fails: the exception that it raises or that is made for
-- it arises, in the context of the one that is active in the run; or the run leaves the profile of the
-- language, also where the heap is full (Language Reference 7.8, 8.4).
use Rattle.std.specs.Prelude.{◌≡◌, List, Option, Some, None}
use Rattle.pt_base.specs.declared.numbers.ObjId.{ObjId}
use Rattle.pt_base.specs.declared.what.What.{What}
use Rattle.pt_base.specs.declared.what.What.TheVariants.{Heap}
use Rattle.pt_heap.specs.declared.value.Value.{Value}
use Rattle.pt_heap.specs.declared.value.Value.TheVariants.{Obj}
use Rattle.pt_heap.specs.declared.object.Object.{Object}
use Rattle.sem_control.specs.control.Bases.{or_else}
use Rattle.pt_openers.specs.Openers.{active_in}
use Rattle.pt_answering.specs.pt_replying.pt_turning.sem_rows.pt_host.World.{Allotted, IsAllotted, allot}
use Rattle.pt_answering.specs.pt_replying.pt_turning.sem_rows.pt_host.Calls.{arguments_of}
use Rattle.pt_answering.specs.pt_replying.pt_turning.sem_rows.pt_host.Errors.{arise_while, error, error_saying, object_place}
use Rattle.pt_answering.specs.pt_replying.pt_turning.sem_rows.declared.heap_rows.progress.Progress.{Progress}
use Rattle.pt_answering.specs.pt_replying.pt_turning.sem_rows.declared.heap_rows.progress.Progress.TheVariants as progress
use Rattle.pt_answering.specs.pt_replying.pt_turning.pt_telling.pt_transfers.pt_machine_state.declared.blocks.BlockCode.{BlockCode}
use Rattle.pt_answering.specs.pt_replying.pt_turning.pt_telling.pt_run_state.pt_purposes.Seen.{active_of}
use Rattle.pt_answering.specs.pt_replying.pt_turning.pt_telling.pt_run_state.declared.machine.Machine.{Machine}
use Rattle.pt_answering.specs.pt_replying.pt_turning.pt_telling.Telling.{Told}
use Rattle.pt_answering.specs.pt_arising.Arising.{arisen}
use Rattle.pt_failing.specs.declared.failing.Failed.{Failed}
use Rattle.pt_failing.specs.declared.failing.Failed.TheVariants.{Goes, Leaves, Further}
use Rattle.pt_failing.specs.declared.failing.Failing.{Failing}

-- what came of it, and the machine then
pub record FailedSo : Type 0 where
  pub failed : Failed
  pub machine : Machine

abbrev pub goes : Told → FailedSo
goes r = record { failed = Goes r.event; machine = r.machine }

abbrev pub leaving : What → Machine → FailedSo
leaving what m = record { failed = Leaves what; machine = m }

abbrev pub left : Progress → Machine → FailedSo
left p m = record { failed = Further p; machine = m }

-- the exception that is active in the run
abbrev pub context_of : (active : Option Value) → Machine → Option Value
context_of active m = or_else active (active_in active_of m.openers)

abbrev pub with_heap : List Object → Machine → Machine
with_heap h m = record m { code = record m.code { heap = h } }

module _ (block : BlockCode) where
  abbrev pub arisen_by : Value → Failing → Machine → Told
  arisen_by v f m = arisen block v f.called f.is_act f.active m

  -- one that is there already has the one that is active as its context
  abbrev pub raised_there : ObjId → Failing → Machine → Told
  raised_there e f m =
      arisen_by (Obj e) f
      (with_heap (arise_while (object_place (context_of f.active m)) e m.code.heap) m)

  -- one that was made arises, if there was room for it
  abbrev pub failed_by : Option Value → Failing → Machine → FailedSo
  failed_by (Some v) f m = goes (arisen_by v f m)
  failed_by None f m = record { failed = Leaves Heap; machine = m }

-- of this, put into the heap if there is room
pub record FailsOf (made : Allotted) (block : BlockCode) (f : Failing) (old : Machine) (r : Failed)
    (new : Machine) : Type 0 where
  pub exception : Option Value
  pub heap : List Object
  pub allotted : IsAllotted made exception heap
  pub comes : record { failed = r; machine = new }
      ≡ failed_by block exception f (with_heap heap old)

-- the machine did what an instruction came to that failed
abbrev pub FailsSo : BlockCode → Progress → Failing → (old : Machine) → Failed → (new : Machine)
    → Type 0
FailsSo block (progress.Raises e) f old r new =
    record { failed = r; machine = new } ≡ goes (raised_there block e f old)
FailsSo block (progress.Fails class arg) f old r new =
    FailsOf (allot (error class (arguments_of arg) None (context_of f.active old)) old.code.heap)
    block f old r new
FailsSo block (progress.FailsSaying class t) f old r new =
    FailsOf (error_saying class t None (context_of f.active old) old.code.heap) block f old r new
FailsSo block (progress.Outside what) f old r new =
    record { failed = r; machine = new } ≡ leaving what old
FailsSo block p f old r new =
    record { failed = r; machine = new } ≡ left p old
