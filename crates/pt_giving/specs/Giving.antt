-- What the machine does with the result of a block for which an ask waited, as its activation is the
-- newest again: the value is given, or an instance or its opposite in its place, or the exception
-- arises there (Language Reference 3.3.1, 4.1, 6.3.4, 6.10.2).
use Rattle.std.specs.Prelude.{Bool, true, false, Option, Some, None, if◌then◌else◌}
use Rattle.pt_base.specs.declared.numbers.Pc.{Pc}
use Rattle.pt_heap.specs.declared.value.Value.{Value}
use Rattle.pt_frames.specs.Slots.{active_in}
use Rattle.pt_frames.specs.declared.purpose.Purpose.{Purpose as For}
use Rattle.pt_frames.specs.declared.purpose.Purpose.TheVariants as why
use Rattle.pt_pendings.specs.declared.reply.End.{End}
use Rattle.pt_pendings.specs.declared.reply.End.TheVariants.{Gave, LeftBy}
use Rattle.pt_calling.specs.pt_arising.pt_opening.pt_host.Calls.{opposite}
use Rattle.pt_calling.specs.pt_machine_state.declared.blocks.BlockCode.{BlockCode}
use Rattle.pt_calling.specs.pt_machine_state.Changes.{given_back}
use Rattle.pt_calling.specs.pt_arising.pt_opening.pt_purposes.declared.purpose.Called.{Called}
use Rattle.pt_calling.specs.pt_arising.pt_opening.pt_purposes.declared.standing.Standing.TheVariants.{AtPlace}
use Rattle.pt_calling.specs.pt_arising.pt_opening.pt_purposes.Openers.{origin_in}
use Rattle.pt_calling.specs.pt_arising.pt_opening.pt_run_state.declared.machine.Machine.{Machine}
use Rattle.pt_calling.specs.pt_arising.pt_opening.pt_telling.Telling.{Told}
use Rattle.pt_calling.specs.pt_arising.pt_replying.declared.replying.Decided.TheVariants.{Nothing}
use Rattle.pt_calling.specs.pt_arising.pt_replying.declared.replying.Given.{Given}
use Rattle.pt_calling.specs.pt_arising.pt_replying.Replying.{replied}
use Rattle.pt_calling.specs.pt_arising.Arising.{arisen}
use Rattle.pt_giving.specs.declared.giving.Received.{Received}
use Rattle.pt_giving.specs.declared.giving.Received.TheVariants.{Goes, Further}

-- what came of it, and the machine then
pub record ReceivedSo : Type 0 where
  pub received : Received
  pub machine : Machine

abbrev pub goes : Told → ReceivedSo
goes r = record { received = Goes r.event; machine = r.machine }

abbrev pub left : Machine → ReceivedSo
left m = record { received = Further; machine = m }

-- the value that is given where a block that was called for this gave this one, if nothing has to be
-- done on the heap first
abbrev pub value_behind : For → Value → Option Value
value_behind why.Result v = Some v
value_behind (why.Init made) v = Some made
value_behind why.Opposite v = Some (opposite v)
value_behind (why.Resume g) v = Some v
value_behind (why.Answer hook event block act args pending) v = Some v
value_behind w v = None

-- an exception that leaves the block arises with the slots as they are: for the next item of an
-- iterator it may be the end, and those of an exit come off
abbrev pub arises_there : For → Bool
arises_there (why.Item iterator end) = false
arises_there (why.Exit completion) = false
arises_there w = true

-- the value lies above the slots, behind the ask
abbrev pub given_above : Pc → Value → Machine → Machine
given_above next v m = record m { code = given_back next v m.code }

-- nothing is decided, and no exception has ended an iterator
abbrev pub plainly : Option Called → Given
plainly called = record { called = called; stops = None; decided = Nothing }

abbrev pub given_to : BlockCode → (next : Pc) → Value → Option Called → (is_act : Bool) → Machine
    → Told
given_to block next v called acts m =
    replied block (plainly called) acts AtPlace (active_in m.code.here.slots)
    (origin_in m.code.here) (given_above next v m)

abbrev pub given_if : BlockCode → (next : Pc) → Option Value → Option Called → (is_act : Bool)
    → Machine → ReceivedSo
given_if block next (Some v) called acts m = goes (given_to block next v called acts m)
given_if block next None called acts m = left m

abbrev pub received : BlockCode → (next : Pc) → End → For → Option Called → (is_act : Bool)
    → Machine → ReceivedSo
received block next (Gave v) w called acts m =
    given_if block next (value_behind w v) called acts m
received block next (LeftBy v) w called acts m =
    if arises_there w then goes (arisen block v called acts (active_in m.code.here.slots) m)
    else left m
