-- What the machine does where a hook raises: its exception takes the place of what waits (Library
-- Reference, `sys.settrace`).
use Rattle.std.specs.Prelude.{[], ◌∷◌, None, if◌then◌else◌}
use Rattle.pt_heap.specs.declared.value.Value.{Value}
use Rattle.pt_happenings.specs.declared.happening.Happening.TheVariants as told
use Rattle.pt_pendings.specs.declared.reply.End.TheVariants.{LeftBy}
use Rattle.pt_pendings.specs.declared.pending.Origin.{Origin}
use Rattle.pt_pendings.specs.declared.pending.Pending.TheVariants.{Ending}
use Rattle.pt_pendings.specs.declared.pending.Instead.{Instead}
use Rattle.pt_pendings.specs.declared.pending.Instead.TheVariants.{Lands, Unwinds, Closes}
use Rattle.pt_pendings.specs.Pendings.{instead_of}
use Rattle.pt_settrace.specs.Tracing.{Tracing}
use Rattle.pt_closing.specs.pt_asking.declared.asked.Hook.{Hook}
use Rattle.pt_closing.specs.pt_asking.declared.asked.Hook.TheVariants.{Tool, Tracer}
use Rattle.pt_closing.specs.pt_turning.pt_telling.pt_transfers.pt_machine_state.declared.blocks.BlockCode.{BlockCode}
use Rattle.pt_closing.specs.pt_turning.pt_telling.pt_transfers.pt_machine_state.Changes.{at_depth}
use Rattle.pt_closing.specs.pt_turning.pt_telling.pt_run_state.declared.machine.Machine.{Machine}
use Rattle.pt_closing.specs.pt_turning.pt_telling.pt_run_state.declared.machine.Phase.TheVariants.{Turning}
use Rattle.pt_closing.specs.pt_turning.pt_telling.pt_run_state.declared.machine.Waiting.{Waiting}
use Rattle.pt_closing.specs.pt_turning.pt_telling.Telling.{Told, entered_by, told as tell}
use Rattle.pt_closing.specs.pt_turning.Turning.{standing_of, behind_raise, raised_in}
use Rattle.pt_hearing.specs.declared.raising.Raised.{Raised}
use Rattle.pt_hearing.specs.declared.raising.Raised.TheVariants as raised

-- what came of it, and the machine then
pub record RaisedSo : Type 0 where
  pub raised : Raised
  pub machine : Machine

-- the newest activation stands at an origin
abbrev pub at_origin : Origin → Machine → Machine
at_origin from m = record m {
  code = record m.code {
    here = record m.code.here {
      pc = from.pc;
      slots = at_depth from.below m.code.here.slots;
    };
  };
}

abbrev pub beyond : Waiting → Told → RaisedSo
beyond w r = record {
  raised = if r.event then raised.Event else raised.Onward w;
  machine = r.machine;
}

abbrev pub left_by : Value → Waiting → Waiting
left_by v w = record w { pending = Ending (LeftBy v) }

module _ (block : BlockCode) (v : Value) where
  -- it is a raise from there, and lands
  abbrev pub landed_from : Origin → Machine → Machine
  landed_from from m = record (raised_in block v (at_origin from m)) {
    phase = Turning (standing_of (behind_raise block v (at_origin from m)).standing);
  }

  abbrev pub in_place : Instead → Waiting → Machine → RaisedSo
  in_place (Lands from) w m = record { raised = raised.Goes; machine = landed_from from m }
  in_place Unwinds w m = beyond (left_by v w) (tell block (left_by v w) (told.Unwinds v ∷ []) m)
  in_place Closes w m = record { raised = raised.Closes v; machine = m }

-- a trace function that raises is unset
abbrev pub unset_hooks : Hook → Tracing → Tracing
unset_hooks Tracer h = record h { global = None }
unset_hooks (Tool id) h = h

abbrev pub unset : Hook → Machine → Machine
unset hook m = record m { hooks = unset_hooks hook m.hooks }

-- a hook raises: its exception comes to the newest frame, in place of what waits there
abbrev pub hook_raised : BlockCode → Value → Hook → (asked : Origin) → Waiting → Machine → RaisedSo
hook_raised block v hook asked w m =
    in_place block v (instead_of w.pending asked) w
    (entered_by block (told.Raises v) (unset hook m))
