-- How a run goes on by a command (Library Reference, "pdb": step, next, until, return, continue; "bdb": set_step, set_next, set_until,
-- set_return, set_continue).
use Rattle.std.specs.Prelude.{Option, Some, None}
use Rattle.std.specs.Option.{option_map}
use Rattle.pt_heap.specs.declared.view.ViewFrame.{ViewFrame}
use Rattle.pt_bdb.specs.declared.event.Event.{Event}
use Rattle.pt_bdb.specs.declared.event.EventKind.{EventKind}
use Rattle.pt_bdb.specs.declared.event.EventKind.TheVariants as kind
use Rattle.pt_bdb.specs.declared.stops.StopData.{StopData}
use Rattle.pt_bdb.specs.Stops.{continue_data, next_data, return_data, returned, step_data, until_data, until_line}
use Rattle.pt_commands.specs.declared.command.Command.{Command}
use Rattle.pt_commands.specs.declared.command.Command.TheVariants as command

-- where the run stops by a command at the chosen frame, if it goes on by it
abbrev pub data_by : ViewFrame → Command → Option StopData
data_by f command.Step = Some step_data
data_by f command.Next = Some (next_data f.frame)
data_by f (command.Until asked) = option_map (until_data f.frame) (until_line f.line asked)
data_by f command.Return = Some (return_data f.frame f.caller f.generator)
data_by f command.Continue = Some continue_data
data_by f c = None

-- behind the commands of a stop at a return
abbrev pub data_at : EventKind → Event → StopData → StopData
data_at kind.Return e d = returned e.frame d
data_at k e d = d

abbrev pub data_behind : Event → Option StopData → StopData → StopData
data_behind e (Some d) old = data_at e.kind e d
data_behind e None old = old
