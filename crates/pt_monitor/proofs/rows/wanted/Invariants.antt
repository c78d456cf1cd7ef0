use Rattle.std.proofs.Common.{◌≡◌, take}
use Rattle.sem_run.specs.run.Tools.{has}
use Rattle.pt_monitor.specs.declared.event.MonEvent.{MonEvent}
use Rattle.pt_monitor.specs.Events.{bit_of}
use Rattle.pt_monitor.specs.Kept.{block, is_wanted}
use Rattle.pt_monitor.proofs.rows.wanted.Given as goal

abbrev pub invariant-loop-tool : goal.invariant-loop-tool
invariant-loop-tool l = (e : MonEvent) → has l.wanted.0 (bit_of e) ≡ is_wanted (block l.block.0) (bit_of e) (take l.tool-index l.tools)
