use Rattle.pt_heap.specs.declared.value.Value.{Value}
use Rattle.sem_run.specs.run.Tools.{Tool, with_callback}
use Rattle.pt_monitor.specs.Events.{bit_of}
use Rattle.pt_monitor.proofs.ToolRows.{alike_as}
use Rattle.pt_monitor.proofs.rows.register.Goals as goal

pub returns-clause-ok : goal.returns-clause-ok
returns-clause-ok c =
    alike_as (λ (t : Tool Value). record t { callbacks = with_callback (bit_of c.args.event) c.args.f t.callbacks }) c.args.tools.now c.args.at c.index-tools-at.result
    c.register.new.self c.requires c.index-tools-at.is c.in_ok-register.ensures.ok
