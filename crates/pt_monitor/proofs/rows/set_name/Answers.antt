use Rattle.pt_heap.specs.declared.value.Value.{Value}
use Rattle.sem_run.specs.run.Tools.{Tool}
use Rattle.pt_monitor.proofs.ToolRows.{set_as}
use Rattle.pt_monitor.proofs.rows.set_name.Goals as goal

pub returns : goal.returns
returns c =
    set_as (λ (t : Tool Value). record t { name = c.args.name }) c.args.tools.now c.args.at c.index-tools-at.result c.set_name.new.self c.requires c.index-tools-at.is c.set_name.ensures
