use Rattle.pt_heap.specs.declared.value.Value.{Value}
use Rattle.sem_run.specs.run.Tools.{Tool}
use Rattle.pt_monitor.proofs.ToolRows.{set_as}
use Rattle.pt_monitor.proofs.rows.give_set.Goals as goal

pub returns : goal.returns
returns c =
    set_as (λ (t : Tool Value). record t { set = c.args.set.0 }) c.args.tools.now c.args.at c.index-tools-at.result c.give_set.new.self c.requires c.index-tools-at.is c.give_set.ensures
