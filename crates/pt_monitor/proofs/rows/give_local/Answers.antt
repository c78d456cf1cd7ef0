use Rattle.std.proofs.Common.{◌∷◌}
use Rattle.pt_heap.specs.declared.value.Value.{Value}
use Rattle.sem_run.specs.run.Tools.{Tool}
use Rattle.pt_monitor.specs.Kept.{block}
use Rattle.pt_monitor.proofs.ToolRows.{alike_as}
use Rattle.pt_monitor.proofs.rows.give_local.Goals as goal

pub returns-clause-ok : goal.returns-clause-ok
returns-clause-ok c =
    alike_as (λ (t : Tool Value). record t { local = record { block = block c.args.block.0; set = c.args.set.0 } ∷ t.local }) c.args.tools.now c.args.at c.index-tools-at.result
    c.give_local.new.self c.requires c.index-tools-at.is c.in_ok-give_local.ensures.ok
