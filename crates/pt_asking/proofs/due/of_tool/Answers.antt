use Rattle.std.proofs.Common.{◌∙◌, ap}
use Rattle.sem_run.specs.run.Tools.{wants}
use Rattle.pt_monitor.specs.Kept.{block}
use Rattle.pt_asking.proofs.due.of_tool.Goals as goal

pub returns : goal.returns
returns c =
    c.due.ensures
    ∙ ap (λ b. wants c.args.tools.now (record {
      tool = c.args.tool;
      bit = b;
      block = block c.args.event.now.block.0;
      act = c.args.event.now.act.0;
    }))
    c.monitored-what.ensures
