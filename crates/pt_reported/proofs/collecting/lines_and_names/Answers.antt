use Rattle.std.proofs.Common.{◌∙◌, ap}
use Rattle.pt_blocks.specs.Visits.{behind_blocks}
use Rattle.pt_tree.specs.Blocks.{blocks_script}
use Rattle.pt_tree.specs.StatementFold.{script_of}
use Rattle.pt_reported.specs.Reported.{with_block}
use Rattle.pt_reported.proofs.ReportedLemmas.{all_behind}
use Rattle.pt_reported.proofs.collecting.lines_and_names.Goals as goal

pub returns : goal.returns
returns c =
    c.in_ok-visit.ensures ∙ ap (behind_blocks with_block (blocks_script (script_of c.args.script.now))) c.new-parts.ensures
    ∙ all_behind (script_of c.args.script.now)
