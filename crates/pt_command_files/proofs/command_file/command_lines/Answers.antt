use Rattle.std.proofs.Common.{◌∙◌}
use Rattle.pt_command_files.specs.CommandFile.{command_lines}
use Rattle.pt_command_files.proofs.FileLemmas.{next_line}
use Rattle.pt_command_files.proofs.command_file.command_lines.Goals as goal

pub loop-at-preserved : goal.loop-at-preserved
loop-at-preserved c =
    next_line (command_lines c.args.file.now) c.loop-at.lines c.push.new.self c.loop-at.rest.now _ c.in-Some.at c.loop-at.invariant c.in-Some.ensures.0 c.in-Some.ensures.1
    (c.in_ok-from_slice.ensures ∙ c.without_return.ensures) c.in_ok-push.ensures.ok
