use Rattle.std.proofs.Common.{◌∙◌, sym}
use Rattle.pt_commands.specs.Commands.{command_in, command_on}
use Rattle.pt_commands.proofs.CommandLemmas.{by_words, ok_same}
use Rattle.pt_commands.proofs.command.Command.parse.Goals as goal

pub returns : goal.returns
returns c =
    ok_same c.command_in.result (command_in c.trimmed.result.now) (command_on c.args.line.now) c.command_in.ensures
    (by_words c.args.line.now c.trimmed.result.now (sym c.is_empty.ensures ∙ c.if-is_empty.false) c.trimmed.ensures)
