use Rattle.std.proofs.Common.{◌∙◌}
use Rattle.pt_bdb.specs.declared.row.BreakRow.{BreakRow}
use Rattle.pt_bdb.specs.Breakpoints.{row_of}
use Rattle.pt_break_commands.specs.BreakCommands.{enable_told}
use Rattle.pt_break_commands.proofs.AnswerLemmas.{told_some, told_none}
use Rattle.pt_break_commands.proofs.answers.enable_answer.Goals as goal

pub returns-in-Some : goal.returns-in-Some
returns-in-Some c =
    c.enable_told.ensures
    ∙ told_some c.args.number (λ (r : BreakRow). enable_told c.args.number c.args.on r.line) (row_of c.args.number c.args.breaks.now.rows) c.in-Some.row.now c.in-Some.ensures

pub returns-in-None : goal.returns-in-None
returns-in-None c =
    told_none c.args.number (λ (r : BreakRow). enable_told c.args.number c.args.on r.line) (row_of c.args.number c.args.breaks.now.rows) c.in-None.ensures
