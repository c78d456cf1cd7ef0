use Rattle.pt_bdb.specs.declared.row.BreakRow.{BreakRow}
use Rattle.pt_bdb.specs.Breakpoints.{row_of}
use Rattle.pt_pdb.specs.declared.answer.BreakAnswer.TheVariants as break
use Rattle.pt_break_commands.proofs.AnswerLemmas.{told_some, told_none}
use Rattle.pt_break_commands.proofs.answers.ignore_answer.Goals as goal

pub returns-in-Some : goal.returns-in-Some
returns-in-Some c =
    told_some c.args.number (λ (r : BreakRow). break.Ignored c.args.number c.args.count) (row_of c.args.number c.args.breaks.now.rows) c.in-Some.field-0.now c.in-Some.ensures

pub returns-in-None : goal.returns-in-None
returns-in-None c = told_none c.args.number (λ (r : BreakRow). break.Ignored c.args.number c.args.count) (row_of c.args.number c.args.breaks.now.rows) c.in-None.ensures
