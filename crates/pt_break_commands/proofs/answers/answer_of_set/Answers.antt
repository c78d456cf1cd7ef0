use Rattle.pt_break_commands.proofs.AnswerLemmas.{code_there, no_code, none_set, none_told, set_there, set_told}
use Rattle.pt_break_commands.proofs.answers.answer_of_set.Goals as goal

pub returns-in-Ok-clause-answer : goal.returns-in-Ok-clause-answer
returns-in-Ok-clause-answer c = set_told c.args.breaks.now c.args.line c.in-Ok.number (code_there c.args.line _ c.in-Ok.number c.in-Ok.ensures.no_code) c.in-Ok.ensures.number

pub returns-in-Ok-clause-ok : goal.returns-in-Ok-clause-ok
returns-in-Ok-clause-ok c =
    set_there c.args.breaks.now c.args.line c.args.temporary c.args.condition _ (code_there c.args.line _ c.in-Ok.number c.in-Ok.ensures.no_code) c.in-Ok.ensures.ok

pub returns-in-Err-NoCode-clause-answer : goal.returns-in-Err-NoCode-clause-answer
returns-in-Err-NoCode-clause-answer c =
    none_told c.args.breaks.now c.args.line (no_code c.args.line _ c.in-Err-NoCode.field-0 _ c.in-Err-NoCode.field-0-is c.in-Err-NoCode.ensures.only c.in-Err-NoCode.ensures.no_code)

pub returns-in-Err-NoCode-clause-ok : goal.returns-in-Err-NoCode-clause-ok
returns-in-Err-NoCode-clause-ok c =
    none_set c.args.breaks.now c.args.line c.args.temporary c.args.condition _ (no_code c.args.line _ c.in-Err-NoCode.field-0 _ c.in-Err-NoCode.field-0-is
    c.in-Err-NoCode.ensures.only c.in-Err-NoCode.ensures.no_code) c.in-Err-NoCode.ensures.err
