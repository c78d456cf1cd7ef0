use Rattle.law_verified_code.proofs.Tables.{tables_tell_code}
use Rattle.law_verified_code.proofs.laws.tables_of_code_tell_what_jumps_ask.Goals as goal

pub returns : goal.returns
returns c = tables_tell_code (λ b s. c.tables_answer_jumps.ensures b s)
