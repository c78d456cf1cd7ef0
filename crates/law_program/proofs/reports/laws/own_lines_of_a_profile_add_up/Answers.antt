use Rattle.law_program.proofs.reports.Named.{own_lines_add_up}
use Rattle.law_program.proofs.reports.laws.own_lines_of_a_profile_add_up.Goals as goal

pub returns : goal.returns
returns c = own_lines_add_up
