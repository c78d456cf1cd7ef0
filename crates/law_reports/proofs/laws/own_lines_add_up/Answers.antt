use Rattle.law_reports.proofs.SumLemmas.{own_lines_are_all}
use Rattle.law_reports.proofs.laws.own_lines_add_up.Goals as goal

pub returns : goal.returns
returns c = own_lines_are_all
