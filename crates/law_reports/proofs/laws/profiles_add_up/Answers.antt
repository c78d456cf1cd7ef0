use Rattle.law_reports.proofs.ProfileLemmas as lemmas
use Rattle.law_reports.proofs.laws.profiles_add_up.Goals as goal

pub returns : goal.returns
returns c = lemmas.profiles_add_up
