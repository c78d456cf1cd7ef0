use Rattle.pt_prelude.proofs.NameLemmas.{whole_names}
use Rattle.pt_prelude.proofs.source.whole_text.Goals as goal

pub returns-clause-functions : goal.returns-clause-functions
returns-clause-functions c = whole_names
