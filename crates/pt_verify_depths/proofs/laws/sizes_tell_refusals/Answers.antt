use Rattle.pt_verify_depths.proofs.RefusalLemmas.{sizes_refuse, refused_first}
use Rattle.pt_verify_depths.proofs.laws.sizes_tell_refusals.Goals as goal

pub returns-clause-told : goal.returns-clause-told
returns-clause-told c = sizes_refuse

pub returns-clause-first : goal.returns-clause-first
returns-clause-first c = refused_first
