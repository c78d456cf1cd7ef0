use Rattle.law_loading.proofs.loaded_scripts.Texts.{constants_have_texts}
use Rattle.law_loading.proofs.loaded_scripts.laws.constants_have_their_texts.Goals as goal

pub returns : goal.returns
returns c = constants_have_texts
