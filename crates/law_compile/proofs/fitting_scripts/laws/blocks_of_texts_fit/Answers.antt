use Rattle.law_compile.proofs.fitting_scripts.Fitting.{blocks_of_texts_fit}
use Rattle.law_compile.proofs.fitting_scripts.laws.blocks_of_texts_fit.Goals as goal

pub returns : goal.returns
returns c = blocks_of_texts_fit
