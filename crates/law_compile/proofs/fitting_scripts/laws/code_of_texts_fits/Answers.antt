use Rattle.law_compile.proofs.fitting_scripts.Fitting.{code_of_texts_fits}
use Rattle.law_compile.proofs.fitting_scripts.laws.code_of_texts_fits.Goals as goal

pub returns : goal.returns
returns c = code_of_texts_fits
