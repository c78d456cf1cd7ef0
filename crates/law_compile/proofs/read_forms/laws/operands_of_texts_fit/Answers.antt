use Rattle.law_compile.proofs.read_forms.Texts.{operands_of_texts_fit}
use Rattle.law_compile.proofs.read_forms.laws.operands_of_texts_fit.Goals as goal

pub returns : goal.returns
returns c = operands_of_texts_fit
