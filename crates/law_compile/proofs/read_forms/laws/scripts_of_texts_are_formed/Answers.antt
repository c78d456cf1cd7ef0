use Rattle.law_compile.proofs.read_forms.Texts.{scripts_of_texts_are_formed}
use Rattle.law_compile.proofs.read_forms.laws.scripts_of_texts_are_formed.Goals as goal

pub returns : goal.returns
returns c = scripts_of_texts_are_formed
