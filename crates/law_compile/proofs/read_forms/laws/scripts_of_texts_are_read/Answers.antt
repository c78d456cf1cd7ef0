use Rattle.law_compile.proofs.read_forms.Texts.{scripts_of_texts_are_read}
use Rattle.law_compile.proofs.read_forms.laws.scripts_of_texts_are_read.Goals as goal

pub returns : goal.returns
returns g c = scripts_of_texts_are_read
