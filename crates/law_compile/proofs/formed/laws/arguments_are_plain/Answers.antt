use Rattle.law_compile.proofs.formed.Arguments.{arguments_plain}
use Rattle.law_compile.proofs.formed.laws.arguments_are_plain.Goals as goal

pub returns : goal.returns
returns g c = arguments_plain
