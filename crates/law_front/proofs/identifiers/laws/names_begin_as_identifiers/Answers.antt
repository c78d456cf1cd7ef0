use Rattle.law_front.proofs.identifiers.Words.{names_begin}
use Rattle.law_front.proofs.identifiers.laws.names_begin_as_identifiers.Goals as goal

pub returns : goal.returns
returns c = names_begin
