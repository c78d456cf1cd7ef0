use Rattle.pt_assembler.specs.Tables.{is_text}
use Rattle.pt_assembler.proofs.FoundLemmas.{there}
use Rattle.pt_assembler.proofs.names.Names.number.Goals as goal

pub returns-in-Some : goal.returns-in-Some
returns-in-Some c = there (is_text c.args.text) c.args.text c.args.self.now c.in-Some.number c.in-Some.ensures
