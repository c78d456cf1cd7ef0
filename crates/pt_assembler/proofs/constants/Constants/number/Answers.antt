use Rattle.pt_assembler.specs.Tables.{is_const}
use Rattle.pt_assembler.proofs.FoundLemmas.{there}
use Rattle.pt_assembler.proofs.constants.Constants.number.Goals as goal

pub returns-in-Some : goal.returns-in-Some
returns-in-Some c = there (is_const c.args.constant) c.args.constant c.args.self.now c.in-Some.number c.in-Some.ensures
