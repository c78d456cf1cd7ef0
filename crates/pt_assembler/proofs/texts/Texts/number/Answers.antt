use Rattle.std.specs.Str.{bytes_eq}
use Rattle.pt_assembler.proofs.FoundLemmas.{there}
use Rattle.pt_assembler.proofs.texts.Texts.number.Goals as goal

-- src/texts.rt:43:5
pub returns-in-Some : goal.returns-in-Some
returns-in-Some c = there (bytes_eq c.args.text.now) c.args.text.now c.args.self.now c.in-Some.number c.in-Some.ensures
