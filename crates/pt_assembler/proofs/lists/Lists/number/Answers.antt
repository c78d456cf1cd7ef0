use Rattle.std.specs.Str.{bytes_eq}
use Rattle.pt_assembler.proofs.FoundLemmas.{there}
use Rattle.pt_assembler.proofs.lists.Lists.number.Goals as goal

pub returns-in-Some : goal.returns-in-Some
returns-in-Some c = there (bytes_eq c.args.list.now) c.args.list.now c.args.self.now c.in-Some.number c.in-Some.ensures
