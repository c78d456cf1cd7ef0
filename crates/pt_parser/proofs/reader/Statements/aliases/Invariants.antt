use Rattle.std.proofs.Common.{length}
use Rattle.pt_readers.specs.Reading.{Carries}
use Rattle.pt_readers.proofs.Readers.{left}
use Rattle.pt_parser.specs.Forms.{More}
use Rattle.pt_parser.specs.Simple.{comma}
use Rattle.pt_parser.specs.Parts.{an_alias, a_list}
use Rattle.pt_parser.proofs.reader.Statements.aliases.Given as goal

abbrev pub invariant-more : goal.invariant-more
invariant-more l = record {
  carries : Carries (a_list an_alias) l.fn.self (left (a_list an_alias) (More comma an_alias.reads l.all)) l.self;
}

abbrev pub decreases-more : goal.decreases-more
decreases-more l = length l.self
