use Rattle.std.proofs.Common.{length}
use Rattle.pt_readers.specs.Reading.{Carries}
use Rattle.pt_grammar.specs.declared.sign.Sign.TheVariants.{Mark as mark}
use Rattle.pt_grammar.specs.declared.sign.Mark.TheVariants.{Close}
use Rattle.pt_parser.specs.Forms.{UpTo}
use Rattle.pt_parser.specs.Simple.{comma}
use Rattle.pt_parser.specs.Parts.{Each, closing, an_alias, an_enclosure}
use Rattle.pt_parser.proofs.reader.Statements.enclosure.Given as goal

abbrev pub invariant-more : goal.invariant-more
invariant-more l = record {
  fits : Each an_alias.fits l.all;
  carries : Carries an_enclosure l.fn.self (closing an_alias (UpTo comma (mark Close) an_alias.reads l.all)) l.self;
}

abbrev pub decreases-more : goal.decreases-more
decreases-more l = length l.self
