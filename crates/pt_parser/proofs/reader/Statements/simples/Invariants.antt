use Rattle.std.proofs.Common.{map, length}
use Rattle.pt_readers.specs.Reading.{Carries}
use Rattle.pt_wide.specs.StatementFold.{stm_of}
use Rattle.pt_grammar.specs.declared.sign.Sign.TheVariants.{Mark as mark, Layout as layout}
use Rattle.pt_grammar.specs.declared.sign.Mark.TheVariants.{Semicolon}
use Rattle.pt_grammar.specs.declared.sign.Layout.TheVariants.{Newline}
use Rattle.pt_parser.specs.Forms.{UpTo}
use Rattle.pt_parser.specs.Limits.{FitsStm}
use Rattle.pt_parser.specs.Parts.{Each, closing, a_simple, some_simples}
use Rattle.pt_parser.proofs.reader.Statements.simples.Given as goal

abbrev pub invariant-more : goal.invariant-more
invariant-more l = record {
  fits : Each FitsStm (map stm_of l.all);
  carries : Carries (some_simples (map stm_of l.fn.all)) l.fn.self (closing a_simple (UpTo (mark Semicolon) (layout Newline) a_simple.reads (map stm_of l.all))) l.self;
}

abbrev pub decreases-more : goal.decreases-more
decreases-more l = length l.self
