use Rattle.std.proofs.Common.{length, map}
use Rattle.pt_readers.specs.Reading.{Carries}
use Rattle.pt_grammar.specs.declared.sign.Sign.TheVariants.{Mark as mark}
use Rattle.pt_grammar.specs.declared.sign.Mark.TheVariants.{Close}
use Rattle.pt_parser.specs.Forms.{UpTo}
use Rattle.pt_parser.specs.Simple.{comma}
use Rattle.pt_parser.specs.With.{WithItem, FitsItem}
use Rattle.pt_parser.specs.Parts.{Each, closing, a_with_item}
use Rattle.pt_parser.specs.Views.{item_in}
use Rattle.pt_parser.proofs.reader.Statements.enclosed_items.Given as goal

abbrev pub invariant-more : goal.invariant-more
invariant-more l = record {
  fits : Each FitsItem (map item_in l.all);
  carries : Carries (closing a_with_item (UpTo comma (mark Close) WithItem (map item_in l.fn.items))) l.fn.self (closing a_with_item (UpTo comma (mark Close) WithItem (map item_in l.all))) l.self;
}

abbrev pub decreases-more : goal.decreases-more
decreases-more l = length l.self
