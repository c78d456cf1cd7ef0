use Rattle.std.proofs.Common.{◌≡◌, ◌≢◌, [], ◌∷◌, map, true, Some, length}
use Rattle.pt_readers.specs.Reading.{next_of, Carries}
use Rattle.pt_readers.proofs.Readers.{left}
use Rattle.pt_grammar.specs.declared.sign.Sign.TheVariants.{Mark as mark}
use Rattle.pt_grammar.specs.declared.sign.Mark.TheVariants.{Colon}
use Rattle.pt_grammar.specs.Lexemes.{sign_at}
use Rattle.pt_parser.specs.With.{FitsItem, is_enclosed}
use Rattle.pt_parser.specs.WithLeft.{Rest}
use Rattle.pt_parser.specs.Parts.{Each, with_items}
use Rattle.pt_parser.specs.Views.{item_in}
use Rattle.pt_parser.proofs.reader.Statements.more_items.Given as goal

abbrev pub invariant-more : goal.invariant-more
invariant-more l = record {
  fits : Each FitsItem (map item_in l.all);
  some : map item_in l.all ≢ [];
  apart : is_enclosed (map item_in l.all) ≡ true → sign_at (next_of l.self) ≢ Some (mark Colon);
  carries : Carries (left with_items (Rest (item_in l.fn.first ∷ []))) l.fn.self (left with_items (Rest (map item_in l.all))) l.self;
}

abbrev pub decreases-more : goal.decreases-more
decreases-more l = length l.self
