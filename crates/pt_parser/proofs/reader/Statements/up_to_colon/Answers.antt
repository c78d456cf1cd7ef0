use Rattle.std.proofs.Common.{◌≡◌, map}
use Rattle.pt_readers.proofs.Exits.{is_so, is_not}
use Rattle.pt_parser.specs.Parts.{with_items}
use Rattle.pt_parser.specs.Views.{item_in}
use Rattle.pt_parser.proofs.Chains.{is_found}
use Rattle.pt_parser.proofs.HeldEnds.{all_bad}
use Rattle.pt_parser.proofs.reader.Statements.up_to_colon.Goals as goal

pub returns-then-not-is : goal.returns-then-not-is
returns-then-not-is c = all_bad (map item_in c.args.items) _ c.requires (is_not c.is.ensures c.if-not-is.true)

pub returns : goal.returns
returns c = is_found with_items (map item_in c.args.items) _ (is_so c.is.ensures c.if-not-is.false) c.requires
