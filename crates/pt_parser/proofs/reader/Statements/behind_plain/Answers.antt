use Rattle.std.proofs.Common.{◌≡◌, ◌∙◌, sym, map}
use Rattle.pt_wide.specs.Fold.{exp_of}
use Rattle.pt_readers.proofs.Readers.{narrow_carries}
use Rattle.pt_readers.proofs.Exits.{carried_all, is_so, is_not}
use Rattle.pt_parser.specs.Views.{item_in}
use Rattle.pt_parser.proofs.HeldEnds.{plain_found, plain_bad, plain_over, plain_narrows}
use Rattle.pt_parser.proofs.reader.Statements.behind_plain.Goals as goal

pub returns-then-is : goal.returns-then-is
returns-then-is c = rw c.in_ok-items.ensures (plain_found c.args.line.0 c.args.start.0 (map exp_of c.args.listed.items.items) c.args.listed.comma _ (is_so c.is.ensures c.if-is.true) c.requires.fits c.requires.holds)

pub returns-then-goes_on : goal.returns-then-goes_on
returns-then-goes_on c = plain_over c.args.line.0 c.args.start.0 (map exp_of c.args.listed.items.items) c.args.listed.comma _ (sym c.goes_on.ensures ∙ c.if-goes_on.true) (is_not c.is.ensures c.if-is.false) c.requires.fits
    (is_not c.is_within.ensures c.if-not-is_within.true)

pub returns-then-not-is_within : goal.returns-then-not-is_within
returns-then-not-is_within c = plain_bad c.args.line.0 c.args.start.0 (map exp_of c.args.listed.items.items) c.args.listed.comma _ (is_not c.is.ensures c.if-is.false) (sym c.goes_on.ensures ∙ c.if-goes_on.false) c.requires.fits

pub returns : goal.returns
returns c = carried_all (λ is. map item_in is) _ _ (narrow_carries (plain_narrows c.args.line.0 c.args.start.0 (map exp_of c.args.listed.items.items) c.args.listed.comma _ (is_not c.is.ensures c.if-is.false)))
    (rw (c.in_ok-atom.ensures, c.in_ok-inside.ensures) at c.behind_parentheses.ensures)
