use Rattle.std.proofs.Common.{◌≡◌, ◌≢◌, Some, true, sym, subst, map, [], ◌∷◌}
use Rattle.pt_wide.specs.Fold.{exp_of, opt_exp}
use Rattle.pt_readers.proofs.Readers.{carries_all}
use Rattle.pt_readers.proofs.Exits.{fails_at, goes_on, carried_all}
use Rattle.pt_readers.specs.Reading.{next_of}
use Rattle.pt_grammar.specs.declared.sign.Sign.TheVariants.{Mark as mark}
use Rattle.pt_grammar.specs.declared.sign.Mark.TheVariants.{Colon}
use Rattle.pt_grammar.specs.Lexemes.{sign_at}
use Rattle.pt_parser.specs.With.{FitsItem, is_enclosed}
use Rattle.pt_parser.specs.Views.{item_in}
use Rattle.pt_parser.proofs.WithLemmas.{entered_binds, first_apart}
use Rattle.pt_parser.proofs.reader.Statements.entered.Goals as goal

pub returns-in_err-target : goal.returns-in_err-target
returns-in_err-target c = fails_at _ _ _ _ _ _ c.from_residual.ensures.1 carries_all (entered_binds (exp_of c.args.context) c.requires.fits) c.in_err-target.ensures

pub more_items-requires-clause-fits : goal.more_items-requires-clause-fits
more_items-requires-clause-fits c = subst FitsItem (sym c.item.ensures) (c.requires.fits, c.in_ok-target.ensures.fits)

pub more_items-requires-clause-apart : goal.more_items-requires-clause-apart
more_items-requires-clause-apart c = subst (λ i. is_enclosed (i ∷ []) ≡ true → sign_at (next_of c.target.new.self) ≢ Some (mark Colon)) (sym c.item.ensures)
    (first_apart (exp_of c.args.context) (opt_exp c.in_ok-target.target) c.requires.apart c.in_ok-target.ensures)

pub returns : goal.returns
returns c = carried_all (λ is. map item_in is) _ _ (goes_on carries_all (entered_binds (exp_of c.args.context) c.requires.fits) c.in_ok-target.ensures) (rw c.item.ensures at c.more_items.ensures)
