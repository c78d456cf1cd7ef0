use Rattle.std.proofs.Common.{◌≡◌, sym, subst}
use Rattle.pt_wide.specs.Fold.{exp_of, opt_exp}
use Rattle.pt_readers.specs.Reading.{next_of}
use Rattle.pt_readers.proofs.Readers.{carries_all}
use Rattle.pt_readers.proofs.Exits.{fails_at, goes_on}
use Rattle.pt_parser.specs.Simple.{an_expression}
use Rattle.pt_parser.specs.Parts.{a_with_item}
use Rattle.pt_parser.specs.With.{item_of}
use Rattle.pt_parser.proofs.Chains.{is_found}
use Rattle.pt_parser.proofs.WithLemmas.{context_binds, target_binds, untargeted}
use Rattle.pt_parser.proofs.reader.Statements.with_item.Goals as goal

pub returns-in_err-context : goal.returns-in_err-context
returns-in_err-context c = fails_at _ _ _ _ _ _ c.from_residual.ensures.1 carries_all context_binds c.in_err-context.ensures

pub returns-in_err-target : goal.returns-in_err-target
returns-in_err-target c = fails_at _ _ _ _ _ _ c.from_residual-in_err-target.ensures.1 (goes_on carries_all context_binds c.in_ok-context.ensures)
    (target_binds (exp_of c.in_ok-context.context) c.in_ok-context.ensures.fits) c.in_err-target.ensures

pub returns : goal.returns
returns c = rw c.item.ensures ((goes_on (goes_on carries_all context_binds c.in_ok-context.ensures)
    (target_binds (exp_of c.in_ok-context.context) c.in_ok-context.ensures.fits) c.in_ok-target.ensures).found _ _
    (is_found a_with_item (item_of (exp_of c.in_ok-context.context) (opt_exp c.in_ok-target.target)) _
    (c.in_ok-target.ensures.stops, λ h. subst (λ u. an_expression.stops (exp_of c.in_ok-context.context) (next_of u)) (sym (untargeted c.in_ok-target.ensures h)) c.in_ok-context.ensures.stops)
    (c.in_ok-context.ensures.fits, c.in_ok-target.ensures.fits)))
