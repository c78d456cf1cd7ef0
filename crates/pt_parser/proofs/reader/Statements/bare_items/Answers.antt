use Rattle.std.proofs.Common.{◌≡◌, sym, subst, map, arith}
use Rattle.pt_wide.specs.Fold.{exp_of}
use Rattle.pt_readers.proofs.Readers.{carries_all, narrow_carries}
use Rattle.pt_readers.proofs.Exits.{fails_at, goes_on, carried_all}
use Rattle.pt_parser.specs.Simple.{an_expression}
use Rattle.pt_parser.specs.Views.{item_in}
use Rattle.pt_parser.proofs.WithLemmas.{bare_narrows, bare_binds, encloses_begins}
use Rattle.pt_parser.proofs.reader.Statements.bare_items.Goals as goal

pub returns-in_err-context : goal.returns-in_err-context
returns-in_err-context c = fails_at _ _ _ _ _ _ c.from_residual.ensures.1 (narrow_carries (bare_narrows _ c.requires)) bare_binds c.in_err-context.ensures

pub entered-requires-clause-fits : goal.entered-requires-clause-fits
entered-requires-clause-fits c = c.in_ok-context.ensures.fits

pub entered-requires-clause-apart : goal.entered-requires-clause-apart
entered-requires-clause-apart c = λ h k. c.requires (encloses_begins (subst (λ u. an_expression.reads u (exp_of c.in_ok-context.context) c.expression.new.self) (sym c.in_ok-context.ensures.whole) (c.in_ok-context.ensures.reads c.expression.new.self)) h)

pub returns : goal.returns
returns c = carried_all (λ is. map item_in is) _ _ (goes_on (narrow_carries (bare_narrows _ c.requires)) bare_binds c.in_ok-context.ensures) c.entered.ensures
