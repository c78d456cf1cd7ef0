use Rattle.std.proofs.Common.{◌≡◌, ◌∙◌, sym, ap, map, [], ◌∷◌, ◌++◌, true, false, length, arith}
use Rattle.std.proofs.lemmas.List.{map-append}
use Rattle.pt_wide.specs.Fold.{exp_of}
use Rattle.pt_readers.proofs.Readers.{carries_all, narrow_carries, then_on}
use Rattle.pt_readers.proofs.Exits.{fails_at, goes_on, shift_on, found_shorter, some_more}
use Rattle.pt_parser.specs.Headings.{a_decorator}
use Rattle.pt_parser.specs.Parts.{FitsDecorator}
use Rattle.pt_parser.specs.Views.{decorator_in}
use Rattle.pt_parser.proofs.Tokens.{sign_next}
use Rattle.pt_parser.proofs.UpTo.{each_snoc}
use Rattle.pt_parser.proofs.HeadLemmas.{decorator_opens, decorator_value, decorator_end, decorator_shifts, decorators_end}
use Rattle.pt_parser.proofs.reader.Statements.decorators.Goals as goal

pub more-init : goal.more-init
more-init c = rw c.new-all.ensures record { each = tt; carries = carries_all }

pub returns-in_err-value : goal.returns-in_err-value
returns-in_err-value c = fails_at _ _ _ _ _ _ c.from_residual.ensures.1
    (then_on c.more.invariant.carries (narrow_carries (decorator_opens c.args.line.0 c.more.at.0 (map decorator_in c.more.all) _)))
    (decorator_value c.args.line.0 c.more.at.0 (map decorator_in c.more.all) c.more.invariant.each) c.in_err-value.ensures

pub returns-in_err-expect : goal.returns-in_err-expect
returns-in_err-expect c = fails_at _ _ _ _ _ _ c.from_residual-in_err-expect.ensures.1
    (goes_on (then_on c.more.invariant.carries (narrow_carries (decorator_opens c.args.line.0 c.more.at.0 (map decorator_in c.more.all) _)))
    (decorator_value c.args.line.0 c.more.at.0 (map decorator_in c.more.all) c.more.invariant.each) c.in_ok-value.ensures)
    (decorator_end c.args.line.0 c.more.at.0 (map decorator_in c.more.all) (exp_of c.in_ok-value.value) c.more.invariant.each c.in_ok-value.ensures.fits) c.in_err-expect.ensures

pub returns-then-not-take : goal.returns-then-not-take
returns-then-not-take c = let n = c.take.ensures.none (grind arith) in rw (c.in_ok-push.ensures.ok, map-append, c.decorator.ensures, n.1)
    ((goes_on (goes_on (then_on c.more.invariant.carries (narrow_carries (decorator_opens c.args.line.0 c.more.at.0 (map decorator_in c.more.all) _)))
    (decorator_value c.args.line.0 c.more.at.0 (map decorator_in c.more.all) c.more.invariant.each) c.in_ok-value.ensures)
    (decorator_end c.args.line.0 c.more.at.0 (map decorator_in c.more.all) (exp_of c.in_ok-value.value) c.more.invariant.each c.in_ok-value.ensures.fits) c.in_ok-expect.ensures).found _ _
    (decorators_end c.args.line.0 _ _ n.0
    (each_snoc FitsDecorator (map decorator_in c.more.all) (a_decorator c.more.at.0 (exp_of c.in_ok-value.value)) c.more.invariant.each c.in_ok-value.ensures.fits)))

pub more-preserved : goal.more-preserved
more-preserved c = let n = c.take.ensures.found (grind arith) in rw (c.in_ok-push.ensures.ok, map-append, c.decorator.ensures) record {
  each = each_snoc FitsDecorator (map decorator_in c.more.all) (a_decorator c.more.at.0 (exp_of c.in_ok-value.value)) c.more.invariant.each c.in_ok-value.ensures.fits;
  carries = rw c.line-at.ensures (shift_on
      (goes_on (goes_on (then_on c.more.invariant.carries (narrow_carries (decorator_opens c.args.line.0 c.more.at.0 (map decorator_in c.more.all) _)))
      (decorator_value c.args.line.0 c.more.at.0 (map decorator_in c.more.all) c.more.invariant.each) c.in_ok-value.ensures)
      (decorator_end c.args.line.0 c.more.at.0 (map decorator_in c.more.all) (exp_of c.in_ok-value.value) c.more.invariant.each c.in_ok-value.ensures.fits) c.in_ok-expect.ensures)
      (decorator_shifts c.args.line.0 _ ((map decorator_in c.more.all) ++ (a_decorator c.more.at.0 (exp_of c.in_ok-value.value) ∷ []))) (sign_next _ n.0) n.1);
}

pub more-smaller : goal.more-smaller
more-smaller c = let n = c.take.ensures.found (grind arith) in
    omega (arith, found_shorter c.in_ok-value.ensures, found_shorter c.in_ok-expect.ensures, ap length n.1, some_more _ (sign_next _ n.0))
