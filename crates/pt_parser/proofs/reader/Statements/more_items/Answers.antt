use Rattle.std.proofs.Common.{◌≡◌, ◌≢◌, ◌∙◌, sym, ap, map, [], ◌∷◌, ◌++◌, Some, true, false, length, arith}
use Rattle.std.proofs.lemmas.List.{map-append}
use Rattle.pt_readers.specs.Reading.{next_of}
use Rattle.pt_readers.proofs.Readers.{carries_all, left}
use Rattle.pt_readers.proofs.Exits.{fails_at, goes_on, shift_on, is_so, is_not, found_shorter, some_more}
use Rattle.pt_grammar.specs.declared.sign.Sign.TheVariants.{Mark as mark}
use Rattle.pt_grammar.specs.declared.sign.Mark.TheVariants.{Colon}
use Rattle.pt_grammar.specs.Lexemes.{sign_at}
use Rattle.pt_parser.specs.With.{FitsItem}
use Rattle.pt_parser.specs.Views.{item_in}
use Rattle.pt_parser.proofs.Tokens.{sign_next}
use Rattle.pt_parser.proofs.UpTo.{each_snoc}
use Rattle.pt_parser.proofs.WithLemmas.{comma_shifts, next_binds, rest_found, rest_bad, enclosed_two, snoc_some}
use Rattle.pt_parser.proofs.reader.Statements.more_items.Goals as goal

pub more-init : goal.more-init
more-init c = rw (c.in_ok-push.ensures.ok, c.new-all.ensures) record {
  fits = (c.requires.fits, tt);
  some = λ h. cc;
  apart = c.requires.apart;
  carries = carries_all;
}

pub returns-in_err-next : goal.returns-in_err-next
returns-in_err-next c = let n = c.take.ensures.found c.more-test.true in
    fails_at _ _ _ _ _ _ c.from_residual-in_err-next.ensures.1
    (shift_on c.more.invariant.carries (comma_shifts (map item_in c.more.all) _) (sign_next _ n.0) n.1) (next_binds (map item_in c.more.all) c.more.invariant.fits c.more.invariant.some) c.in_err-next.ensures

pub more-smaller : goal.more-smaller
more-smaller c = let n = c.take.ensures.found c.more-test.true in
    omega (arith, found_shorter c.in_ok-next.ensures, ap length n.1, some_more _ (sign_next _ n.0))

pub more-preserved : goal.more-preserved
more-preserved c = let n = c.take.ensures.found c.more-test.true in rw (c.in_ok-push-2.ensures.ok, map-append) record {
  fits = each_snoc FitsItem (map item_in c.more.all) (item_in c.in_ok-next.next) c.more.invariant.fits c.in_ok-next.ensures.fits;
  some = snoc_some (map item_in c.more.all) (item_in c.in_ok-next.next);
  apart = λ h. let k = sym h ∙ enclosed_two (map item_in c.more.all) (item_in c.in_ok-next.next) c.more.invariant.some in cc;
  carries = goes_on (shift_on c.more.invariant.carries (comma_shifts (map item_in c.more.all) _) (sign_next _ n.0) n.1) (next_binds (map item_in c.more.all) c.more.invariant.fits c.more.invariant.some) c.in_ok-next.ensures;
}

pub returns-then-not-is : goal.returns-then-not-is
returns-then-not-is c = let n = c.take.ensures.none c.more-test.false in
    rw n.1 (c.more.invariant.carries.refused false _ (rest_bad (map item_in c.more.all) _ c.more.invariant.fits c.more.invariant.some n.0 (rw n.1 at (is_not c.is.ensures c.if-not-is.true))))

pub returns : goal.returns
returns c = let n = c.take.ensures.none c.more-test.false in
    rw n.1 (c.more.invariant.carries.found _ _ (rest_found (map item_in c.more.all) _ c.more.invariant.fits c.more.invariant.apart (rw n.1 at (is_so c.is.ensures c.if-not-is.false))))
