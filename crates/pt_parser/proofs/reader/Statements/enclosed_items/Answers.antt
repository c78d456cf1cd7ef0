use Rattle.std.proofs.Common.{[], map, length, arith, ap, false}
use Rattle.std.proofs.lemmas.List.{map-append}
use Rattle.pt_readers.proofs.Readers.{carries_all, left}
use Rattle.pt_readers.proofs.Exits.{fails_at, goes_on, found_shorter, some_more}
use Rattle.pt_grammar.specs.declared.sign.Sign.TheVariants.{Mark as mark}
use Rattle.pt_grammar.specs.declared.sign.Mark.TheVariants.{Close}
use Rattle.pt_parser.specs.Simple.{comma}
use Rattle.pt_parser.specs.Parts.{a_with_item}
use Rattle.pt_parser.specs.With.{FitsItem}
use Rattle.pt_parser.specs.Views.{item_in}
use Rattle.pt_parser.proofs.Tokens.{sign_next}
use Rattle.pt_parser.proofs.UpTo.{each_snoc, item_binds, upto_bad, closed_found, sign_carries, behind_found, item_carries}
use Rattle.pt_parser.proofs.WithLemmas.{item_closable}
use Rattle.pt_parser.proofs.reader.Statements.enclosed_items.Goals as goal

pub more-init : goal.more-init
more-init c = record { fits = c.requires; carries = carries_all }

pub returns-then-take : goal.returns-then-take
returns-then-take c = closed_found comma (mark Close) a_with_item item_closable _ c.more.invariant.carries c.more.invariant.fits (c.take.ensures.found c.if-take.true)

-- behind a comma
pub returns-then-not-take : goal.returns-then-not-take
returns-then-not-take c = let m = c.take.ensures.none c.if-take.false in let n = c.take-in-more.ensures.none c.if-not-take.true in
    rw (n.1, m.1) (c.more.invariant.carries.refused false _ (upto_bad comma (mark Close) a_with_item item_closable _ _ c.more.invariant.fits m.0 (rw m.1 at n.0)))

pub returns-then-take-2 : goal.returns-then-take-2
returns-then-take-2 c = let m = c.take.ensures.none c.if-take.false in
    behind_found comma (mark Close) a_with_item item_closable _ (sign_carries comma (mark Close) a_with_item item_closable _ c.more.invariant.carries (rw m.1 at (c.take-in-more.ensures.found c.if-not-take.false))) c.more.invariant.fits
    (c.take-in-more-2.ensures.found c.if-take-2.true)

pub returns-in_err-next : goal.returns-in_err-next
returns-in_err-next c = let m = c.take.ensures.none c.if-take.false in
    fails_at _ _ _ _ _ _ c.from_residual.ensures.1
    (item_carries comma (mark Close) a_with_item item_closable _ (sign_carries comma (mark Close) a_with_item item_closable _ c.more.invariant.carries (rw m.1 at (c.take-in-more.ensures.found c.if-not-take.false))) (c.take-in-more-2.ensures.none c.if-take-2.false))
    (item_binds comma (mark Close) a_with_item item_closable _ c.more.invariant.fits) c.in_err-next.ensures

pub more-preserved : goal.more-preserved
more-preserved c = let m = c.take.ensures.none c.if-take.false in rw (c.in_ok-push.ensures.ok, map-append) record {
  fits = each_snoc FitsItem (map item_in c.more.all) (item_in c.in_ok-next.next) c.more.invariant.fits c.in_ok-next.ensures.fits;
  carries = goes_on
      (item_carries comma (mark Close) a_with_item item_closable _ (sign_carries comma (mark Close) a_with_item item_closable _ c.more.invariant.carries (rw m.1 at (c.take-in-more.ensures.found c.if-not-take.false))) (c.take-in-more-2.ensures.none c.if-take-2.false))
      (item_binds comma (mark Close) a_with_item item_closable _ c.more.invariant.fits) c.in_ok-next.ensures;
}
