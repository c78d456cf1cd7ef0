use Rattle.std.proofs.Common.{refl, ◌∙◌, [], ◌≡◌, ◌≢◌, ℕ, Some, List, length, false, ◌-◌, suc, sym, ap, subst, arith, add-one}
use Rattle.pt_readers.specs.declared.sample.Mark.{Mark}
use Rattle.pt_readers.specs.declared.sample.Mark.TheVariants.{Open, Close}
use Rattle.pt_readers.specs.Reading.{next_of, behind, Found, Carries}
use Rattle.pt_readers.specs.Sample.{an_item, a_sum}
use Rattle.pt_readers.proofs.Readers.{left, carries_all, Just, just}
use Rattle.pt_readers.proofs.Pieces.{Through, through_bad, ended}
use Rattle.pt_readers.proofs.Exits.{fails_at, goes_on, peeked, shift_on, found_shorter, some_more}
use Rattle.pt_readers.proofs.SampleLemmas.{sum_binds, plus_shifts, right_binds, tail_found, one_found, open_shifts, inner_binds, IsClose, open_over, BeginsItem, item_bad, not_begun}
use Rattle.pt_readers.proofs.sample.Sums.+reading.Goals as goal

-- behind an opening parenthesis and a sum
in_group : {most d : ℕ} {ts mid rest : List Mark} → next_of ts ≡ Some Open → mid ≡ behind ts → most ≢ 0 → Found (a_sum (most - 1)) mid d rest
    → Carries (an_item most) ts (left (an_item most) (Through IsClose (Just (suc d)))) rest
in_group {most} h k n f = goes_on (shift_on carries_all (open_shifts most) h k) (inner_binds most n) f

pub item-returns-in_default : goal.item-returns-in_default
item-returns-in_default t c = item_bad _ _ (λ b. subst BeginsItem (sym c.in_default.ensures) b)

pub item-returns-then-depth-eq0 : goal.item-returns-then-depth-eq0
item-returns-then-depth-eq0 t c = rw c.if-depth-eq0.true (open_over _ (peeked c.in-Some.ensures c.in-Open.is))

pub item-returns-in_err-inner-in-Open : goal.item-returns-in_err-inner-in-Open
item-returns-in_err-inner-in-Open t c = fails_at _ _ _ _ _ _ c.from_residual.ensures.1
    (shift_on carries_all (open_shifts _) (peeked c.in-Some.ensures c.in-Open.is) c.skip-in-Open.ensures) (inner_binds c.args.depth c.if-depth-eq0.false) c.in_err-inner-in-Open.ensures

pub item-returns-then-not-take : goal.item-returns-then-not-take
item-returns-then-not-take t c = let n = c.take.ensures.none (grind arith) in
    rw n.1 ((in_group (peeked c.in-Some.ensures c.in-Open.is) c.skip-in-Open.ensures c.if-depth-eq0.false c.in_ok-inner-in-Open.ensures).refused false _
    (through_bad (an_item c.args.depth) IsClose (Just (suc c.in_ok-inner-in-Open.inner)) _ (λ t e h. n.0 (e ∙ ap (λ x. Some x) h)) Close refl [] _ (omega (arith, c.in_ok-inner-in-Open.ensures.fits)) (λ z. just)))

pub item-returns-in-One : goal.item-returns-in-One
item-returns-in-One t c = rw c.skip.ensures (one_found _ _ (peeked c.in-Some.ensures c.in-One.is))

pub item-returns-else-not-take : goal.item-returns-else-not-take
item-returns-else-not-take t c =
    let n = c.take.ensures.found (grind arith) in
    rw add-one (ended (an_item c.args.depth) (in_group (peeked c.in-Some.ensures c.in-Open.is) c.skip-in-Open.ensures c.if-depth-eq0.false c.in_ok-inner-in-Open.ensures) n.0 refl n.1 tt
    (omega (arith, c.in_ok-inner-in-Open.ensures.fits)))

pub item-returns-in_default-mark : goal.item-returns-in_default-mark
item-returns-in_default-mark t c = item_bad _ _ (λ b. not_begun c.in-Some.mark.now c.in_default-mark.not-One c.in_default-mark.not-Open (subst BeginsItem (sym c.in-Some.ensures) b))

pub sum-returns-in_err-deepest : goal.sum-returns-in_err-deepest
sum-returns-in_err-deepest t c = fails_at _ _ _ _ _ _ c.from_residual.ensures.1 carries_all (sum_binds _) c.in_err-deepest.ensures

pub sum-more-init : goal.sum-more-init
sum-more-init t c = record {
  shorter = found_shorter c.in_ok-deepest.ensures;
  fits = c.in_ok-deepest.ensures.fits;
  carries = goes_on carries_all (sum_binds _) c.in_ok-deepest.ensures;
}

pub sum-returns-in_err-next : goal.sum-returns-in_err-next
sum-returns-in_err-next t c = let n = c.take.ensures.found c.more-test.true in
    fails_at _ _ _ _ _ _ c.from_residual-in_err-next.ensures.1
    (shift_on c.more.invariant.carries (plus_shifts _ _) n.0 n.1) (right_binds _ _ c.more.invariant.fits) c.in_err-next.ensures

pub sum-more-preserved : goal.sum-more-preserved
sum-more-preserved t c = let n = c.take.ensures.found c.more-test.true in record {
  shorter = omega (arith, found_shorter c.in_ok-next.ensures, ap length n.1, some_more _ n.0);
  fits = omega (arith, c.max-deepest.ensures, c.in_ok-next.ensures.fits);
  carries = rw c.max-deepest.ensures (goes_on (shift_on c.more.invariant.carries (plus_shifts _ _) n.0 n.1) (right_binds _ _ c.more.invariant.fits) c.in_ok-next.ensures);
}

pub sum-returns : goal.sum-returns
sum-returns t c = let n = c.take.ensures.none c.more-test.false in
    rw n.1 (c.more.invariant.carries.found _ _ (tail_found _ _ _ n.0 c.more.invariant.fits))
