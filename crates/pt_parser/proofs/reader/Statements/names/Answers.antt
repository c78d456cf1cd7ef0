use Rattle.std.proofs.Common.{refl, sym, ap, subst, length, arith, true, false}
use Rattle.pt_readers.specs.Reading.{Carries}
use Rattle.pt_readers.proofs.Readers.{carries_all, left}
use Rattle.pt_readers.proofs.Exits.{fails_at, goes_on, shift_on, found_shorter, some_more}
use Rattle.pt_parser.specs.Forms.{an_identifier, More}
use Rattle.pt_parser.specs.Simple.{comma}
use Rattle.pt_parser.specs.Parts.{a_list}
use Rattle.pt_parser.proofs.Tokens.{sign_next}
use Rattle.pt_parser.proofs.Ends.{list_first, list_shifts, list_binds, list_done, end_binds, end_is, names_listable}
use Rattle.pt_parser.proofs.reader.Statements.names.Goals as goal

pub returns-in_err-first : goal.returns-in_err-first
returns-in_err-first c = fails_at _ _ _ _ _ _ c.from_residual.ensures.1 carries_all (list_first an_identifier names_listable) c.in_err-first.ensures

pub more-init : goal.more-init
more-init c = record { carries = rw (c.in_ok-push.ensures.ok, c.new-all.ensures) (goes_on carries_all (list_first an_identifier names_listable) c.in_ok-first.ensures) }

pub returns-in_err-next : goal.returns-in_err-next
returns-in_err-next c = let n = c.take.ensures.found c.more-test.true in
    fails_at _ _ _ _ _ _ c.from_residual-in_err-next.ensures.1
    (shift_on c.more.invariant.carries (list_shifts an_identifier names_listable _ _) (sign_next _ n.0) n.1) (list_binds an_identifier names_listable _ _) c.in_err-next.ensures

pub more-smaller : goal.more-smaller
more-smaller c = let n = c.take.ensures.found c.more-test.true in
    omega (arith, found_shorter c.in_ok-next.ensures, ap length n.1, some_more _ (sign_next _ n.0))

pub more-preserved : goal.more-preserved
more-preserved c = let n = c.take.ensures.found c.more-test.true in record {
  carries = rw c.in_ok-push-2.ensures.ok
      (goes_on (shift_on c.more.invariant.carries (list_shifts an_identifier names_listable _ _) (sign_next _ n.0) n.1) (list_binds an_identifier names_listable _ _) c.in_ok-next.ensures);
}

pub returns-in_err-end : goal.returns-in_err-end
returns-in_err-end c = fails_at _ _ _ _ _ _ c.from_residual-in_err-end.ensures.1 (list_done an_identifier names_listable _ c.more.invariant.carries (c.take.ensures.none c.more-test.false))
    (end_binds (λ xs. Unit {0}) _ tt) c.in_err-end.ensures

pub returns : goal.returns
returns c = end_is (λ xs. Unit {0}) (list_done an_identifier names_listable _ c.more.invariant.carries (c.take.ensures.none c.more-test.false)) tt c.in_ok-end.ensures
