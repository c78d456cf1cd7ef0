use Rattle.pt_wide.specs.Fold.{exp_of}
use Rattle.pt_wide.specs.StatementFold.{stm_of}
use Rattle.pt_readers.proofs.Readers.{carries_all, narrow_carries, then_on}
use Rattle.pt_readers.proofs.Exits.{fails_at, goes_on, carried_all, shift_on, is_so, is_not}
use Rattle.std.proofs.Common.{◌≡◌, ◌∙◌, sym, ap, map, [], ◌∷◌, ◌++◌, true, false, length, arith}
use Rattle.std.proofs.lemmas.List.{map-append}
use Rattle.pt_readers.proofs.Exits.{found_shorter, some_more}
use Rattle.pt_parser.specs.Limits.{FitsExp}
use Rattle.pt_parser.specs.Targets.{is_target}
use Rattle.pt_parser.proofs.Tokens.{sign_next}
use Rattle.pt_parser.proofs.UpTo.{each_snoc}
use Rattle.pt_parser.proofs.StatedLemmas.{fits_all, assigned_binds, assign_shifts, assign_bad, assign_ends}
use Rattle.pt_parser.proofs.reader.Statements.assigning.Goals as goal

pub returns-then-not-is_target : goal.returns-then-not-is_target
returns-then-not-is_target c = c.targets.invariant.carries.refused false _
    (assign_bad c.args.line.0 (map exp_of c.targets.targets) (exp_of c.targets.last) _ (is_so c.is.ensures c.targets-test.true)
    (sym (ap (λ u. is_target (exp_of u)) c.get.ensures) ∙ sym c.is_target.ensures ∙ c.if-not-is_target.true) c.targets.invariant.each c.targets.invariant.last)

pub returns-in_err-last : goal.returns-in_err-last
returns-in_err-last c = fails_at _ _ _ _ _ _ c.from_residual-in_err-last.ensures.1
    (shift_on c.targets.invariant.carries (assign_shifts c.args.line.0 _ (map exp_of c.targets.targets) (exp_of c.targets.last) (sym (ap (λ u. is_target (exp_of u)) c.get.ensures) ∙ sym c.is_target.ensures ∙ c.if-not-is_target.false))
    (sign_next _ (is_so c.is.ensures c.targets-test.true)) c.skip.ensures)
    (assigned_binds c.args.line.0 ((map exp_of c.targets.targets) ++ ((exp_of c.targets.last) ∷ [])) (each_snoc FitsExp (map exp_of c.targets.targets) (exp_of c.targets.last) c.targets.invariant.each c.targets.invariant.last)) c.in_err-last.ensures

pub targets-preserved : goal.targets-preserved
targets-preserved c = rw (c.in_ok-push.ensures.ok, map-append, c.into_inner.ensures) record {
  each = each_snoc FitsExp (map exp_of c.targets.targets) (exp_of c.targets.last) c.targets.invariant.each c.targets.invariant.last;
  last = c.in_ok-last.ensures.fits;
  carries = goes_on
      (shift_on c.targets.invariant.carries (assign_shifts c.args.line.0 _ (map exp_of c.targets.targets) (exp_of c.targets.last) (sym (ap (λ u. is_target (exp_of u)) c.get.ensures) ∙ sym c.is_target.ensures ∙ c.if-not-is_target.false))
      (sign_next _ (is_so c.is.ensures c.targets-test.true)) c.skip.ensures)
      (assigned_binds c.args.line.0 ((map exp_of c.targets.targets) ++ ((exp_of c.targets.last) ∷ [])) (each_snoc FitsExp (map exp_of c.targets.targets) (exp_of c.targets.last) c.targets.invariant.each c.targets.invariant.last)) c.in_ok-last.ensures;
}

pub ended-requires : goal.ended-requires
ended-requires c = rw c.assigned.ensures (fits_all (map exp_of c.targets.targets) c.targets.invariant.each, c.targets.invariant.last)

pub returns : goal.returns
returns c = carried_all stm_of _ _ (then_on c.targets.invariant.carries (narrow_carries (assign_ends c.args.line.0 (map exp_of c.targets.targets) (exp_of c.targets.last) _ (is_not c.is.ensures c.targets-test.false))))
    (rw c.assigned.ensures at c.ended.ensures)
