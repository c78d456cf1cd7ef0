use Rattle.std.proofs.Common.{true, false}
use Rattle.pt_readers.proofs.Readers.{carries_all, narrow_carries, then_on}
use Rattle.pt_readers.proofs.Exits.{fails_at, goes_on, shift_on}
use Rattle.pt_readers.specs.Reading.{Carries}
use Rattle.pt_parser.specs.Parts.{imported}
use Rattle.pt_parser.proofs.Tokens.{sign_next}
use Rattle.pt_parser.proofs.Chains.{is_found}
use Rattle.pt_parser.proofs.Ends.{end_binds, end_is}
use Rattle.pt_parser.proofs.ImportLemmas.{star_shifts, open_shifts, enclosure_binds, listed_carries, listed_some}
use Rattle.pt_parser.proofs.reader.Statements.imported.Goals as goal

pub returns-in_err-end : goal.returns-in_err-end
returns-in_err-end c = let n = c.take.ensures.found c.if-take.true in
    fails_at _ _ _ _ _ _ c.from_residual.ensures.1 (shift_on carries_all (star_shifts _) (sign_next _ n.0) n.1) (end_binds (λ xs. Unit {0}) _ tt) c.in_err-end.ensures

pub returns-then-take : goal.returns-then-take
returns-then-take c = let n = c.take.ensures.found c.if-take.true in end_is (λ xs. Unit {0}) (shift_on carries_all (star_shifts _) (sign_next _ n.0) n.1) tt c.in_ok-end.ensures

pub returns-in_err-names : goal.returns-in_err-names
returns-in_err-names c = let m = c.take.ensures.none c.if-take.false in let n = rw m.1 at (c.take-2.ensures.found c.if-take-2.true) in
    fails_at _ _ _ _ _ _ c.from_residual-in_err-names.ensures.1 (shift_on carries_all (open_shifts _) (sign_next _ n.0) n.1) enclosure_binds c.in_err-names.ensures

pub returns-in_err-end-2 : goal.returns-in_err-end-2
returns-in_err-end-2 c = let m = c.take.ensures.none c.if-take.false in let n = rw m.1 at (c.take-2.ensures.found c.if-take-2.true) in
    fails_at _ _ _ _ _ _ c.from_residual-in_err-end-2.ensures.1 (goes_on (shift_on carries_all (open_shifts _) (sign_next _ n.0) n.1) enclosure_binds c.in_ok-names.ensures)
    (end_binds (λ xs. Unit {0}) _ tt) c.in_err-end-2.ensures

pub returns-then-take-2 : goal.returns-then-take-2
returns-then-take-2 c = let m = c.take.ensures.none c.if-take.false in let n = rw m.1 at (c.take-2.ensures.found c.if-take-2.true) in
    end_is (λ xs. Unit {0}) (goes_on (shift_on carries_all (open_shifts _) (sign_next _ n.0) n.1) enclosure_binds c.in_ok-names.ensures) tt c.in_ok-end-2.ensures

pub returns-in_err-names-2 : goal.returns-in_err-names-2
returns-in_err-names-2 c = fails_at _ _ _ _ _ _ c.from_residual-in_err-names-2.ensures.1 (listed_carries (c.take.ensures.none c.if-take.false) (c.take-2.ensures.none c.if-take-2.false))
    listed_some c.in_err-names-2.ensures

pub returns : goal.returns
returns c = (goes_on (listed_carries (c.take.ensures.none c.if-take.false) (c.take-2.ensures.none c.if-take-2.false)) listed_some c.in_ok-names-2.ensures).found _ _
    (is_found imported _ _ c.in_ok-names-2.ensures.stops tt)
