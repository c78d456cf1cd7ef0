use Rattle.std.proofs.Common.{arith}
use Rattle.pt_readers.proofs.Readers.{carries_all}
use Rattle.pt_readers.proofs.Exits.{fails_at, goes_on, shift_on}
use Rattle.pt_parser.specs.Parts.{a_renamed}
use Rattle.pt_parser.proofs.Tokens.{sign_next}
use Rattle.pt_parser.proofs.Chains.{is_found}
use Rattle.pt_parser.proofs.HeadLemmas.{not_as, as_shifts, new_name, some_not_none}
use Rattle.pt_parser.proofs.reader.Statements.renamed.Goals as goal

pub returns-then-not-take : goal.returns-then-not-take
returns-then-not-take c = let n = c.take.ensures.none (grind arith) in rw n.1 (not_as _ n.0)

pub returns-in_err-name : goal.returns-in_err-name
returns-in_err-name c = let n = c.take.ensures.found (grind arith) in fails_at _ _ _ _ _ _ c.from_residual.ensures.1 (shift_on carries_all (as_shifts _) (sign_next _ n.0) n.1) new_name c.in_err-name.ensures

pub returns : goal.returns
returns c = let n = c.take.ensures.found (grind arith) in
    (goes_on (shift_on carries_all (as_shifts _) (sign_next _ n.0) n.1) new_name c.in_ok-name.ensures).found _ _ (is_found a_renamed _ _ (some_not_none _ _) tt)
