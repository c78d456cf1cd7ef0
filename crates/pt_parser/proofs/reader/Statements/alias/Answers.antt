use Rattle.std.proofs.Common.{arith}
use Rattle.pt_readers.proofs.Readers.{carries_all, left}
use Rattle.pt_readers.proofs.Exits.{fails_at, goes_on, shift_on}
use Rattle.pt_parser.specs.Parts.{an_alias}
use Rattle.pt_parser.specs.Forms.{Is}
use Rattle.pt_parser.proofs.Tokens.{sign_next}
use Rattle.pt_parser.proofs.Chains.{is_found}
use Rattle.pt_parser.proofs.ImportLemmas.{alias_name, alias_alone, as_shifts, new_name}
use Rattle.pt_parser.proofs.reader.Statements.alias.Goals as goal

pub returns-in_err-name : goal.returns-in_err-name
returns-in_err-name c = fails_at _ _ _ _ _ _ c.from_residual.ensures.1 carries_all alias_name c.in_err-name.ensures

pub returns-then-not-take : goal.returns-then-not-take
returns-then-not-take c = let n = c.take.ensures.none (grind arith) in rw n.1 ((goes_on carries_all alias_name c.in_ok-name.ensures).found _ _ (alias_alone _ _ n.0))

pub returns-in_err-alias : goal.returns-in_err-alias
returns-in_err-alias c = let n = c.take.ensures.found (grind arith) in
    fails_at _ _ _ _ _ _ c.from_residual-in_err-alias.ensures.1 (shift_on (goes_on carries_all alias_name c.in_ok-name.ensures) (as_shifts _ _) (sign_next _ n.0) n.1) (new_name _) c.in_err-alias.ensures

pub returns : goal.returns
returns c = let n = c.take.ensures.found (grind arith) in
    (goes_on (shift_on (goes_on carries_all alias_name c.in_ok-name.ensures) (as_shifts _ _) (sign_next _ n.0) n.1) (new_name _) c.in_ok-alias.ensures).found _ _ (is_found an_alias _ _ (λ h. cc) tt)
