use Rattle.std.proofs.Common.{arith}
use Rattle.pt_readers.proofs.Readers.{carries_all}
use Rattle.pt_readers.proofs.Pieces.{made_found}
use Rattle.pt_readers.proofs.Exits.{fails_at, shift_on}
use Rattle.pt_grammar.specs.Texts.{a_conversion}
use Rattle.pt_grammar.proofs.Ranks.{signed_next}
use Rattle.pt_grammar.proofs.StringLemmas.{no_conversion_found, conversion_shifts, conversion_made}
use Rattle.pt_expr.proofs.reader.Reader.conversion.Goals as goal

pub returns-then-not-take : goal.returns-then-not-take
returns-then-not-take c = let m = c.take.ensures.none (grind arith) in rw m.1 (no_conversion_found _ m.0)

pub returns-in_err-conversion_name : goal.returns-in_err-conversion_name
returns-in_err-conversion_name c = let m = c.take.ensures.found (grind arith) in
    let n = signed_next _ m.0 in
    fails_at _ _ _ _ _ _ c.from_residual.ensures.1 (shift_on carries_all (conversion_shifts n.0) n.1 m.1) conversion_made c.in_err-conversion_name.ensures.value

pub returns : goal.returns
returns c = let m = c.take.ensures.found (grind arith) in
    let n = signed_next _ m.0 in
    made_found a_conversion (shift_on carries_all (conversion_shifts n.0) n.1 m.1) conversion_made c.in_ok-conversion_name.ensures.value tt tt
