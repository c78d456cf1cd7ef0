use Rattle.std.proofs.Common.{◌∙◌, arith}
use Rattle.pt_pdb.proofs.LineLemmas.{found}
use Rattle.pt_pdb.proofs.position.shown.Goals as goal

pub returns-in-Some : goal.returns-in-Some
returns-in-Some c =
    c.as_slice.ensures
    ∙ found c.args.lines.now c.args.number.0 c.in-Some.line.now (omega (arith, c.if-number-eq0.false)) c.in-Some.ensures.lookup.3.0 c.in-Some.ensures.lookup.1
