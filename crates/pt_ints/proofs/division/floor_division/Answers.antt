use Rattle.std.proofs.Common.{rules}
use Rattle.pt_ints.proofs.DivisionLemmas.{quotient_down, quotient_same, nothing_left}
use Rattle.pt_ints.proofs.RangeLemmas.{from_zero}
use Rattle.pt_ints.proofs.division.floor_division.Goals as goal
use Rattle.pt_ints.proofs.division.floor_division.Goals.{else-b-lt0-via-then-b-lt0+else-rem_euclid-ne0, else-b-lt0-via-else-b-lt0}

pub returns-then-rem_euclid-ne0 : goal.returns-then-rem_euclid-ne0
returns-then-rem_euclid-ne0 c =
    let quotient = c.div_euclid-quotient in
    quotient_down c.args.a c.args.b c.ranges.a c.ranges.b c.if-b-eq0.false quotient.result quotient.ensures (search rules)
    c.rem_euclid.result c.rem_euclid.ensures.value c.if-b-lt0.true c.if-rem_euclid-ne0.true (search rules)

pub returns-else-b-lt0 : goal.returns-else-b-lt0
returns-else-b-lt0 c =
    let quotient = c.div_euclid-quotient in
    quotient_same c.args.a c.args.b c.ranges.a c.ranges.b c.if-b-eq0.false quotient.result quotient.ensures (search rules)
    (elim c.else-b-lt0.branch [
      | else-b-lt0-via-then-b-lt0+else-rem_euclid-ne0 w ↦ λ _. nothing_left c.args.a c.args.b c.ranges.a c.ranges.b c.if-b-eq0.false w.rem_euclid.result w.rem_euclid.ensures.value (search rules) w.if-rem_euclid-ne0.false
      | else-b-lt0-via-else-b-lt0 w ↦ λ below. absurd (from_zero c.args.b c.ranges.b w.if-b-lt0.false below)
    ])
