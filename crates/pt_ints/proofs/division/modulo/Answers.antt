use Rattle.std.proofs.Common.{rules}
use Rattle.pt_ints.proofs.DivisionLemmas.{remainder_down, remainder_same, nothing_left}
use Rattle.pt_ints.proofs.RangeLemmas.{from_zero}
use Rattle.pt_ints.proofs.division.modulo.Goals as goal
use Rattle.pt_ints.proofs.division.modulo.Goals.{else-b-lt0-via-then-b-lt0+else-rest-ne0, else-b-lt0-via-else-b-lt0}

pub returns-then-rest-ne0 : goal.returns-then-rest-ne0
returns-then-rest-ne0 c =
    let rest = c.rem_euclid-rest in
    remainder_down c.args.a c.args.b c.ranges.a c.ranges.b c.if-b-eq0.false rest.result rest.ensures.value (search rules) c.if-b-lt0.true c.if-rest-ne0.true (search rules)

pub returns-else-b-lt0 : goal.returns-else-b-lt0
returns-else-b-lt0 c =
    let rest = c.rem_euclid-rest in
    remainder_same c.args.a c.args.b c.ranges.a c.ranges.b c.if-b-eq0.false rest.result rest.ensures.value (search rules)
    (elim c.else-b-lt0.branch [
      | else-b-lt0-via-then-b-lt0+else-rest-ne0 w ↦ λ _. nothing_left c.args.a c.args.b c.ranges.a c.ranges.b c.if-b-eq0.false rest.result rest.ensures.value (search rules) w.if-rest-ne0.false
      | else-b-lt0-via-else-b-lt0 w ↦ λ below. absurd (from_zero c.args.b c.ranges.b w.if-b-lt0.false below)
    ])
