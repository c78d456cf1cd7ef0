use Rattle.std.proofs.Common.{◌<◌, ◌≤◌, refl, subst, arith}
use Rattle.std.specs.Prelude.{min, nat_lt}
use Rattle.std.proofs.Math.Nat.{min-le_left}
use Rattle.pt_sizes.specs.Lows.{IsFewest, below, no_place}
use Rattle.pt_sizes.proofs.LowLemmas.{told_deep}
use Rattle.pt_sizes.proofs.flow.is_deep.Goals as goal

pub returns : goal.returns
returns c = λ places table lows.
    let limit = c.args.limit in
    let row = c.args.row.now in
    let least = min-le_left limit row.to.0 in
    let f : IsFewest (below places table limit) row.from.0 (min limit row.to.0) c.fewest.result = subst (λ n. IsFewest (below places table limit) row.from.0 n c.fewest.result) c.min.ensures
    (c.fewest.ensures (below places table limit) limit lows (omega (arith, least, c.min.ensures))) in
    told_deep places table limit row c.fewest.result f (let small : row.depth < no_place = omega arith in small) (nat_lt c.fewest.result row.depth) refl
