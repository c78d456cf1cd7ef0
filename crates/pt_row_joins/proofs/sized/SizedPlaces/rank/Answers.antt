use Rattle.std.proofs.Common.{◌≤◌, arith, length, sym, subst}
use Rattle.pt_row_joins.proofs.Loops.{not_less, rank_end}
use Rattle.pt_row_joins.proofs.sized.SizedPlaces.rank.Goals as goal

pub returns-in-None : goal.returns-in-None
returns-in-None c sizes i =
    let le : length c.args.self.now.before.items ≤ c.args.at = subst (λ xs. length xs ≤ c.args.at) c.deref.ensures.value
    (not_less c.args.at (length c.deref.result.now) (sym c.in-None.ensures.lookup.0)) in
    let e = rank_end sizes c.args.self.now c.args.at i le in
    omega (arith, c.len.ensures, e)
