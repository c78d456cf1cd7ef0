use Rattle.std.proofs.Common.{◌≡◌, subst}
use Rattle.std.specs.Prelude.{find}
use Rattle.pt_takers.specs.Sides.{is_below}
use Rattle.pt_takers.specs.Chains.{Falls}
use Rattle.pt_takers.proofs.Lists.{is_less, not_less}
use Rattle.pt_takers.proofs.StretchLemmas.{beyond, within}
use Rattle.pt_takers.proofs.stretches.first_in.Goals as goal

pub returns-in-None : goal.returns-in-None
returns-in-None c rows a = beyond c.args.side c.args.bound rows c.args.level.now c.args.node a (not_less _ _ c.in-None.ensures.lookup.0)

pub returns-in-Some : goal.returns-in-Some
returns-in-Some c rows a = within c.args.side c.args.bound rows c.args.level.now c.args.node c.in-Some.chain.now c.first_below.result a
    (is_less _ _ c.in-Some.ensures.lookup.0) c.in-Some.ensures.lookup.1
    (subst (λ xs. Falls c.args.side xs → c.first_below.result ≡ find (is_below c.args.side c.args.bound) xs) c.deref.ensures.value c.first_below.ensures)
