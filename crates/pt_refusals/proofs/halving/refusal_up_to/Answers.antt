use Rattle.std.proofs.Common.{◌≡◌, ◌+◌, ◌-◌, ◌/◌, ℕ, suc, option_map, subst, arith}
use Rattle.pt_refusals.specs.Laws.{AgreesBefore, TellsPlace}
use Rattle.pt_refusals.specs.Verdicts.{misfit_of}
use Rattle.pt_refusals.proofs.Refusing.{first_place_refuses}
use Rattle.pt_refusals.proofs.halving.refusal_up_to.Goals as goal

pub loop-low-preserved-in-None : goal.loop-low-preserved-in-None
loop-low-preserved-in-None g c =
    let middle : ℕ = c.loop-low.low + (c.loop-low.high - c.loop-low.low) / 2 in
    record {
      order = omega (arith, c.loop-low-test.true);
      inside = c.loop-low.invariant.inside;
      search = λ b t r. record {
        agrees = subst (AgreesBefore b) (let e : suc middle ≡ middle + 1 = omega arith in e)
            (subst (λ r. TellsPlace b middle (option_map misfit_of r)) c.in-None.is (c.in_ok-refusal_at.ensures b t));
        refuses = (c.loop-low.invariant.search b t r).refuses;
      };
    }

pub returns : goal.returns
returns g c = λ b t r hold.
    let e : c.loop-low.low ≡ c.loop-low.high = omega (arith, c.loop-low.invariant.order, c.loop-low-test.false) in
    let s = c.loop-low.invariant.search b t r in
    first_place_refuses b hold c.loop-low.high (subst (AgreesBefore b) e s.agrees) (misfit_of c.loop-low.found) s.refuses
