use Rattle.std.proofs.Common.{[], subst, arith, ◌≡◌}
use Rattle.pt_closure.specs.Closure.{Open}
use Rattle.pt_closure.proofs.LeastSet.{open_start, closes, is_empty, no_more}
use Rattle.pt_closure.proofs.closing.closure.Goals as goal

pub loop-pair-init : goal.loop-pair-init
loop-pair-init g c = record {
  seen = c.new-found.ensures.seen;
  known = λ next t. open_start next c.args.seeds.items c.new-found.result.pairs.items c.new-found.ensures.none;
}

pub loop-pair-preserved : goal.loop-pair-preserved
loop-pair-preserved g c = record {
  seen = c.in_ok-step.ensures.seen;
  known = λ next t. c.in_ok-step.ensures.known next t c.args.seeds.items
      (subst (λ ws. Open next c.args.seeds.items ws c.loop-pair.found.pairs.items) c.in-Some.ensures.items (c.loop-pair.invariant.known next t));
}

pub returns : goal.returns
returns g c = λ next t.
    let none : c.pop.new.self.items ≡ [] =
    is_empty c.pop.new.self.items (omega (arith, c.in_default.ensures.cases, c.in_default.ensures.variant)) in
    let all : c.loop-pair.work.items ≡ [] = no_more c.loop-pair.work.items c.pop.new.self.items c.in_default.ensures.items none in
    closes next c.args.seeds.items c.loop-pair.found.pairs.items
    (subst (λ ws. Open next c.args.seeds.items ws c.loop-pair.found.pairs.items) all (c.loop-pair.invariant.known next t))
