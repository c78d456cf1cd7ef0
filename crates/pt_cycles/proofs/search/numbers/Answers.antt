use Rattle.std.proofs.Common.{arith, ◌≡◌, ◌<◌, ◌+◌, ℕ, sym, subst}
use Rattle.pt_cycles.specs.declared.search.State.TheVariants.{Done}
use Rattle.pt_cycles.specs.Graphs.{number_of}
use Rattle.pt_cycles.specs.Search.{state_of}
use Rattle.pt_cycles.proofs.Tables.{numbers_more, done_in}
use Rattle.pt_cycles.proofs.search.numbers.Goals as goal

pub loop-state-preserved : goal.loop-state-preserved
loop-state-preserved c = record {
  long = (let h = c.in_ok-push.ensures.len in omega (arith, h, c.loop-state.invariant.long));
  has = subst (λ xs. (v k : ℕ) → v < c.loop-state.state-index + 1 → state_of c.args.states.now v ≡ Done k → number_of xs v ≡ k) (sym c.in_ok-push.ensures.items)
      (numbers_more c.args.states.now c.loop-state.table.items c.loop-state.state-index _ c.number_in.result c.loop-state.invariant.long
      (omega (arith, c.loop-state-test.true)) c.loop-state.invariant.has c.number_in.ensures);
}

pub returns : goal.returns
returns c = record {
  long = omega (arith, c.loop-state.invariant.long, c.loop-state-test.false, c.loop-state.auto.state-index-end);
  each = λ v k e. c.loop-state.invariant.has v k (let h = done_in c.args.states.now v k e in omega (arith, h, c.loop-state-test.false)) e;
}
