use Rattle.std.proofs.Common.{arith, ◌∙◌, refl}
use Rattle.pt_runner.specs.Advancing.{counted}
use Rattle.pt_runner.proofs.AdvanceLemmas.{if_err}
use Rattle.pt_runner.proofs.RunLemmas.{started, broken_at_start, standing, one_more, finished, broken, broken_between}
use Rattle.pt_runner.proofs.runner.run.Goals as goal

pub returns-in_err-begin-clause-err : goal.returns-in_err-begin-clause-err
returns-in_err-begin-clause-err g c =
    if_err _ c.from_residual.result _ c.from_residual.ensures
    (λ r ready. broken_at_start r c.args.bound c.args.events c.args.tables.now c.args.machine.now ready _ _ _ _ _ (c.in_err-begin.ensures.err))

pub loop-stride-init : goal.loop-stride-init
loop-stride-init g c = record {
  so_far = λ r ready.
      started r c.args.bound c.args.events c.args.tables.now c.args.machine.now ready _ _ _ _ _ (record { instructions = omega arith; depth = refl })
      c.in_ok-begin.ensures.ok;
  empty = c.in_ok-begin.ensures.emptied;
  events = c.in_ok-begin.ensures.events;
  out_most = c.in_ok-begin.ensures.most.0;
  log_most = c.in_ok-begin.ensures.most.1;
  out_later = c.in_ok-begin.ensures.later.0;
  log_later = c.in_ok-begin.ensures.later.1;
}

pub advance-requires-clause-stands : goal.advance-requires-clause-stands
advance-requires-clause-stands g c =
    let ready = c.requires.ready.1 in
    standing c.requires.ready.0 c.args.bound c.args.events c.args.tables.now c.args.machine.now ready c.loop-stride.machine c.loop-stride.totals _ _ _ _
    (c.loop-stride.invariant.so_far c.requires.ready.0 ready)

pub returns-in_err-stop-clause-err : goal.returns-in_err-stop-clause-err
returns-in_err-stop-clause-err g c =
    if_err _ c.from_residual-in_err-stop.result _ c.from_residual-in_err-stop.ensures (λ r ready.
    broken r c.args.bound c.args.events c.args.tables.now c.args.machine.now ready c.loop-stride.machine c.loop-stride.totals _ _ _ _
    (c.loop-stride.invariant.so_far r ready) _ _ c.loop-stride.writes.events c.loop-stride.invariant.events _ c.in_err-stop.ensures.err)

pub returns-in-Some-clause-ok : goal.returns-in-Some-clause-ok
returns-in-Some-clause-ok g c = λ r ready.
    finished r c.args.bound c.args.events c.args.tables.now c.args.machine.now ready c.loop-stride.machine c.loop-stride.totals _ _ _ _
    (c.loop-stride.invariant.so_far r ready) _ _ c.loop-stride.writes.events c.loop-stride.invariant.events c.advance.new.machine c.in_ok-stop.stop
    c.in_ok-stop.ensures.ok _
    (c.count.ensures ∙ (λ i. counted (c.next_over-next.ensures i) (c.stopped_spent.ensures i) c.advance.new.machine.units c.loop-stride.totals))
    c.in-Some.is

pub loop-stride-preserved : goal.loop-stride-preserved
loop-stride-preserved g c = record {
  so_far = λ r ready.
      one_more r c.args.bound c.args.events c.args.tables.now c.args.machine.now ready c.loop-stride.machine c.loop-stride.totals _ _ _ _
      (c.loop-stride.invariant.so_far r ready) _ _ c.loop-stride.writes.events c.loop-stride.invariant.events c.advance.new.machine c.in_ok-stop.stop
      c.in_ok-stop.ensures.ok _
      (c.count.ensures ∙ (λ i. counted (c.next_over-next.ensures i) (c.stopped_spent.ensures i) c.advance.new.machine.units c.loop-stride.totals))
      c.in_default.is;
  empty = c.in_ok-stop.ensures.emptied;
  events = c.in_ok-stop.ensures.events ∙ c.loop-stride.invariant.events;
  out_most = c.in_ok-stop.ensures.most.0 ∙ c.loop-stride.invariant.out_most;
  log_most = c.in_ok-stop.ensures.most.1 ∙ c.loop-stride.invariant.log_most;
  out_later = omega (arith, c.in_ok-stop.ensures.later);
  log_later = omega (arith, c.in_ok-stop.ensures.later);
}

pub returns-clause-err : goal.returns-clause-err
returns-clause-err g c = λ r ready.
    broken_between r c.args.bound c.args.events c.args.tables.now c.args.machine.now ready c.loop-stride.machine c.loop-stride.totals _ _ _ _
    (c.loop-stride.invariant.so_far r ready)
