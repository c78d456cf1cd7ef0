use Rattle.pt_sinks.specs.declared.writing.WriteErr.TheVariants as error
use Rattle.pt_runner.proofs.AdvanceLemmas.{front_none, told_whole, told_front, if_err}
use Rattle.pt_runner.proofs.runner.begin.Goals as goal

pub returns-in_err-tell-clause-err : goal.returns-in_err-tell-clause-err
returns-in_err-tell-clause-err g c =
    if_err _ c.from_residual.result error.Memory c.from_residual.ensures (front_none _ _ _ _ _ (λ _ _ t. t) (λ _ _ t. t))

pub returns-clause-ok : goal.returns-clause-ok
returns-clause-ok g c =
    told_whole c.args.writes.now c.tell.new.writes c.at-block.result.now _ c.args.machine.now c.requires.empty
    c.at-block.ensures c.in_ok-tell.ensures _ _ _ _ c.drain.result c.drain.ensures.ok

pub returns-clause-err : goal.returns-clause-err
returns-clause-err g c =
    told_front c.args.writes.now c.tell.new.writes c.at-block.result.now _ c.args.machine.now c.requires.empty
    c.at-block.ensures c.in_ok-tell.ensures _ _ _ _ c.drain.result c.drain.ensures.err
