use Rattle.std.proofs.Common.{rules}
use Rattle.pt_machine.specs.Strides.{Strides}
use Rattle.pt_transfers.specs.pt_machine_state.declared.machine.Stride.TheVariants as stride
use Rattle.pt_sinks.specs.declared.writing.WriteErr.TheVariants as error
use Rattle.pt_runner.proofs.AdvanceLemmas.{broken_before, went_silently, if_err}
use Rattle.pt_runner.proofs.advance.advance.Goals as goal

pub returns-in_err-done-clause-err : goal.returns-in_err-done-clause-err
returns-in_err-done-clause-err g c =
    if_err _ c.from_residual.result error.Memory c.from_residual.ensures
    (broken_before c.args.tables.now c.args.bound c.args.machine.now c.args.writes.now c.requires.empty _ _ _ _ (λ _ _ t. t) (λ _ _ t. t))

pub returns-then-done-clause-ok : goal.returns-then-done-clause-ok
returns-then-done-clause-ok g c =
    let strode : Strides c.args.tables.now c.args.bound stride.Goes c.args.machine.now c.args.writes.now c.fast_stride.new.machine
    c.args.writes.now = search rules in
    went_silently c.args.tables.now c.args.bound c.args.machine.now c.args.writes.now c.requires.empty c.fast_stride.new.machine strode _ _
