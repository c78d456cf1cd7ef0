use Rattle.pt_sinks.specs.declared.writing.WriteErr.TheVariants as error
use Rattle.pt_runner.proofs.AdvanceLemmas.{if_err}
use Rattle.pt_run_code.proofs.JoinLemmas.{code_run, has_blocks, is_ready, all_finished, all_broke_off, broke_off_at_once}
use Rattle.pt_run_code.proofs.running.run_code.Goals as goal

pub returns-then-names_too_much-clause-err : goal.returns-then-names_too_much-clause-err
returns-then-names_too_much-clause-err g c =
    broke_off_at_once c.args.prelude.now c.args.code.now c.args.bound c.args.events _ _ _ _ (λ _ _ t. t) (λ _ _ t. t)

pub load-requires-clause-prelude : goal.load-requires-clause-prelude
load-requires-clause-prelude g c = has_blocks c.args.prelude.now c.requires.prelude.has_file

pub load-requires-clause-code : goal.load-requires-clause-code
load-requires-clause-code g c = has_blocks c.args.code.now c.requires.code.has_file

pub run-requires : goal.run-requires
run-requires g c = record {
  ready = (
    code_run c.args.prelude.now c.args.code.now c.requires.prelude c.requires.code c.in_ok-loaded.loaded c.in_ok-loaded.ensures.tables c.in_ok-loaded.ensures.room,
    is_ready c.args.prelude.now c.args.code.now c.requires.prelude c.requires.code c.in_ok-loaded.loaded c.in_ok-loaded.ensures.tables c.in_ok-loaded.ensures.room c.in_ok-machine.machine c.in_ok-machine.ensures.begins
        c.in_ok-machine.ensures.alone c.in_ok-machine.ensures.names c.args.bound,
  );
}

pub returns-in_err-loaded-clause-err : goal.returns-in_err-loaded-clause-err
returns-in_err-loaded-clause-err g c =
    if_err _ c.from_residual.result error.Memory c.from_residual.ensures
    (broke_off_at_once c.args.prelude.now c.args.code.now c.args.bound c.args.events _ _ _ _ (λ _ _ t. t) (λ _ _ t. t))

pub returns-in_err-machine-clause-err : goal.returns-in_err-machine-clause-err
returns-in_err-machine-clause-err g c =
    if_err _ c.from_residual-in_err-machine.result error.Memory c.from_residual-in_err-machine.ensures
    (broke_off_at_once c.args.prelude.now c.args.code.now c.args.bound c.args.events _ _ _ _ (λ _ _ t. t) (λ _ _ t. t))

pub returns-clause-ok : goal.returns-clause-ok
returns-clause-ok g c =
    all_finished c.args.prelude.now c.args.code.now c.requires.prelude c.requires.code c.in_ok-loaded.loaded c.in_ok-loaded.ensures.tables c.in_ok-loaded.ensures.room c.args.bound c.args.events _ _ _ _ c.in_ok-machine.machine
    (is_ready c.args.prelude.now c.args.code.now c.requires.prelude c.requires.code c.in_ok-loaded.loaded c.in_ok-loaded.ensures.tables c.in_ok-loaded.ensures.room c.in_ok-machine.machine c.in_ok-machine.ensures.begins
    c.in_ok-machine.ensures.alone c.in_ok-machine.ensures.names c.args.bound) c.run.result c.run.ensures.ok

pub returns-clause-err : goal.returns-clause-err
returns-clause-err g c =
    all_broke_off c.args.prelude.now c.args.code.now c.requires.prelude c.requires.code c.in_ok-loaded.loaded c.in_ok-loaded.ensures.tables c.in_ok-loaded.ensures.room c.args.bound c.args.events _ _ _ _ c.in_ok-machine.machine
    (is_ready c.args.prelude.now c.args.code.now c.requires.prelude c.requires.code c.in_ok-loaded.loaded c.in_ok-loaded.ensures.tables c.in_ok-loaded.ensures.room c.in_ok-machine.machine c.in_ok-machine.ensures.begins
    c.in_ok-machine.ensures.alone c.in_ok-machine.ensures.names c.args.bound) c.run.result c.run.ensures.err
