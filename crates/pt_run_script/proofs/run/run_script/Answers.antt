use Rattle.pt_tree.specs.StatementFold.{script_of}
use Rattle.pt_sinks.specs.declared.writing.WriteErr.TheVariants as error
use Rattle.pt_run_code.proofs.pt_runner.AdvanceLemmas.{if_err}
use Rattle.pt_run_script.proofs.JoinLemmas.{code_run, is_ready, all_finished, all_broke_off, has_its_module}
use Rattle.pt_run_script.proofs.RunLemmas.{broke_off_at_once}
use Rattle.pt_run_script.proofs.run.run_script.Goals as goal

pub compile-requires : goal.compile-requires
compile-requires g c = c.requires.read_prelude.1.no_fault

pub compile-requires-2 : goal.compile-requires-2
compile-requires-2 g c = c.requires.read.1.no_fault

pub load-requires-clause-prelude : goal.load-requires-clause-prelude
load-requires-clause-prelude g c = has_its_module (script_of c.args.prelude.now) c.in_ok-prelude_code.prelude_code c.in_ok-prelude_code.ensures.0

pub load-requires-clause-code : goal.load-requires-clause-code
load-requires-clause-code g c = has_its_module (script_of c.args.script.now) c.in_ok-code.code c.in_ok-code.ensures.0

pub run-requires : goal.run-requires
run-requires g c = record {
  ready = (
    code_run (script_of c.args.prelude.now) (script_of c.args.script.now) c.in_ok-prelude_code.prelude_code c.in_ok-code.code
        (record { text = c.requires.read_prelude.0; is = c.requires.read_prelude.1; built = c.requires.built_prelude; code_is = c.in_ok-prelude_code.ensures.0; fit = c.in_ok-prelude_code.ensures.1 })
        (record { text = c.requires.read.0; is = c.requires.read.1; built = c.requires.built; code_is = c.in_ok-code.ensures.0; fit = c.in_ok-code.ensures.1 })
        c.in_ok-loaded.loaded c.in_ok-loaded.ensures.tables c.in_ok-loaded.ensures.room,
    is_ready (script_of c.args.prelude.now) (script_of c.args.script.now) c.in_ok-prelude_code.prelude_code c.in_ok-code.code
        (record { text = c.requires.read_prelude.0; is = c.requires.read_prelude.1; built = c.requires.built_prelude; code_is = c.in_ok-prelude_code.ensures.0; fit = c.in_ok-prelude_code.ensures.1 })
        (record { text = c.requires.read.0; is = c.requires.read.1; built = c.requires.built; code_is = c.in_ok-code.ensures.0; fit = c.in_ok-code.ensures.1 })
        c.in_ok-loaded.loaded c.in_ok-loaded.ensures.tables c.in_ok-loaded.ensures.room
        c.in_ok-machine.machine c.in_ok-machine.ensures.begins c.in_ok-machine.ensures.alone c.in_ok-machine.ensures.names c.args.bound,
  );
}

-- nothing is written before the run
pub returns-in_err-prelude_code-clause-err : goal.returns-in_err-prelude_code-clause-err
returns-in_err-prelude_code-clause-err g c =
    if_err _ c.from_residual.result error.Memory c.from_residual.ensures
    (broke_off_at_once (script_of c.args.prelude.now) (script_of c.args.script.now) c.args.bound c.args.events _ _ _ _ (λ _ _ t. t) (λ _ _ t. t))

pub returns-in_err-code-clause-err : goal.returns-in_err-code-clause-err
returns-in_err-code-clause-err g c =
    if_err _ c.from_residual-in_err-code.result error.Memory c.from_residual-in_err-code.ensures
    (broke_off_at_once (script_of c.args.prelude.now) (script_of c.args.script.now) c.args.bound c.args.events _ _ _ _ (λ _ _ t. t) (λ _ _ t. t))

pub returns-in_err-loaded-clause-err : goal.returns-in_err-loaded-clause-err
returns-in_err-loaded-clause-err g c =
    if_err _ c.from_residual-in_err-loaded.result error.Memory c.from_residual-in_err-loaded.ensures
    (broke_off_at_once (script_of c.args.prelude.now) (script_of c.args.script.now) c.args.bound c.args.events _ _ _ _ (λ _ _ t. t) (λ _ _ t. t))

pub returns-in_err-machine-clause-err : goal.returns-in_err-machine-clause-err
returns-in_err-machine-clause-err g c =
    if_err _ c.from_residual-in_err-machine.result error.Memory c.from_residual-in_err-machine.ensures
    (broke_off_at_once (script_of c.args.prelude.now) (script_of c.args.script.now) c.args.bound c.args.events _ _ _ _ (λ _ _ t. t) (λ _ _ t. t))

pub returns-clause-ok : goal.returns-clause-ok
returns-clause-ok g c =
    all_finished (script_of c.args.prelude.now) (script_of c.args.script.now) c.in_ok-prelude_code.prelude_code c.in_ok-code.code
    (record { text = c.requires.read_prelude.0; is = c.requires.read_prelude.1; built = c.requires.built_prelude; code_is = c.in_ok-prelude_code.ensures.0; fit = c.in_ok-prelude_code.ensures.1 })
    (record { text = c.requires.read.0; is = c.requires.read.1; built = c.requires.built; code_is = c.in_ok-code.ensures.0; fit = c.in_ok-code.ensures.1 })
    c.in_ok-loaded.loaded c.in_ok-loaded.ensures.tables c.in_ok-loaded.ensures.room
    c.args.bound c.args.events _ _ _ _ c.in_ok-machine.machine
    (is_ready (script_of c.args.prelude.now) (script_of c.args.script.now) c.in_ok-prelude_code.prelude_code c.in_ok-code.code
    (record { text = c.requires.read_prelude.0; is = c.requires.read_prelude.1; built = c.requires.built_prelude; code_is = c.in_ok-prelude_code.ensures.0; fit = c.in_ok-prelude_code.ensures.1 })
    (record { text = c.requires.read.0; is = c.requires.read.1; built = c.requires.built; code_is = c.in_ok-code.ensures.0; fit = c.in_ok-code.ensures.1 })
    c.in_ok-loaded.loaded c.in_ok-loaded.ensures.tables c.in_ok-loaded.ensures.room
    c.in_ok-machine.machine c.in_ok-machine.ensures.begins c.in_ok-machine.ensures.alone c.in_ok-machine.ensures.names c.args.bound) c.run.result c.run.ensures.ok

pub returns-clause-err : goal.returns-clause-err
returns-clause-err g c =
    all_broke_off (script_of c.args.prelude.now) (script_of c.args.script.now) c.in_ok-prelude_code.prelude_code c.in_ok-code.code
    (record { text = c.requires.read_prelude.0; is = c.requires.read_prelude.1; built = c.requires.built_prelude; code_is = c.in_ok-prelude_code.ensures.0; fit = c.in_ok-prelude_code.ensures.1 })
    (record { text = c.requires.read.0; is = c.requires.read.1; built = c.requires.built; code_is = c.in_ok-code.ensures.0; fit = c.in_ok-code.ensures.1 })
    c.in_ok-loaded.loaded c.in_ok-loaded.ensures.tables c.in_ok-loaded.ensures.room
    c.args.bound c.args.events _ _ _ _ c.in_ok-machine.machine
    (is_ready (script_of c.args.prelude.now) (script_of c.args.script.now) c.in_ok-prelude_code.prelude_code c.in_ok-code.code
    (record { text = c.requires.read_prelude.0; is = c.requires.read_prelude.1; built = c.requires.built_prelude; code_is = c.in_ok-prelude_code.ensures.0; fit = c.in_ok-prelude_code.ensures.1 })
    (record { text = c.requires.read.0; is = c.requires.read.1; built = c.requires.built; code_is = c.in_ok-code.ensures.0; fit = c.in_ok-code.ensures.1 })
    c.in_ok-loaded.loaded c.in_ok-loaded.ensures.tables c.in_ok-loaded.ensures.room
    c.in_ok-machine.machine c.in_ok-machine.ensures.begins c.in_ok-machine.ensures.alone c.in_ok-machine.ensures.names c.args.bound) c.run.result c.run.ensures.err
