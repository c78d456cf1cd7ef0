use Rattle.std.proofs.Common.{◌∙◌}
use Rattle.pt_sinks.specs.declared.writing.WriteErr.TheVariants as error
use Rattle.pt_sinks.proofs.WritingLemmas.{front_of_all}
use Rattle.pt_runner.proofs.AdvanceLemmas.{broken_before, broken_within, went_on, came_to_end, events_stay, lacks_nothing, if_err}
use Rattle.pt_runner.proofs.advance.advance_in_full.Goals as goal

pub returns-in_err-stride-clause-err : goal.returns-in_err-stride-clause-err
returns-in_err-stride-clause-err g c =
    if_err _ c.from_residual.result error.Memory c.from_residual.ensures
    (broken_before c.args.tables.now c.args.bound c.args.machine.now c.args.writes.now c.requires.empty _ _ _ _ (λ _ _ t. t) (λ _ _ t. t))

pub returns-in_err-drain-clause-err : goal.returns-in_err-drain-clause-err
returns-in_err-drain-clause-err g c =
    if_err _ c.from_residual-in_err-drain.result _ c.from_residual-in_err-drain.ensures
    (broken_within c.args.tables.now c.args.bound c.args.machine.now c.args.writes.now c.requires.empty c.in_ok-stride.stride c.stride.new.machine
    c.stride.new.writes c.in_ok-stride.ensures _ _ _ _ _ c.in_err-drain.ensures.err)

pub returns-in_err-end-in-Ends-clause-err : goal.returns-in_err-end-in-Ends-clause-err
returns-in_err-end-in-Ends-clause-err g c =
    if_err _ c.from_residual-in_err-end-in-Ends.result error.Memory c.from_residual-in_err-end-in-Ends.ensures
    (broken_within c.args.tables.now c.args.bound c.args.machine.now c.args.writes.now c.requires.empty c.in_ok-stride.stride c.stride.new.machine
    c.stride.new.writes c.in_ok-stride.ensures _ _ _ _ error.Memory (front_of_all _ _ _ _ _ c.in_ok-drain.ensures.ok))

pub returns-in-Goes-clause-ok : goal.returns-in-Goes-clause-ok
returns-in-Goes-clause-ok g c =
    went_on c.args.tables.now c.args.bound c.args.machine.now c.args.writes.now c.requires.empty c.in_ok-stride.stride c.stride.new.machine
    c.stride.new.writes c.in_ok-stride.ensures _ _ _ _ c.in-Goes.is c.in_ok-drain.ensures.ok

pub returns-in_ok-end-in-Ends-clause-ok : goal.returns-in_ok-end-in-Ends-clause-ok
returns-in_ok-end-in-Ends-clause-ok g c =
    came_to_end c.args.tables.now c.args.bound c.args.machine.now c.args.writes.now c.requires.empty c.in_ok-stride.stride c.stride.new.machine
    c.stride.new.writes c.in_ok-stride.ensures _ _ _ _ c.in-Ends.end c.in-Ends.is c.in_ok-end-in-Ends.end c.in_ok-end-in-Ends.ensures
    c.in_ok-drain.ensures.ok

pub returns-in-Goes-clause-events : goal.returns-in-Goes-clause-events
returns-in-Goes-clause-events g c =
    c.in_ok-drain.ensures.events
    ∙ events_stay c.args.tables.now c.args.bound c.args.machine.now c.args.writes.now c.requires.empty c.in_ok-stride.stride c.stride.new.machine
    c.stride.new.writes c.in_ok-stride.ensures c.requires.stands

pub returns-in_ok-end-in-Ends-clause-events : goal.returns-in_ok-end-in-Ends-clause-events
returns-in_ok-end-in-Ends-clause-events g c =
    c.in_ok-drain.ensures.events
    ∙ events_stay c.args.tables.now c.args.bound c.args.machine.now c.args.writes.now c.requires.empty c.in_ok-stride.stride c.stride.new.machine
    c.stride.new.writes c.in_ok-stride.ensures c.requires.stands

pub unreachable-requires : goal.unreachable-requires
unreachable-requires g c =
    lacks_nothing c.args.tables.now c.args.bound c.args.machine.now c.args.writes.now c.requires.empty c.in_ok-stride.stride c.stride.new.machine
    c.stride.new.writes c.in_ok-stride.ensures c.in-Lacks.is c.requires.stands
