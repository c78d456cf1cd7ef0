use Rattle.std.proofs.Common.{rules, ◌≡◌, ◌∙◌, true, Option, Some, None, is_some, sym, Bor}
use Rattle.std.specs.Option.{option_copied}
use Rattle.std.proofs.lemmas.Result.{IfOk-weaker}
use Rattle.pt_block_calls.specs.pt_class_rows.Calls.{running}
use Rattle.pt_call_rows.proofs.ValueLemmas.{bound_method_called, function_called}
use Rattle.pt_call_rows.proofs.calls.call_once.Goals as goal

not_there : {T : Type 0} (o : Option (Bor T)) → is_some o ≡ true → option_copied o ≡ None → ⊥
not_there None e n = absurd (cc)
not_there (Some r) e n = absurd (cc)

pub returns-then-is_some-clause-row : goal.returns-then-is_some-clause-row
returns-then-is_some-clause-row c =
    let there : is_some c.function_of.result ≡ true = search rules in
    IfOk-weaker c.call_function.result _ _
    (λ p done. function_called c.args.blocks.now (running c.args.facts.now c.args.locals.now c.args.numbers.now c.args.own.now) c.args.callee c.args.args.now
    c.args.slots.now c.args.cells.now c.args.heap.now p c.call_function.new.cells c.call_function.new.heap
    (λ e. not_there c.function_of.result there (c.function_of.ensures ∙ e)) (done c.args.slots.now))
    c.call_function.ensures

pub returns-in-Some-clause-row : goal.returns-in-Some-clause-row
returns-in-Some-clause-row c = IfOk-weaker c.call_function-in-Some.result _ _
    (λ p done. bound_method_called c.args.blocks.now (running c.args.facts.now c.args.locals.now c.args.numbers.now c.args.own.now) c.args.callee c.args.args.now
    c.args.slots.now c.args.cells.now c.args.heap.now c.in-Some.method c.in_ok-args.args p c.call_function-in-Some.new.cells c.call_function-in-Some.new.heap
    (sym c.bound_of.ensures ∙ c.in-Some.is) c.in_ok-args.ensures (done c.args.slots.now))
    c.call_function-in-Some.ensures
