use Rattle.std.proofs.Common.{◌≡◌, sym, subst}
use Rattle.std.proofs.lemmas.Result.{IfOk-weaker}
use Rattle.pt_block_calls.specs.pt_class_rows.Instances.{IsInitialized, MakesInstance}
use Rattle.pt_call_rows.specs.CallRows.{CallsScripted}
use Rattle.pt_call_rows.proofs.MethodLemmas.{scripted_done, scripted_initialized}
use Rattle.pt_call_rows.proofs.calls.call_scripted.Goals as goal

pub returns-in-Done-clause-row : goal.returns-in-Done-clause-row
returns-in-Done-clause-row c =
    scripted_done c.args.blocks.now c.args.class c.args.args.now c.args.slots.now c.args.cells.now c.args.heap.now c.in-Done.progress
    c.make_instance.new.slots c.make_instance.new.heap
    (subst (λ i. MakesInstance c.args.class c.args.args.now c.args.slots.now c.args.heap.now i c.make_instance.new.slots c.make_instance.new.heap)
    c.in-Done.is c.in_ok-progress.ensures.row)

pub returns-in_ok-args-in-Initialized-clause-row : goal.returns-in_ok-args-in-Initialized-clause-row
returns-in_ok-args-in-Initialized-clause-row c =
    let made : (c.make_instance.new.slots ≡ c.args.slots.now) × IsInitialized c.args.class c.args.args.now c.args.heap.now c.in-Initialized.function c.in-Initialized.made c.make_instance.new.heap =
    subst (λ i. MakesInstance c.args.class c.args.args.now c.args.slots.now c.args.heap.now i c.make_instance.new.slots c.make_instance.new.heap)
    c.in-Initialized.is c.in_ok-progress.ensures.row in
    IfOk-weaker c.call_function.result _ _
    (λ p done. subst (λ n. CallsScripted c.args.blocks.now c.args.class c.args.args.now c.args.slots.now c.args.cells.now c.args.heap.now p n c.call_function.new.cells c.call_function.new.heap)
    (sym made.0)
    (scripted_initialized c.args.blocks.now c.args.class c.args.args.now c.args.slots.now c.args.cells.now c.args.heap.now c.in-Initialized.function c.in-Initialized.made
    c.in_ok-args-in-Initialized.args c.make_instance.new.heap p c.call_function.new.cells c.call_function.new.heap made.1 c.in_ok-args-in-Initialized.ensures
    (done c.args.slots.now)))
    c.call_function.ensures
