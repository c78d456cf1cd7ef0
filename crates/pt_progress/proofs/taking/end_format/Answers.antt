use Rattle.std.proofs.Common.{◌≡◌, refl, rules}
use Rattle.std.proofs.lemmas.Result.{IfOk-weaker}
use Rattle.pt_base.specs.declared.what.What.TheVariants.{Feature, Helper}
use Rattle.pt_content.specs.declared.answer.PrimAns.TheVariants as prim
use Rattle.pt_progress.proofs.FormatLemmas.{laid_failed, laid_out, laid_outside, leaves_by}
use Rattle.pt_progress.proofs.taking.end_format.Goals as goal

pub returns-in-Value : goal.returns-in-Value
returns-in-Value c =
    let same : c.in_ok-laid.field-0 ≡ prim.Value c.in-Value.laid = search rules in
    laid_out c.args.blocks.now c.args.caller.now c.args.next c.args.closed.now c.args.machine.now c.args.writes.now c.args.spec c.args.text c.in_ok-laid.field-0 c.prim.new.heap
    c.in_ok-laid.ensures.answer c.in_ok-laid.ensures.heap c.in-Value.laid c.give_back.new.machine same c.in_ok-give_back-in-Value.ensures

pub returns-in-Raise : goal.returns-in-Raise
returns-in-Raise c =
    let same : c.in_ok-laid.field-0 ≡ prim.Raise c.in-Raise.class c.in-Raise.arg = search rules in
    IfOk-weaker c.raise_with.result _ _
    (λ r h. laid_failed c.args.blocks.now c.args.caller.now c.args.next c.args.closed.now c.args.machine.now c.args.writes.now c.args.spec c.args.text c.in_ok-laid.field-0 c.prim.new.heap
    c.in_ok-laid.ensures.answer c.in_ok-laid.ensures.heap c.in-Raise.class c.in-Raise.arg r c.raise_with.new.machine c.raise_with.new.writes same h)
    c.raise_with.ensures

pub returns-in-Outside : goal.returns-in-Outside
returns-in-Outside c =
    let same : c.in_ok-laid.field-0 ≡ prim.Outside c.in-Outside.what = search rules in
    laid_outside c.args.blocks.now c.args.caller.now c.args.next c.args.closed.now c.args.machine.now c.args.writes.now c.args.spec c.args.text c.in_ok-laid.field-0 c.prim.new.heap
    c.in_ok-laid.ensures.answer c.in_ok-laid.ensures.heap (prim.Outside c.in-Outside.what) c.in-Outside.what c.outside.result same refl
    (c.outside.ensures.0, (c.outside.ensures.1, c.outside.ensures.2))

pub returns-in-Help : goal.returns-in-Help
returns-in-Help c =
    let same : c.in_ok-laid.field-0 ≡ prim.Help c.in-Help.helper c.in-Help.operands c.in-Help.inverted = search rules in
    laid_outside c.args.blocks.now c.args.caller.now c.args.next c.args.closed.now c.args.machine.now c.args.writes.now c.args.spec c.args.text c.in_ok-laid.field-0 c.prim.new.heap
    c.in_ok-laid.ensures.answer c.in_ok-laid.ensures.heap (prim.Help c.in-Help.helper c.in-Help.operands c.in-Help.inverted) Helper c.outside-in-Help.result same refl
    (c.outside-in-Help.ensures.0, (c.outside-in-Help.ensures.1, c.outside-in-Help.ensures.2))

pub returns : goal.returns
returns c =
    laid_outside c.args.blocks.now c.args.caller.now c.args.next c.args.closed.now c.args.machine.now c.args.writes.now c.args.spec c.args.text c.in_ok-laid.field-0 c.prim.new.heap
    c.in_ok-laid.ensures.answer c.in_ok-laid.ensures.heap c.in_ok-laid.field-0 Feature c.outside-in-Values.result refl
    (leaves_by (λ vs. prim.Values vs) (λ vs. refl) c.in_ok-laid.field-0 c.in-Values.is)
    (c.outside-in-Values.ensures.0, (c.outside-in-Values.ensures.1, c.outside-in-Values.ensures.2))
