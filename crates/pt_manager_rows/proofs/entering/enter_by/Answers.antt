use Rattle.std.proofs.lemmas.Result.{IfOk-weaker}
use Rattle.pt_manager_rows.proofs.EnterLemmas.{no_enter, no_exit}
use Rattle.pt_manager_rows.proofs.entering.enter_by.Goals as goal

pub returns-in-NoEnter : goal.returns-in-NoEnter
returns-in-NoEnter c = IfOk-weaker c.missing.result _ _
    (λ p fails slots. no_enter c.args.manager c.args.blocks.now slots c.args.cells.now c.args.heap.now c.in_ok-enter.field-0 c.in_ok-enter.ensures p c.in-NoEnter.is
    fails)
    c.missing.ensures

pub returns-in-NoExit : goal.returns-in-NoExit
returns-in-NoExit c = IfOk-weaker c.missing-in-NoExit.result _ _
    (λ p fails slots. no_exit c.args.manager c.args.blocks.now slots c.args.cells.now c.args.heap.now c.in_ok-enter.field-0 c.in_ok-enter.ensures p c.in-NoExit.is
    fails)
    c.missing-in-NoExit.ensures
