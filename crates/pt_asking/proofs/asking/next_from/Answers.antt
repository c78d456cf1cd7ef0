use Rattle.std.proofs.Common.{◌≡◌, ◌∙◌, ◌+◌, ◌-◌, ◌&&◌, Bool, false, sym, subst, arith}
use Rattle.std.proofs.lemmas.Bool.{and_left, and_right}
use Rattle.sem_run.specs.run.Events.{is_for_debugger}
use Rattle.pt_happenings.specs.Views.{event_view}
use Rattle.pt_asking.specs.Due.{due_by}
use Rattle.pt_asking.specs.Asking.{IsNextFrom}
use Rattle.pt_asking.proofs.InOrder.{debugger_passed}
use Rattle.pt_asking.proofs.asking.next_from.Goals as goal
use Rattle.pt_asking.proofs.asking.next_from.Goals.{else-is_for_debugger-via-then-is_for_debugger+else-minds, else-is_for_debugger-via-else-is_for_debugger}

pub returns-then-place-ge-FIRST_TOOL : goal.returns-then-place-ge-FIRST_TOOL
returns-then-place-ge-FIRST_TOOL c =
    let e = event_view c.args.event.now in
    let d = due_by c.args.hooks.now c.args.tools.now e in
    let there : (c.args.place - 2) + 2 ≡ c.args.place = omega (arith, c.if-place-ge-FIRST_TOOL.true) in
    subst (λ n. IsNextFrom c.args.minds d e n c.next_function.result) there
    (c.next_function.ensures c.args.minds)

pub returns-else-is_for_debugger : goal.returns-else-is_for_debugger
returns-else-is_for_debugger c =
    let e = event_view c.args.event.now in
    let d = due_by c.args.hooks.now c.args.tools.now e in
    let m : Bool = c.args.minds in
    let unasked : (is_for_debugger e.what && m) ≡ false =
    elim c.else-is_for_debugger.branch [
      | else-is_for_debugger-via-then-is_for_debugger+else-minds w ↦ and_right (is_for_debugger e.what) m w.if-minds.false
      | else-is_for_debugger-via-else-is_for_debugger w ↦ and_left (is_for_debugger e.what) m (sym c.is_for_debugger.ensures ∙ w.if-is_for_debugger.false)
    ] in
    debugger_passed m d e c.args.place c.next_function-else-is_for_debugger.result
    (omega (arith, c.if-place-ge-FIRST_TOOL.false)) unasked
    (c.next_function-else-is_for_debugger.ensures m)
