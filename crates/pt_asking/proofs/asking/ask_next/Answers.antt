use Rattle.std.proofs.Common.{◌∙◌, ap, sym}
use Rattle.sem_steps.specs.Asking.{asked}
use Rattle.sem_steps.specs.Steps.{minded}
use Rattle.pt_happenings.specs.Views.{event_view}
use Rattle.pt_pendings.specs.Views.{left_view}
use Rattle.pt_asking.specs.Due.{due_by}
use Rattle.pt_asking.proofs.InOrder.{told_from}
use Rattle.pt_asking.proofs.asking.ask_next.Goals as goal

pub returns-in-From : goal.returns-in-From
returns-in-From c = λ lines.
    let e = event_view c.args.event.now in
    let d = due_by c.args.hooks.now c.args.tools.now e in
    told_from c.args.minds d e c.in-From.place c.next_from.result c.next_from.ensures lines
    ∙ ap (λ l. asked (minded (λ e. c.args.minds)) lines d e (left_view l)) (sym c.in-From.is)
