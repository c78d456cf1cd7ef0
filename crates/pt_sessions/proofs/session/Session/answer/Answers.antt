use Rattle.std.proofs.Common.{sym, ◌∙◌}
use Rattle.pt_sessions.specs.Sessions.{Session, command_text}
use Rattle.pt_sessions.proofs.SessionLemmas.{asked_quiet, going_new, going_quiet, no_more, outcome_answered, outcome_asks, outcome_goes}
use Rattle.pt_sessions.proofs.session.Session.answer.Goals as goal

pub returns-then-is_asked-clause-outcome : goal.returns-then-is_asked-clause-outcome
returns-then-is_asked-clause-outcome c =
    outcome_asks c.args.frame.now c.args.command (sym c.is_asked.ensures ∙ c.if-is_asked.true)

pub returns-then-is_asked-clause-text : goal.returns-then-is_asked-clause-text
returns-then-is_asked-clause-text c =
    no_more c.args.out.now.items (command_text c.args.self.now c.args.frame.now c.args.command) (asked_quiet c.args.self.now c.args.frame.now c.args.event.now c.args.command (sym c.is_asked.ensures ∙ c.if-is_asked.true)).0

pub returns-then-is_asked-clause-new : goal.returns-then-is_asked-clause-new
returns-then-is_asked-clause-new c =
    sym (asked_quiet c.args.self.now c.args.frame.now c.args.event.now c.args.command (sym c.is_asked.ensures ∙ c.if-is_asked.true)).1

pub returns-then-go-clause-outcome : goal.returns-then-go-clause-outcome
returns-then-go-clause-outcome c =
    outcome_goes c.args.frame.now c.args.command (sym c.is_asked.ensures ∙ c.if-is_asked.false) (sym c.go.ensures.goes ∙ c.if-go.true)

pub returns-then-go-clause-text : goal.returns-then-go-clause-text
returns-then-go-clause-text c =
    no_more c.args.out.now.items (command_text c.args.self.now c.args.frame.now c.args.command) (going_quiet c.args.self.now c.args.frame.now c.args.command (sym c.go.ensures.goes ∙ c.if-go.true)).0

pub returns-then-go-clause-new : goal.returns-then-go-clause-new
returns-then-go-clause-new c =
    let s : Session = record { file = c.self.inside.file; breaks = c.self.inside.breaks; stops = c.self.inside.stops; last = c.self.inside.last } in
    going_new s c.args.self.now c.args.frame.now c.args.event.now c.args.command c.go.new.stops c.self.view_is (sym c.go.ensures.goes ∙ c.if-go.true) c.go.ensures.stops

pub returns-clause-outcome : goal.returns-clause-outcome
returns-clause-outcome c =
    outcome_answered c.args.frame.now c.args.command (sym c.is_asked.ensures ∙ c.if-is_asked.false) (sym c.go.ensures.goes ∙ c.if-go.false)
