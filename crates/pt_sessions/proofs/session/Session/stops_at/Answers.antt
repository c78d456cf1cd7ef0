use Rattle.std.proofs.Common.{sym, ap, ◌∙◌}
use Rattle.pt_bdb.specs.Stops.{stops_at}
use Rattle.pt_sessions.specs.Sessions.{Session, event_text}
use Rattle.pt_sessions.proofs.SessionLemmas.{no_more, untried_new, untried_stops, untried_text}
use Rattle.pt_sessions.proofs.session.Session.stops_at.Goals as goal

pub returns-then-not-are_tried-clause-stops : goal.returns-then-not-are_tried-clause-stops
returns-then-not-are_tried-clause-stops g c =
    let judge = g.J.Judge.verdict (g.J.Judge.held c.args.judge.now) in
    c.here.ensures ∙ ap (λ (s : Session). stops_at s.stops c.args.event.now) c.self.view_is ∙ untried_stops judge c.args.event.now c.args.self.now (sym c.are_tried.ensures ∙ c.if-not-are_tried.true)

pub returns-then-not-are_tried-clause-text : goal.returns-then-not-are_tried-clause-text
returns-then-not-are_tried-clause-text g c =
    let judge = g.J.Judge.verdict (g.J.Judge.held c.args.judge.now) in
    no_more c.args.out.now.items (event_text judge c.args.event.now c.args.self.now) (untried_text judge c.args.event.now c.args.self.now (sym c.are_tried.ensures ∙ c.if-not-are_tried.true))

pub returns-then-not-are_tried-clause-new : goal.returns-then-not-are_tried-clause-new
returns-then-not-are_tried-clause-new g c =
    let judge = g.J.Judge.verdict (g.J.Judge.held c.args.judge.now) in
    untried_new judge c.args.event.now c.args.self.now (sym c.are_tried.ensures ∙ c.if-not-are_tried.true)
