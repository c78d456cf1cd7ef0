use Rattle.std.proofs.Common.{rules, ◌≡◌, ◌∙◌, [], ◌∷◌, true, false, refl, sym}
use Rattle.pt_base.specs.Taken.{Pieces, Takes}
use Rattle.pt_cover.specs.Pieces.{is_totals}
use Rattle.pt_cover.proofs.FixedLemmas.{goes-on, rose-within, same-fixed, within-fixed}
use Rattle.pt_cover.proofs.TakenLemmas.{Taken, close-takes, count-takes, on_err, on_ok, over-takes}
use Rattle.pt_cover.proofs.count_log.CountLogSink.write.Goals as goal

-- behind the totals
pub returns-then-self-clause-ok : goal.returns-then-self-clause-ok
returns-then-self-clause-ok g c =
    let s = c.args.self.now in
    on_ok (Taken s.report s.is_over s.events s.totals s.log.failed (g.L.Sink.taken s.log.log.now)) (Taken s.report s.is_over s.events s.totals c.pass.new.self.failed (g.L.Sink.taken c.pass.new.self.log.now)) c.args.piece.now
    (over-takes s.report s.report s.is_over s.is_over s.events s.events s.totals s.totals s.log.failed c.pass.new.self.failed
    (g.L.Sink.taken s.log.log.now) (g.L.Sink.taken c.pass.new.self.log.now) c.args.piece.now refl refl c.if-self.true refl refl c.pass.ensures.taken) c.pass.result

pub returns-then-self-clause-err : goal.returns-then-self-clause-err
returns-then-self-clause-err g c =
    let s = c.args.self.now in
    on_err (Taken s.report s.is_over s.events s.totals s.log.failed (g.L.Sink.taken s.log.log.now)) (Taken s.report s.is_over s.events s.totals c.pass.new.self.failed (g.L.Sink.taken c.pass.new.self.log.now)) c.args.piece.now
    (over-takes s.report s.report s.is_over s.is_over s.events s.events s.totals s.totals s.log.failed c.pass.new.self.failed
    (g.L.Sink.taken s.log.log.now) (g.L.Sink.taken c.pass.new.self.log.now) c.args.piece.now refl refl c.if-self.true refl refl c.pass.ensures.taken) c.pass.result

pub returns-then-self-clause-failed : goal.returns-then-self-clause-failed
returns-then-self-clause-failed g c e =
    rose-within _ _ _ _ c.pass.ensures.later c.pass.ensures.most c.pass.ensures.within (c.pass.ensures.failed e)

pub returns-then-self-clause-later : goal.returns-then-self-clause-later
returns-then-self-clause-later g c = goes-on _ _ _ _ c.pass.ensures.later c.pass.ensures.most c.pass.ensures.within

pub returns-then-self-clause-most : goal.returns-then-self-clause-most
returns-then-self-clause-most g c = same-fixed _ _ _ _ c.pass.ensures.later c.pass.ensures.most c.pass.ensures.within _ _ c.pass.ensures.same_log

pub returns-then-self-clause-counted : goal.returns-then-self-clause-counted
returns-then-self-clause-counted g c = within-fixed c.pass.new.self.log.ghost_name _ _

-- the totals
pub returns-then-is_totals-clause-ok : goal.returns-then-is_totals-clause-ok
returns-then-is_totals-clause-ok g c =
    let s = c.args.self.now in let n = c.close.new.self in
    let is : is_totals c.args.piece.now ≡ true = sym c.is_totals.ensures ∙ c.if-is_totals.true in
    on_ok (Taken s.report s.is_over s.events s.totals s.log.failed (g.L.Sink.taken s.log.log.now)) (Taken n.report n.is_over n.events n.totals n.log.failed (g.L.Sink.taken n.log.log.now)) c.args.piece.now
    (close-takes s.report n.report s.is_over n.is_over s.events n.events s.totals n.totals s.log.failed n.log.failed
    (g.L.Sink.taken s.log.log.now) (g.L.Sink.taken n.log.log.now) c.args.piece.now c.close.ensures.events c.close.ensures.totals c.if-self.false is
    c.close.ensures.report c.close.ensures.over c.close.ensures.taken) c.close.result

pub returns-then-is_totals-clause-err : goal.returns-then-is_totals-clause-err
returns-then-is_totals-clause-err g c =
    let s = c.args.self.now in let n = c.close.new.self in
    let is : is_totals c.args.piece.now ≡ true = sym c.is_totals.ensures ∙ c.if-is_totals.true in
    on_err (Taken s.report s.is_over s.events s.totals s.log.failed (g.L.Sink.taken s.log.log.now)) (Taken n.report n.is_over n.events n.totals n.log.failed (g.L.Sink.taken n.log.log.now)) c.args.piece.now
    (close-takes s.report n.report s.is_over n.is_over s.events n.events s.totals n.totals s.log.failed n.log.failed
    (g.L.Sink.taken s.log.log.now) (g.L.Sink.taken n.log.log.now) c.args.piece.now c.close.ensures.events c.close.ensures.totals c.if-self.false is
    c.close.ensures.report c.close.ensures.over c.close.ensures.taken) c.close.result

pub returns-then-is_totals-clause-failed : goal.returns-then-is_totals-clause-failed
returns-then-is_totals-clause-failed g c e =
    rose-within _ _ _ _ c.close.ensures.later c.close.ensures.most c.close.ensures.within (c.close.ensures.failed e)

pub returns-then-is_totals-clause-later : goal.returns-then-is_totals-clause-later
returns-then-is_totals-clause-later g c = goes-on _ _ _ _ c.close.ensures.later c.close.ensures.most c.close.ensures.within

pub returns-then-is_totals-clause-most : goal.returns-then-is_totals-clause-most
returns-then-is_totals-clause-most g c = same-fixed _ _ _ _ c.close.ensures.later c.close.ensures.most c.close.ensures.within _ _ c.close.ensures.same_log

pub returns-then-is_totals-clause-counted : goal.returns-then-is_totals-clause-counted
returns-then-is_totals-clause-counted g c = within-fixed c.close.new.self.log.log.ghost_name _ _

-- an event
pub returns-else-is_totals-clause-ok : goal.returns-else-is_totals-clause-ok
returns-else-is_totals-clause-ok g c =
    let s = c.args.self.now in let n = c.count.new.self in
    let is : is_totals c.args.piece.now ≡ false = sym c.is_totals.ensures ∙ c.if-is_totals.false in
    on_ok (Taken s.report s.is_over s.events s.totals s.log.failed (g.L.Sink.taken s.log.log.now)) (Taken n.report n.is_over n.events n.totals n.log.failed (g.L.Sink.taken n.log.log.now)) c.args.piece.now
    (count-takes s.report n.report s.is_over n.is_over s.events n.events s.totals n.totals s.log.failed n.log.failed
    (g.L.Sink.taken s.log.log.now) (g.L.Sink.taken n.log.log.now) c.args.piece.now c.count.ensures.events c.count.ensures.totals c.if-self.false is
    c.count.ensures.report c.count.ensures.over c.count.ensures.different c.count.ensures.taken) c.count.result

pub returns-else-is_totals-clause-err : goal.returns-else-is_totals-clause-err
returns-else-is_totals-clause-err g c =
    let s = c.args.self.now in let n = c.count.new.self in
    let is : is_totals c.args.piece.now ≡ false = sym c.is_totals.ensures ∙ c.if-is_totals.false in
    on_err (Taken s.report s.is_over s.events s.totals s.log.failed (g.L.Sink.taken s.log.log.now)) (Taken n.report n.is_over n.events n.totals n.log.failed (g.L.Sink.taken n.log.log.now)) c.args.piece.now
    (count-takes s.report n.report s.is_over n.is_over s.events n.events s.totals n.totals s.log.failed n.log.failed
    (g.L.Sink.taken s.log.log.now) (g.L.Sink.taken n.log.log.now) c.args.piece.now c.count.ensures.events c.count.ensures.totals c.if-self.false is
    c.count.ensures.report c.count.ensures.over c.count.ensures.different c.count.ensures.taken) c.count.result

pub returns-else-is_totals-clause-failed : goal.returns-else-is_totals-clause-failed
returns-else-is_totals-clause-failed g c e =
    rose-within _ _ _ _ c.count.ensures.later c.count.ensures.most c.count.ensures.within (c.count.ensures.failed e)

pub returns-else-is_totals-clause-later : goal.returns-else-is_totals-clause-later
returns-else-is_totals-clause-later g c = goes-on _ _ _ _ c.count.ensures.later c.count.ensures.most c.count.ensures.within

pub returns-else-is_totals-clause-most : goal.returns-else-is_totals-clause-most
returns-else-is_totals-clause-most g c = same-fixed _ _ _ _ c.count.ensures.later c.count.ensures.most c.count.ensures.within _ _ c.count.ensures.same_log

pub returns-else-is_totals-clause-counted : goal.returns-else-is_totals-clause-counted
returns-else-is_totals-clause-counted g c = within-fixed c.count.new.self.log.log.ghost_name _ _
