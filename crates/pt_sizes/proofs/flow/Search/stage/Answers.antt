use Rattle.std.proofs.Common.{◌+◌, Some, None, sym, subst, arith, false}
use Rattle.pt_sizes.specs.Waiting.{Waits, levels_of}
use Rattle.pt_sizes.specs.Search.{Open, Expansion, body_of}
use Rattle.pt_sizes.proofs.Tables.{entry_is}
use Rattle.pt_sizes.proofs.Theory.{stage_some}
use Rattle.pt_sizes.proofs.Telling.{pass_none, pass_no_place}
use Rattle.pt_sizes.proofs.flow.Search.stage.Goals as goal

pub returns-in_default : goal.returns-in_default
returns-in_default c =
    let s = c.args.self.now in let a = c.args.asked.now in
    pass_no_place (body_of a.places.items a.rows.items a.first) c.args.at s.table.items (levels_of s.waiting.levels) c.requires.open
    (entry_is a.places.items c.args.at c.index.result.now None c.requires.inside c.index.ensures c.in_default.is)

pub settle-requires-clause-open : goal.settle-requires-clause-open
settle-requires-clause-open c =
    let s = c.args.self.now in let a = c.args.asked.now in
    let b = body_of a.places.items a.rows.items a.first in
    let new = c.go_on.new.self in
    let size = c.in-Some-index.size in
    let place = c.in-Some.place in
    let w = c.in_ok-go_on-in-Some-index.ensures in
    let went = subst (λ x. Expansion b c.args.at size place x new.work.items (Waits (levels_of s.waiting.levels)) (Waits (levels_of new.waiting.levels)) false new.deep false new.few)
    c.clear.ensures.items w.went in
    subst (λ t. Open b (c.args.at + 1) t new.work.items (Waits (levels_of new.waiting.levels)) new.deep new.few) (sym w.same)
    (stage_some b c.args.at s.table.items (Waits (levels_of s.waiting.levels)) c.requires.open.opens size place
    (entry_is s.table.items c.args.at c.index-2.result.now (Some size) (omega (arith, c.requires.inside, c.requires.open.opens.long)) c.index-2.ensures c.in-Some-index.is)
    (entry_is a.places.items c.args.at c.index.result.now (Some place) c.requires.inside c.index.ensures c.in-Some.is)
    new.work.items (Waits (levels_of new.waiting.levels)) new.deep new.few went)

pub returns-in-None : goal.returns-in-None
returns-in-None c =
    let s = c.args.self.now in let a = c.args.asked.now in
    pass_none (body_of a.places.items a.rows.items a.first) c.args.at s.table.items (levels_of s.waiting.levels) c.requires.open
    (entry_is s.table.items c.args.at c.index-2.result.now None (omega (arith, c.requires.inside, c.requires.open.opens.long)) c.index-2.ensures c.in-None.is)
