use Rattle.pt_bdb.proofs.Rows.{none_without, ordered_without, some_answer, some_without}
use Rattle.pt_bdb.proofs.breaks.Breaks.clear.Goals as goal

pub returns-in_default-clause-new : goal.returns-in_default-clause-new
returns-in_default-clause-new c =
    none_without c.args.number c.as_slice.result.now c.args.self.now
    (record { lines = c.self.inside.lines; rows = c.self.inside.rows.items; last = c.self.inside.last })
    c.self.view_is c.as_slice.ensures.value c.in_default.ensures

pub invariant_of-self : goal.invariant_of-self
invariant_of-self c =
    ordered_without c.args.number c.as_slice.result.now c.remove.new.self.items
    (record { lines = c.self.inside.lines; rows = c.self.inside.rows.items; last = c.self.inside.last })
    c.in-Some.at c.remove.result c.as_slice.ensures.value c.in-Some.ensures c.remove.ensures.value c.remove.ensures.items c.self.invariant

pub returns-clause-answer : goal.returns-clause-answer
returns-clause-answer c =
    some_answer c.args.number c.as_slice.result.now c.args.self.now
    (record { lines = c.self.inside.lines; rows = c.self.inside.rows.items; last = c.self.inside.last })
    c.in-Some.at c.remove.result c.self.view_is c.as_slice.ensures.value c.in-Some.ensures c.remove.ensures.value

pub returns-clause-new : goal.returns-clause-new
returns-clause-new c =
    some_without c.args.number c.as_slice.result.now c.remove.new.self.items c.args.self.now
    (record { lines = c.self.inside.lines; rows = c.self.inside.rows.items; last = c.self.inside.last })
    c.in-Some.at c.remove.result c.self.view_is c.as_slice.ensures.value c.in-Some.ensures c.remove.ensures.value c.remove.ensures.items
