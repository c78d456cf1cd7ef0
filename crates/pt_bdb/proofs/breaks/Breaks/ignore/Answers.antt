use Rattle.pt_bdb.specs.Breakpoints.{with_ignore}
use Rattle.pt_bdb.proofs.Rows.{none_with, ordered_with, some_answer, some_with}
use Rattle.pt_bdb.proofs.breaks.Breaks.ignore.Goals as goal

pub returns-in_default-clause-new : goal.returns-in_default-clause-new
returns-in_default-clause-new c =
    none_with c.args.number (with_ignore c.args.count) c.as_slice.result.now c.args.self.now
    (record { lines = c.self.inside.lines; rows = c.self.inside.rows.items; last = c.self.inside.last })
    c.self.view_is c.as_slice.ensures.value c.in_default.ensures

pub invariant_of-self : goal.invariant_of-self
invariant_of-self c =
    ordered_with c.args.number (with_ignore c.args.count) c.as_slice.result.now
    (record { lines = c.self.inside.lines; rows = c.self.inside.rows.items; last = c.self.inside.last })
    c.in-Some.at c.index_mut.result.now c.as_slice.ensures.value c.in-Some.ensures c.index_mut.ensures.value c.self.invariant

pub returns-clause-answer : goal.returns-clause-answer
returns-clause-answer c =
    some_answer c.args.number c.as_slice.result.now c.args.self.now
    (record { lines = c.self.inside.lines; rows = c.self.inside.rows.items; last = c.self.inside.last })
    c.in-Some.at c.index_mut.result.now c.self.view_is c.as_slice.ensures.value c.in-Some.ensures c.index_mut.ensures.value

pub returns-clause-new : goal.returns-clause-new
returns-clause-new c =
    some_with c.args.number (with_ignore c.args.count) c.as_slice.result.now c.args.self.now
    (record { lines = c.self.inside.lines; rows = c.self.inside.rows.items; last = c.self.inside.last })
    c.in-Some.at c.index_mut.result.now c.self.view_is c.as_slice.ensures.value c.in-Some.ensures c.index_mut.ensures.value
