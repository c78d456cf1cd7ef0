use Rattle.pt_bdb.proofs.Rows.{some_row}
use Rattle.pt_bdb.proofs.breaks.Breaks.row.Goals as goal

pub returns-in-Some : goal.returns-in-Some
returns-in-Some c =
    some_row c.args.number c.as_slice.result.now c.args.self.now
    (record { lines = c.self.inside.lines; rows = c.self.inside.rows.items; last = c.self.inside.last })
    c.in-Some.at c.index.result.now c.self.view_is c.as_slice.ensures.value c.in-Some.ensures c.index.ensures
