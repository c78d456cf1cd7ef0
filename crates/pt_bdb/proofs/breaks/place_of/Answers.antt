use Rattle.std.proofs.Common.{◌<◌, length, get_or, ap, arith}
use Rattle.pt_bdb.specs.declared.row.Breakpoint.{Breakpoint}
use Rattle.pt_bdb.proofs.Rows.{none_beyond}
use Rattle.pt_bdb.proofs.breaks.place_of.Goals as goal

pub loop-at-preserved : goal.loop-at-preserved
loop-at-preserved c =
    let rows = c.args.rows.now in
    let at = c.loop-at.at in
    let within : at < length rows = omega arith in
    none_beyond c.args.number rows at (get_or rows at c.index-rows-at.result) within (ap (λ (d : Breakpoint). get_or rows at d) c.index-rows-at.is) c.if-rows-at.false
    c.loop-at.invariant
