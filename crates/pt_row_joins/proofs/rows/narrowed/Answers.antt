use Rattle.std.proofs.Common.{subst}
use Rattle.std.proofs.lemmas.List.{take_all}
use Rattle.pt_row_joins.specs.Rows.{AreNarrowed}
use Rattle.pt_row_joins.proofs.Loops.{narrow_more}
use Rattle.pt_row_joins.proofs.rows.narrowed.Goals as goal

pub loop-row-preserved : goal.loop-row-preserved
loop-row-preserved c sizes r long = narrow_more sizes c.args.rows.now c.loop-row.row-index _ c.loop-row-test.true c.loop-row.all.items c.add_row.new.rows.items
    c.in_ok-narrow.field-0 (c.loop-row.invariant sizes r long) (c.in_ok-narrow.ensures sizes r long) c.in_ok-add_row.ensures

pub returns : goal.returns
returns c sizes r long = subst (λ rows. AreNarrowed sizes rows c.loop-row.all.items)
    (take_all c.loop-row.row-index c.args.rows.now c.loop-row-test.false) (c.loop-row.invariant sizes r long)
