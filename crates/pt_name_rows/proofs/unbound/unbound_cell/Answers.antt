use Rattle.std.proofs.Common.{arith}
use Rattle.std.proofs.lemmas.Result.{IfOk-weaker}
use Rattle.pt_code_facts.specs.Facts.{facts_view}
use Rattle.pt_name_rows.proofs.NameLemmas.{cell_told, free_told}
use Rattle.pt_name_rows.proofs.unbound.unbound_cell.Goals as goal

pub returns-then-number-len : goal.returns-then-number-len
returns-then-number-len c = IfOk-weaker c.unbound_local.result _ _
    (λ p h. cell_told (facts_view c.args.facts.now) c.args.number _ p (omega (arith, c.if-number-len.true, c.len.ensures)) c.cell_name-name.ensures h)
    c.unbound_local.ensures

pub returns-else-number-len : goal.returns-else-number-len
returns-else-number-len c = IfOk-weaker c.unbound_free.result _ _
    (λ p h. free_told (facts_view c.args.facts.now) c.args.number _ p (omega (arith, c.if-number-len.false, c.len.ensures)) c.cell_name-name.ensures h)
    c.unbound_free.ensures
