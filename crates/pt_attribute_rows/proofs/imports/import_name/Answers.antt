use Rattle.std.proofs.Common.{sym}
use Rattle.std.proofs.lemmas.Result.{IfOk-weaker}
use Rattle.pt_attribute_rows.proofs.ImportLemmas.{no_name_row}
use Rattle.pt_attribute_rows.proofs.imports.import_name.Goals as goal

pub returns-then-is_missing-clause-row : goal.returns-then-is_missing-clause-row
returns-then-is_missing-clause-row c = IfOk-weaker c.no_name.result _ _
    (λ p done. no_name_row c.args.blocks.now c.args.name.now c.args.text c.args.slots.now c.args.heap.now c.in-Some.module p c.in_ok-attribute.attribute
    (sym c.in-Some.ensures) c.in_ok-attribute.ensures (sym c.if-is_missing.ensures) done)
    c.no_name.ensures
