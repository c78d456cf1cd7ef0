use Rattle.std.proofs.Common.{◌∙◌, ℕ, List, IsTrue, ap, subst}
use Rattle.pt_tables.specs.Rows.{names_of, value_of, are_different}
use Rattle.pt_tables.proofs.RowLemmas.{looked_up}
use Rattle.pt_tables.proofs.table.Table.get.Goals as goal

pub returns-clause-each : goal.returns-clause-each
returns-clause-each g c =
    let Rows : Type 0 = List (List ℕ × g.row.V.Denot) in
    let different = subst (λ (rows : Rows). IsTrue (are_different (names_of rows))) c.self.view_is c.self.invariant.1 in
    looked_up c.args.self.now c.args.name.now c.find.result different (c.find.ensures ∙ ap (λ (rows : Rows). value_of rows c.args.name.now) c.self.view_is)
