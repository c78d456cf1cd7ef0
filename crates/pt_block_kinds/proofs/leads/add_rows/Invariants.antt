use Rattle.std.proofs.Common.{◌≡◌, ◌++◌, take, map}
use Rattle.pt_block_kinds.specs.Leads.{leads_of, row_lead}
use Rattle.pt_block_kinds.proofs.leads.add_rows.Given as goal

abbrev pub invariant-loop-row : goal.invariant-loop-row
invariant-loop-row l = leads_of l.edges.items ≡ leads_of l.initial.edges.items ++ map (row_lead l.rows_from) (take l.row-index l.rows)
