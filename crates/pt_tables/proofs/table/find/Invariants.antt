use Rattle.std.proofs.Common.{◌≡◌, drop}
use Rattle.pt_tables.specs.Rows.{listed, value_of}
use Rattle.pt_tables.proofs.table.find.Given as goal

abbrev pub invariant-loop-listed : goal.invariant-loop-listed
invariant-loop-listed g l = value_of (listed l.rows) l.name ≡ value_of (listed (drop l.listed-index l.rows)) l.name
