-- How many bytes the names of a report take at most.
use Rattle.std.specs.Prelude.{ℕ, ◌+◌, List, length, sum_by}
use Rattle.pt_cover.specs.declared.rows.NameCount.{NameCount}

abbrev pub name_room : NameCount → ℕ
name_room r = length r.name + 64

abbrev pub names_room : List NameCount → ℕ
names_room rows = sum_by name_room rows
