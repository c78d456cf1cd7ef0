use Rattle.std.proofs.Common.{◌≡◌, ◌+◌, ◌*◌, ◌≤◌, ◌++◌, length, drop, vec_len, vec_capacity}
use Rattle.std.specs.Prelude.{flat_map}
use Rattle.pt_cover.specs.Reports.{line_text}
use Rattle.pt_cover.proofs.report.put_lines.Given as goal

abbrev pub invariant-loop-row : goal.invariant-loop-row
invariant-loop-row l = record {
  text : l.room.items ++ flat_map line_text (drop l.row-index l.rows) ≡ l.initial.room.items ++ flat_map line_text l.rows;
  room : vec_len l.room + 42 * length (drop l.row-index l.rows) ≤ vec_len l.initial.room + 42 * length l.rows;
  capacity : vec_capacity l.initial.room ≤ vec_capacity l.room;
}
