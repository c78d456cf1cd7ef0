use Rattle.std.proofs.Common.{◌≡◌, ◌+◌, ◌≤◌, ◌++◌, drop, vec_len, vec_capacity}
use Rattle.std.specs.Prelude.{flat_map}
use Rattle.pt_cover.specs.Reports.{called_text}
use Rattle.pt_cover.specs.Room.{names_room}
use Rattle.pt_cover.proofs.report.put_names.Given as goal

abbrev pub invariant-loop-row : goal.invariant-loop-row
invariant-loop-row l = record {
  text : l.room.items ++ flat_map called_text (drop l.row-index l.rows) ≡ l.initial.room.items ++ flat_map called_text l.rows;
  room : vec_len l.room + names_room (drop l.row-index l.rows) ≤ vec_len l.initial.room + names_room l.rows;
  capacity : vec_capacity l.initial.room ≤ vec_capacity l.room;
}
