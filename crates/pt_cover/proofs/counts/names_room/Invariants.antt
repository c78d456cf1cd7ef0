use Rattle.std.proofs.Common.{◌≡◌, ◌+◌, drop}
use Rattle.pt_cover.specs.Room.{names_room}
use Rattle.pt_cover.proofs.counts.names_room.Given as goal

abbrev pub invariant-loop-row : goal.invariant-loop-row
invariant-loop-row l = l.room + names_room (drop l.row-index l.rows) ≡ names_room l.rows
