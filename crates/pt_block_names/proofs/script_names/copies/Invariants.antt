use Rattle.std.proofs.Common.{◌≡◌, take}
use Rattle.pt_block_names.proofs.script_names.copies.Given as goal

abbrev pub invariant-loop-name : goal.invariant-loop-name
invariant-loop-name l = l.copies ≡ take l.name-index l.names
