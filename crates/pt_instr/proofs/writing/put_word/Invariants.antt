use Rattle.std.proofs.Common.{◌≡◌, ◌++◌, take}
use Rattle.std.specs.Int.{w32, to_le_bytes}
use Rattle.pt_instr.proofs.writing.put_word.Given as goal

abbrev pub invariant-loop-byte : goal.invariant-loop-byte
invariant-loop-byte l = (l.byte-items ≡ to_le_bytes w32 l.word) × (l.into ≡ l.fn.into ++ take l.byte-index l.byte-items)
