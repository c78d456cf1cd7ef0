use Rattle.std.proofs.Common.{◌≡◌, ◌++◌, drop}
use Rattle.pt_dicts.specs.Codes.{bytes_codes}
use Rattle.pt_dicts.proofs.codes.push_bytes.Given as goal

abbrev pub invariant-loop-byte : goal.invariant-loop-byte
invariant-loop-byte l = l.codes ++ bytes_codes (drop l.byte-index l.bytes) ≡ l.fn.codes ++ bytes_codes l.bytes
