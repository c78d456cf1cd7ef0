use Rattle.std.proofs.Common.{◌≡◌, ◌+◌, ◌++◌, length, drop}
use Rattle.std.specs.Prelude.{string_bytes}
use Rattle.std.specs.List.{flat_map}
use Rattle.pt_instr.specs.Encoding.{encoding}
use Rattle.pt_listing.specs.Listing.{instr_lines}
use Rattle.pt_listing.proofs.lines.push_instrs.Given as goal

-- the lines of the rest behind those so far are the lines of all
abbrev pub invariant-loop-instr : goal.invariant-loop-instr
invariant-loop-instr l = record {
  lines : string_bytes l.text ++ instr_lines l.table l.pc (drop l.instr-index l.instrs)
      ≡ string_bytes l.fn.text ++ instr_lines l.table 0 l.instrs;
  left : l.pc + length (flat_map encoding (drop l.instr-index l.instrs)) ≡ length (flat_map encoding l.instrs);
}
