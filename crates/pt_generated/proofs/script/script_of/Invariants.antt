use Rattle.std.proofs.Common.{◌≡◌, ◌++◌, codes, string_bytes}
use Rattle.pt_generated.specs.Script.{functions_below}
use Rattle.pt_generated.proofs.script.script_of.Given as goal

abbrev pub invariant-loop-number : goal.invariant-loop-number
invariant-loop-number l = record {
  text : string_bytes l.text ≡ codes "total = 0\n" ++ functions_below l.number;
}
