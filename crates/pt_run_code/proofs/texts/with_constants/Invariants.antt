use Rattle.std.proofs.Common.{◌≡◌, ◌+◌, ◌^◌, ◌<◌, length, drop}
use Rattle.std.specs.List.{flat_map}
use Rattle.pt_strs.specs.Answer.{counted}
use Rattle.pt_run_code.specs.NamedText.{constant_text}
use Rattle.pt_run_code.proofs.texts.with_constants.Given as goal

abbrev pub invariant-loop-constant : goal.invariant-loop-constant
invariant-loop-constant l = record {
  whole : counted (l.sum + length (flat_map (constant_text l.texts) (drop l.constant-index l.constants))) ≡ counted (l.fn.sum + length (flat_map (constant_text l.texts) l.constants));
  fits : l.sum < 2 ^ 64;
}
