use Rattle.std.proofs.Common.{◌≡◌, ◌+◌, ◌^◌, ◌<◌, length, drop}
use Rattle.pt_strs.specs.Answer.{counted}
use Rattle.pt_run_code.specs.NamedText.{names_text}
use Rattle.pt_run_code.proofs.texts.with_names.Given as goal

abbrev pub invariant-loop-name : goal.invariant-loop-name
invariant-loop-name l = record {
  whole : counted (l.sum + length (names_text l.texts (drop l.name-index l.names))) ≡ counted (l.fn.sum + length (names_text l.texts l.names));
  fits : l.sum < 2 ^ 64;
}
