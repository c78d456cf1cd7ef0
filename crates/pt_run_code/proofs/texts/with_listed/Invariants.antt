use Rattle.std.proofs.Common.{◌≡◌, ◌+◌, ◌^◌, ◌<◌, length, drop}
use Rattle.pt_strs.specs.Answer.{counted}
use Rattle.pt_run_code.specs.NamedText.{listed_text}
use Rattle.pt_run_code.proofs.texts.with_listed.Given as goal

abbrev pub invariant-loop-number : goal.invariant-loop-number
invariant-loop-number l = record {
  whole : counted (l.sum + length (listed_text l.texts (drop l.number-index l.numbers))) ≡ counted (l.fn.sum + length (listed_text l.texts l.numbers));
  fits : l.sum < 2 ^ 64;
}
