use Rattle.std.proofs.Common.{◌≡◌, ◌+◌, ◌^◌, ◌<◌, length, drop}
use Rattle.std.specs.List.{flat_map}
use Rattle.pt_strs.specs.Answer.{counted}
use Rattle.pt_run_code.specs.NamedText.{listed_text}
use Rattle.pt_run_code.proofs.texts.with_lists.Given as goal

abbrev pub invariant-loop-list : goal.invariant-loop-list
invariant-loop-list l = record {
  whole : counted (l.sum + length (flat_map (listed_text l.texts) (drop l.list-index l.lists))) ≡ counted (l.fn.sum + length (flat_map (listed_text l.texts) l.lists));
  fits : l.sum < 2 ^ 64;
}
