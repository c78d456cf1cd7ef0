use Rattle.std.proofs.Common.{◌≡◌, ◌+◌, ◌^◌, ◌<◌, length, drop}
use Rattle.std.specs.List.{flat_map}
use Rattle.pt_strs.specs.Answer.{counted}
use Rattle.pt_run_code.specs.NamedText.{block_text}
use Rattle.pt_run_code.proofs.texts.with_blocks.Given as goal

abbrev pub invariant-loop-block : goal.invariant-loop-block
invariant-loop-block l = record {
  whole : counted (l.sum + length (flat_map (block_text l.texts) (drop l.block-index l.blocks))) ≡ counted (l.fn.sum + length (flat_map (block_text l.texts) l.blocks));
  fits : l.sum < 2 ^ 64;
}
