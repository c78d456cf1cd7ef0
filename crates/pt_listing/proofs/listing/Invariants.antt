use Rattle.std.proofs.Common.{◌≡◌, string_bytes, drop}
use Rattle.std.specs.List.{AllByRecursion}
use Rattle.pt_listing.specs.Listing.{CanBeListed}
use Rattle.pt_listing.proofs.Blocks.{Listed}
use Rattle.pt_listing.proofs.listing.Given as goal

abbrev pub invariant-loop-block : goal.invariant-loop-block
invariant-loop-block l = record {
  can : AllByRecursion (CanBeListed l.code.texts) (drop l.block-index l.code.blocks);
  listed : Listed l.code.texts l.code.blocks l.number (drop l.block-index l.code.blocks) (string_bytes l.text);
  number : l.number ≡ l.block-index;
}
