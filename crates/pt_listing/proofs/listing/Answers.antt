use Rattle.std.proofs.Common.{◌≡◌, ◌+◌, ◌++◌, List, drop, length, refl, ◌≤◌, subst, sym, ap}
use Rattle.std.proofs.Math.ListN.{drop_of_length-le}
use Rattle.std.specs.Prelude.{string_bytes}
use Rattle.std.specs.List.{AllByRecursion}
use Rattle.pt_instr.specs.declared.Instr.{Instr}
use Rattle.pt_listing.specs.Listing.{block_lines, CanBeListed, IsSpelled}
use Rattle.pt_listing.proofs.Blocks.{Listed, all_can, all_listed, next_block, none_listed, one_listed}
use Rattle.pt_listing.proofs.listing.Goals as goal

pub loop-block-init : goal.loop-block-init
loop-block-init c = record {
  can = all_can c.args.code.now c.requires.file c.requires.rise;
  listed = subst (Listed c.args.code.now.texts c.args.code.now.blocks 0 c.args.code.now.blocks) (sym c.new-text.ensures.bytes)
      (none_listed c.args.code.now.texts c.args.code.now.blocks);
  number = refl;
}

pub loop-block-preserved : goal.loop-block-preserved
loop-block-preserved c =
    let texts = c.args.code.now.texts in
    let all = c.args.code.now.blocks in
    let left = drop (c.loop-block.block-index + 1) all in
    let lines = string_bytes c.loop-block.text in
    let split = next_block c.as_slice-block-items.result.now all c.loop-block.block-index c.block-item.result
    c.as_slice-block-items.ensures c.loop-block-test.true c.block-item.is in
    let can = subst (AllByRecursion (CanBeListed texts)) split c.loop-block.invariant.can in
    let listed = subst (λ bs. Listed texts all c.loop-block.number bs lines) split c.loop-block.invariant.listed in
    let pushed : (is : List Instr) → IsSpelled c.block-item.result is → string_bytes c.push_block.new.text ≡ lines
    ++ block_lines texts c.loop-block.number c.block-item.result is =
    subst (λ ts. (is : List Instr) → IsSpelled c.block-item.result is → string_bytes c.push_block.new.text ≡ lines
    ++ block_lines ts c.loop-block.number c.block-item.result is) c.as_slice-texts.ensures c.in_ok-push_block.ensures in
    record {
      can = can.1;
      listed = one_listed texts all c.loop-block.number c.block-item.result left lines (string_bytes c.push_block.new.text) can.0 pushed listed;
      number = ap (λ n. n + 1) c.loop-block.invariant.number;
    }

pub returns : goal.returns
returns c = all_listed c.args.code.now.texts c.args.code.now.blocks c.loop-block.number (string_bytes c.loop-block.text)
    (subst (λ left. Listed c.args.code.now.texts c.args.code.now.blocks c.loop-block.number left (string_bytes c.loop-block.text))
    (drop_of_length-le c.args.code.now.blocks
    (subst (λ bs. length bs ≤ c.loop-block.block-index) c.as_slice-block-items.ensures c.loop-block-test.false))
    c.loop-block.invariant.listed)
