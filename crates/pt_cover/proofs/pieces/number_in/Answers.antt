use Rattle.std.proofs.Common.{rules, ◌≡◌, ◌==◌, true, false, slice_index}
use Rattle.pt_cover.proofs.NumberLemmas.{plus_is_none, number_is}
use Rattle.pt_cover.proofs.pieces.number_in.Goals as goal

pub returns-then-starts_with : goal.returns-then-starts_with
returns-then-starts_with c = let plus : (slice_index c.args.text.now 0 == 43) ≡ true = search rules in plus_is_none c.args.text.now plus

pub returns : goal.returns
returns c =
    let plain : (slice_index c.args.text.now 0 == 43) ≡ false = search rules in
    number_is c.args.text.now c.parse.result c.ok.result plain c.parse.ensures.value.0 c.ok.ensures.value
