use Rattle.std.proofs.Common.{◌≡◌, ◌∙◌, ◌∷◌, rules, to_z, of_z, ap}
use Rattle.std.specs.Int.{w128}
use Rattle.std.specs.Prelude.{drop}
use Rattle.pt_frames.specs.declared.slot.Slot.TheVariants as slot
use Rattle.pt_heap.specs.declared.value.Value.TheVariants as value
use Rattle.pt_fast_rows.proofs.IntegerLemmas.{operated}
use Rattle.pt_fast_rows.proofs.integers.fast_binary.Goals as goal

pub returns : goal.returns
returns c =
    let back : to_z w128 (of_z w128 c.in-Value.number) ≡ c.in-Value.number = search rules in
    operated c.in-Some.pair c.args.next c.args.slots.now c.replace_two.new.slots c.in-Some.ensures c.args.op c.in-Value.number (search rules)
    (c.in_ok-replace_two.ensures ∙ ap (λ z. slot.Value (value.Int z) ∷ drop 2 c.args.slots.now) back)
