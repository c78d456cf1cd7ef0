use Rattle.std.proofs.Common.{◌∙◌, ◌+◌, Option, ap, drop, sym}
use Rattle.std.specs.Option.{option_or}
use Rattle.pt_heap.specs.declared.value.Value.{Value}
use Rattle.pt_frames.specs.Slots.{active_in, busy_with}
use Rattle.pt_frames.proofs.SlotLemmas.{given-next}
use Rattle.pt_frames.proofs.slot.Slots.active.Goals as goal

pub returns-in-Some : goal.returns-in-Some
returns-in-Some c =
    let at = c.loop-above.above in
    sym (
    c.loop-above.invariant
    ∙ given-next busy_with c.args.self.now at c.at.result c.at.ensures
    ∙ ap (λ (o : Option Value). option_or o (active_in (drop (at + 1) c.args.self.now))) (sym c.busy_with.ensures ∙ c.in-Some.is))

pub loop-above-preserved : goal.loop-above-preserved
loop-above-preserved c =
    let at = c.loop-above.above in
    c.loop-above.invariant
    ∙ given-next busy_with c.args.self.now at c.at.result c.at.ensures
    ∙ ap (λ (o : Option Value). option_or o (active_in (drop (at + 1) c.args.self.now))) (sym c.busy_with.ensures ∙ c.in_default.is)
