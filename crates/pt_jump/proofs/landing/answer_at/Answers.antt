use Rattle.std.proofs.Common.{◌∙◌, max, ap}
use Rattle.std.specs.Option.{unwrap_or}
use Rattle.pt_jump.specs.Slots.{SlotsTold}
use Rattle.pt_jump.proofs.Targeting.{answers_through, answers_enters, answers_goes}
use Rattle.pt_jump.proofs.landing.answer_at.Goals as goal

pub returns-then-is_apart : goal.returns-then-is_apart
returns-then-is_apart g c = λ b tells.
    let t : SlotsTold = g.S.PlaceSlots.told c.args.slots.now in
    answers_through b t c.args.from.0 c.args.to.0 c.max.result
    (c.max.ensures ∙ (ap (λ x. max x c.held-2.result) c.held.ensures ∙ ap (λ y. max (t.held c.args.from.0) y) c.held-2.ensures))
    c.is_apart.result (c.is_apart.ensures b tells) c.if-is_apart.true

pub returns-then-is_apart-2 : goal.returns-then-is_apart-2
returns-then-is_apart-2 g c = λ b tells.
    let t : SlotsTold = g.S.PlaceSlots.told c.args.slots.now in
    answers_enters b t c.args.from.0 c.args.to.0 c.max.result
    (c.max.ensures ∙ (ap (λ x. max x c.held-2.result) c.held.ensures ∙ ap (λ y. max (t.held c.args.from.0) y) c.held-2.ensures))
    c.is_apart.result (c.is_apart.ensures b tells) c.unwrap_or-depth.result
    (c.unwrap_or-depth.ensures ∙ ap (λ o. unwrap_or o 0) c.count.ensures)
    c.is_apart-else-is_apart.result (c.is_apart-else-is_apart.ensures b tells) c.if-is_apart.false c.if-is_apart-2.true

pub returns-else-is_apart-2 : goal.returns-else-is_apart-2
returns-else-is_apart-2 g c = λ b tells.
    let t : SlotsTold = g.S.PlaceSlots.told c.args.slots.now in
    answers_goes b t c.args.from.0 c.args.to.0 c.max.result
    (c.max.ensures ∙ (ap (λ x. max x c.held-2.result) c.held.ensures ∙ ap (λ y. max (t.held c.args.from.0) y) c.held-2.ensures))
    c.is_apart.result (c.is_apart.ensures b tells) c.unwrap_or-depth.result
    (c.unwrap_or-depth.ensures ∙ ap (λ o. unwrap_or o 0) c.count.ensures)
    c.is_apart-else-is_apart.result (c.is_apart-else-is_apart.ensures b tells) c.if-is_apart.false c.if-is_apart-2.false
