use Rattle.std.proofs.Common.{◌≡◌, ◌∙◌, None, Some, option_map, ap, subst, sym}
use Rattle.pt_jump.specs.Slots.{SlotsTold}
use Rattle.pt_jump.specs.Targets.{answer_of, first_on}
use Rattle.pt_jump.proofs.Targeting.{nowhere, somewhere}
use Rattle.pt_jump.proofs.landing.target.Goals as goal

pub returns-in-None : goal.returns-in-None
returns-in-None g c = λ b tells told same ks got.
    let t : SlotsTold = g.S.PlaceSlots.told c.args.slots.now in
    nowhere b t told c.args.from.0 ks got c.args.line.0
    (subst (λ ss. first_on t c.args.line.0 None ss ≡ None) (sym same)
    (sym c.first_start.ensures ∙ ap (option_map (λ p. p.0)) c.in-None.is))

pub returns-in-Some : goal.returns-in-Some
returns-in-Some g c = λ b tells told same ks got.
    let t : SlotsTold = g.S.PlaceSlots.told c.args.slots.now in
    somewhere b t told c.args.from.0 ks got c.args.line.0 c.in-Some.to.0
    (subst (λ ss. first_on t c.args.line.0 None ss ≡ Some c.in-Some.to.0) (sym same)
    (sym c.first_start.ensures ∙ ap (option_map (λ p. p.0)) c.in-Some.is))
    (answer_of c.answer_at.result) (c.answer_at.ensures b tells)
