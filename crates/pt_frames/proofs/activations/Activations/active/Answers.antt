use Rattle.std.proofs.Common.{◌∙◌, ◌+◌, Option, ap, drop, sym}
use Rattle.std.specs.Option.{option_or}
use Rattle.pt_heap.specs.declared.value.Value.{Value}
use Rattle.pt_frames.specs.Activations.{active_exception}
use Rattle.pt_frames.specs.Slots.{active_in}
use Rattle.pt_frames.specs.declared.activations.OpenActivation.{OpenActivation}
use Rattle.pt_frames.proofs.SlotLemmas.{given-next}
use Rattle.pt_frames.proofs.activations.Activations.active.Goals as goal

pub returns-in-Some : goal.returns-in-Some
returns-in-Some c =
    let at = c.loop-newer.newer in
    sym (
    c.loop-newer.invariant
    ∙ given-next (λ (o : OpenActivation). active_in o.activation.slots) c.args.self.now at c.at.result.now c.at.ensures
    ∙ ap (λ (o : Option Value). option_or o (active_exception (drop (at + 1) c.args.self.now))) (sym c.active.ensures ∙ c.in-Some.is))

pub loop-newer-preserved : goal.loop-newer-preserved
loop-newer-preserved c =
    let at = c.loop-newer.newer in
    c.loop-newer.invariant
    ∙ given-next (λ (o : OpenActivation). active_in o.activation.slots) c.args.self.now at c.at.result.now c.at.ensures
    ∙ ap (λ (o : Option Value). option_or o (active_exception (drop (at + 1) c.args.self.now))) (sym c.active.ensures ∙ c.in_default.is)
