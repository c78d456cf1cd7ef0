use Rattle.std.proofs.Common.{◌∙◌, ◌+◌, Option, ap, drop, sym}
use Rattle.sem_control.specs.control.Bases.{or_else}
use Rattle.pt_heap.specs.declared.value.Value.{Value}
use Rattle.pt_openers.specs.Openers.{active_in}
use Rattle.pt_openers.proofs.Newest.{active-next}
use Rattle.pt_openers.proofs.openers.Openers.active.Goals as goal

pub returns-in-Some : goal.returns-in-Some
returns-in-Some g c =
    let at = c.loop-newer.newer in
    sym (
    c.loop-newer.invariant
    ∙ active-next g.P.Waits.exception c.args.self.now at c.at.result.now c.at.ensures
    ∙ ap (λ (o : Option Value). or_else o (active_in g.P.Waits.exception (drop (at + 1) c.args.self.now))) (sym c.active.ensures ∙ c.in-Some.is))

pub loop-newer-preserved : goal.loop-newer-preserved
loop-newer-preserved g c =
    let at = c.loop-newer.newer in
    c.loop-newer.invariant
    ∙ active-next g.P.Waits.exception c.args.self.now at c.at.result.now c.at.ensures
    ∙ ap (λ (o : Option Value). or_else o (active_in g.P.Waits.exception (drop (at + 1) c.args.self.now))) (sym c.active.ensures ∙ c.in_default.is)
