use Rattle.std.proofs.Common.{◌≡◌, ◌∙◌, [], inl, inr, ap, sym}
use Rattle.pt_reprs.specs.Reached.{parts_of}
use Rattle.pt_reprs.proofs.ReachLemmas.{instance-needs, plain-value}
use Rattle.pt_reprs.proofs.reached.needs_help.Goals as goal

pub returns-then-is_instance : goal.returns-then-is_instance
returns-then-is_instance c = sym (instance-needs c.args.heap.now c.args.value (sym c.is_instance.ensures ∙ c.if-is_instance.true))

pub returns-in-None : goal.returns-in-None
returns-in-None c =
    let h = c.args.heap.now in
    let none : parts_of h c.args.value ≡ [] =
    elim c.in-None.is [
      | inl e ↦ ap (parts_of h) e
      | inr q ↦ elim q [
        | inl e ↦ ap (parts_of h) e.1
        | inr r ↦ elim r [ inl e ↦ ap (parts_of h) e.1 | inr s ↦ elim s [ inl e ↦ ap (parts_of h) e | inr e ↦ ap (parts_of h) e ] ]
      ]
    ] in
    sym (plain-value h c.args.value (sym c.is_instance.ensures ∙ c.if-is_instance.false) none)
