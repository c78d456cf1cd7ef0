use Rattle.std.proofs.Common.{◌∙◌, sym, ap}
use Rattle.pt_verify_leaves.specs.Onto.{made_by}
use Rattle.pt_verify_leaves.proofs.listing.taken_into.Goals as goal

pub returns-in-None : goal.returns-in-None
returns-in-None c = λ rows count t lt.
    sym (ap (λ o. made_by c.args.classes.now o) (sym (c.first.ensures rows count t lt) ∙ c.in-None.is))

pub returns-in-Some : goal.returns-in-Some
returns-in-Some c = λ rows count t lt.
    c.class_at.ensures ∙ sym (ap (λ o. made_by c.args.classes.now o) (sym (c.first.ensures rows count t lt) ∙ c.in-Some.is))
