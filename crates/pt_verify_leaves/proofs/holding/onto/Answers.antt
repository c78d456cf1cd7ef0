use Rattle.std.proofs.Common.{◌≡◌, ◌∙◌, Some, sym, subst}
use Rattle.std.specs.Prelude.{option_map}
use Rattle.pt_sizes.specs.Flow.{entry}
use Rattle.pt_verify_leaves.proofs.Parts.{end_onto}
use Rattle.pt_verify_leaves.proofs.holding.onto.Goals as goal

pub returns-in-EndFinally : goal.returns-in-EndFinally
returns-in-EndFinally c = λ rows k.
    let places = c.args.places.now in
    let here : entry places c.args.pc.0 ≡ Some c.in-Some.place.now = sym (subst (λ o. option_map (λ p. p.now) o ≡ entry places c.args.pc.0) c.in-Some.is c.at.ensures) in
    c.taken_into.ensures rows k.count k.tells (k.below c.args.pc.0 c.in-Some.place.now here)
    ∙ sym (end_onto rows c.args.classes.now c.args.target.0 c.args.pc.0 c.in-Some.place.now here c.in-EndFinally.is)
