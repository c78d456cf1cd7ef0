use Rattle.std.proofs.Common.{◌≡◌, ◌∙◌, ◌++◌, Some, sym, ap}
use Rattle.std.specs.Prelude.{option_map}
use Rattle.std.proofs.lemmas.Result.{IfOk-weaker}
use Rattle.pt_verify_leaves.specs.Onto.{with_number}
use Rattle.pt_verify_leaves.proofs.Parts.{leave_seed}
use Rattle.pt_verify_leaves.proofs.listing.add_seed.Goals as goal

pub returns : goal.returns
returns c = IfOk-weaker c.add.result _ _ (λ u pushed rows k.
    let here : option_map (λ p. p.now) c.args.place ≡ Some c.in-Some.place.now = ap (λ o. option_map (λ p. p.now) o) c.in-Some.is in
    pushed ∙ ap (λ zs. c.args.seeds.now.items ++ zs)
    (ap (λ o. with_number c.in-Leave.target.0 o) (c.taken_into.ensures rows k.count k.tells (k.below c.in-Some.place.now here))
    ∙ sym (leave_seed rows c.args.classes.now c.args.pc.0 c.in-Some.place.now c.in-Some-size.field-0 c.in-Leave.target here c.in-Some-size.is c.in-Leave.is))) c.add.ensures
