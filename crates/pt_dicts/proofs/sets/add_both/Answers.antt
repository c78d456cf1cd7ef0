use Rattle.std.proofs.Common.{◌≡◌, ◌++◌, ◌∙◌, ap, sym, subst}
use Rattle.pt_dicts.specs.Adding.{chosen, AreNew}
use Rattle.pt_dicts.specs.Combine.{difference}
use Rattle.pt_dicts.proofs.SetLemmas.{limited-within, new-difference}
use Rattle.pt_dicts.proofs.sets.add_both.Goals as goal

pub add_chosen-requires-2-clause-new : goal.add_chosen-requires-2-clause-new
add_chosen-requires-2-clause-new c =
    let first = chosen c.args.choice c.args.b.now c.args.a.now in
    let fact = limited-within _ c.add_chosen.new.to c.in_ok-add_chosen.ensures in
    let all : c.add_chosen.new.to ≡ first = fact.0 ∙ ap (λ l. l ++ first) c.requires in
    subst (λ l. AreNew l (difference c.args.b.now c.args.a.now)) (sym all) (new-difference c.args.choice c.args.b.now c.args.a.now c.args.b.now)
