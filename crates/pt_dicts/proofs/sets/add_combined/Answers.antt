use Rattle.std.proofs.Common.{◌++◌, ◌∙◌, ap, sym, subst}
use Rattle.pt_dicts.specs.Adding.{Adds}
use Rattle.pt_dicts.specs.Combine.{combined, difference, limited}
use Rattle.pt_dicts.proofs.SetLemmas.{chosen-all}
use Rattle.pt_dicts.proofs.sets.add_combined.Goals as goal

pub returns-in-BitOr : goal.returns-in-BitOr
returns-in-BitOr c =
    let all = ap (λ l. l ++ difference c.args.b.now c.args.a.now) (chosen-all c.args.b.now c.args.a.now) in
    let same = all ∙ ap (λ op. combined op c.args.a.now c.args.b.now) (sym c.in-BitOr.is) in
    subst (λ l. Adds c.add_both.new.to c.add_both.result (limited l)) same c.add_both.ensures
