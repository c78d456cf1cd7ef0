use Rattle.std.proofs.Common.{◌∙◌, sym, subst}
use Rattle.pt_kinds.specs.Forest.{IsForest, IsInside}
use Rattle.pt_place_slots.proofs.tables.BlockSlots.kinds_at.Goals as goal

pub returns-in-Some-clause-sound : goal.returns-in-Some-clause-sound
returns-in-Some-clause-sound c =
    let s = c.args.self.now in
    let listed = c.requires.listed c.args.pc.0 c.in-Some.listed (sym c.at.ensures ∙ c.in-Some.is) in
    record {
      forest = subst IsForest (sym c.new.ensures.forest) c.requires.kinds;
      inside = subst (λ f. IsInside f c.new.result.list) (sym c.new.ensures.forest)
          (subst (λ n. IsInside s.forest n) (sym c.new.ensures.list) listed.inside);
    }
