use Rattle.std.proofs.Common.{◌≡◌, ◌||◌, nat_lt, ◌-◌, sym, ap, ◌∙◌, subst}
use Rattle.pt_sizes.specs.Waiting.{IsDeepest, levels_of}
use Rattle.pt_sizes.specs.Search.{SearchLanding, SearchExpansion, body_of}
use Rattle.pt_sizes.proofs.Going.{went_on, or_same}
use Rattle.pt_sizes.proofs.flow.Search.go_on.Goals as goal

pub returns : goal.returns
returns c =
    let s = c.args.self.now in
    let b = body_of c.args.asked.now.places.items c.args.asked.now.rows.items c.args.asked.now.first in
    let below : c.saturating_sub-below.result ≡ c.args.size - c.args.place.takes = c.saturating_sub-below.ensures in
    let deep = c.index.result.now in
    let all = subst (λ x. SearchLanding (levels_of s.waiting.levels) (levels_of c.land.new.self.levels) c.args.at x c.add_own.new.work.items c.land.new.work.items) below c.in_ok-land.ensures in
    let is = subst (λ x. IsDeepest c.args.asked.now.rows.items c.args.at x)
    (or_same c.args.asked.now.deepest.items c.args.at 0 deep c.requires.inside ∙ sym c.index.ensures) (c.requires.deepest c.args.at c.requires.inside) in
    let w = went_on b c.args.at c.args.size c.args.place s.table.items s.work.items c.add_own.new.work.items c.land.new.work.items (levels_of s.waiting.levels)
    (levels_of c.land.new.self.levels) s.deep s.few deep c.in_ok-add_own.ensures all is in
    let d = c.or_less-self.ensures ∙ ap (λ x. s.deep || nat_lt x deep) below in
    subst (λ x. SearchExpansion b c.args.at c.args.size c.args.place s.table.items s.table.items s.work.items c.land.new.work.items (levels_of s.waiting.levels)
    (levels_of c.land.new.self.levels) s.deep x s.few c.or_less-self-2.result) (sym d)
    (subst (λ y. SearchExpansion b c.args.at c.args.size c.args.place s.table.items s.table.items s.work.items c.land.new.work.items (levels_of s.waiting.levels)
    (levels_of c.land.new.self.levels) s.deep (s.deep || nat_lt (c.args.size - c.args.place.takes) deep) s.few y) (sym c.or_less-self-2.ensures) w)
