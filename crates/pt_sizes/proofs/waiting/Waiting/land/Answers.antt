use Rattle.std.proofs.Common.{◌≡◌, ◌+◌, ◌/◌, ◌<◌, ◌≤◌, length, map, sym, ◌∙◌, ap, subst, arith, [], get_or}
use Rattle.std.proofs.lemmas.List.{map-set, get_or-map, with_items_is}
use Rattle.pt_sizes.specs.Search.{SearchLanding}
use Rattle.pt_sizes.specs.Waiting.{Descends, LevelLanding, LevelsLandingSoFar, level_of, levels_of, stretch_of, up}
use Rattle.pt_sizes.proofs.Landings.{all_more, all_end, in_map, out_map, same_long, up_next}
use Rattle.pt_sizes.proofs.waiting.Waiting.land.Goals as goal

pub land_on-requires : goal.land_on-requires
land_on-requires c = λ v. subst (λ x. Descends (stretch_of x v))
    (get_or-map level_of c.loop-level.level-items c.loop-level.level-index c.level-item.result [] (omega (arith, c.loop-level-test.true)))
    (c.loop-level.invariant.1.sorted c.loop-level.level-index v)

pub loop-level-preserved : goal.loop-level-preserved
loop-level-preserved c =
    let lt : c.loop-level.level-index < length c.loop-level.level-items = omega (arith, c.loop-level-test.true) in
    let e = get_or-map level_of c.loop-level.level-items c.loop-level.level-index c.level-item.result [] lt in
    let inv = c.loop-level.invariant in
    let o = subst (λ n. LevelLanding (level_of (get_or c.loop-level.level-items c.loop-level.level-index c.level-item.result)) (level_of c.land_on.new.level) n c.args.below
    c.loop-level.work.items c.land_on.new.work.items) inv.0 c.in_ok-land_on.ensures in
    let o' = subst (λ x. LevelLanding x (level_of c.land_on.new.level) (up c.loop-level.level-index c.args.at) c.args.below c.loop-level.work.items c.land_on.new.work.items) (sym e) o in (
      ap (λ n. n / 2) inv.0 ∙ sym (up_next c.loop-level.level-index c.args.at),
      subst (λ x. LevelsLandingSoFar (map level_of c.deref_mut-level-items.result.now) x (c.loop-level.level-index + 1) c.args.at c.args.below c.args.work.now.items c.land_on.new.work.items)
          (sym (map-set level_of c.loop-level.level-items c.loop-level.level-index c.land_on.new.level))
          (all_more (map level_of c.deref_mut-level-items.result.now) c.args.at c.args.below c.args.work.now.items (map level_of c.loop-level.level-items) c.loop-level.level-index
          c.loop-level.work.items inv.1 (level_of c.land_on.new.level) c.land_on.new.work.items (in_map level_of c.loop-level.level-items c.loop-level.level-index lt) o'),
    )

pub returns : goal.returns
returns c =
    let le : length c.loop-level.level-items ≤ c.loop-level.level-index = omega (arith, c.loop-level-test.false) in
    let inv = c.loop-level.invariant.1 in
    let long : length c.loop-level.level-items ≡ length c.deref_mut-level-items.result.now = same_long level_of c.loop-level.level-items c.deref_mut-level-items.result.now inv.long in
    let all = subst (λ x. SearchLanding (map level_of x) (map level_of c.loop-level.level-items) c.args.at c.args.below c.args.work.now.items c.loop-level.work.items)
    c.deref_mut-level-items.ensures.value
    (all_end (map level_of c.deref_mut-level-items.result.now) c.args.at c.args.below c.args.work.now.items (map level_of c.loop-level.level-items) c.loop-level.level-index
    c.loop-level.work.items inv (out_map level_of c.loop-level.level-items c.loop-level.level-index le)) in
    subst (λ x. SearchLanding (levels_of c.args.self.now.levels) (map level_of x) c.args.at c.args.below c.args.work.now.items c.loop-level.work.items)
    (sym (with_items_is c.args.self.now.levels c.loop-level.level-items (omega (arith, long, c.deref_mut-level-items.ensures.len)))) all
