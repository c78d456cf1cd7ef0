use Rattle.std.proofs.Common.{sym, subst, arith}
use Rattle.std.proofs.lemmas.List.{map-set}
use Rattle.pt_sizes.specs.Waiting.{Descends, LevelLanding, StretchLanding, level_of}
use Rattle.pt_sizes.proofs.Landings.{on_set, read_items, in_level}
use Rattle.pt_sizes.proofs.waiting.land_on.Goals as goal

pub land_some-requires : goal.land_some-requires
land_some-requires c =
    subst Descends (read_items c.args.level.now c.args.node c.index_mut.result.now (omega arith) c.index_mut.ensures.value) (c.requires c.args.node)

pub returns-in_ok-land_some : goal.returns-in_ok-land_some
returns-in_ok-land_some c =
    let e = read_items c.args.level.now c.args.node c.index_mut.result.now (omega arith) c.index_mut.ensures.value in
    let l = subst (λ x. StretchLanding x c.land_some.new.rows.items c.args.below c.args.work.now.items c.land_some.new.work.items) (sym e) c.in_ok-land_some.ensures in
    subst (λ x. LevelLanding (level_of c.args.level.now) x c.args.node c.args.below c.args.work.now.items c.land_some.new.work.items)
    (sym (map-set (λ rows. rows.items) c.args.level.now.items c.args.node c.land_some.new.rows))
    (on_set (level_of c.args.level.now) c.args.node c.args.below c.args.work.now.items c.requires c.land_some.new.rows.items c.land_some.new.work.items
    (in_level c.args.level.now c.args.node (omega arith)) l)
