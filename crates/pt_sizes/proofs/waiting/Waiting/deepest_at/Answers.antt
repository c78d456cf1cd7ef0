use Rattle.std.proofs.Common.{◌≡◌, ◌/◌, ◌<◌, length, sym, ap, ◌∙◌, subst, arith, map}
use Rattle.pt_sizes.specs.Waiting.{first_depth, stretch, stretch_of, level_of}
use Rattle.pt_sizes.proofs.Landings.{up_next}
use Rattle.pt_sizes.proofs.Adding.{deepest_max, depth_here}
use Rattle.pt_sizes.proofs.waiting.Waiting.deepest_at.Goals as goal

pub loop-level-preserved : goal.loop-level-preserved
loop-level-preserved c =
    let inv = c.loop-level.invariant in
    let items = c.deref-level-items.result.now in
    let lt : c.loop-level.level-index < length items = omega (arith, c.loop-level-test.true) in
    let d = c.first_depth.ensures ∙ ap (λ xs. first_depth (stretch_of (map (λ rows. rows.items) xs) c.loop-level.node)) c.deref.ensures.value in
    let e = depth_here items c.level-item.result c.loop-level.level-index c.loop-level.node c.first_depth.result lt c.level-item.is d in
    let f = subst (λ xs. c.first_depth.result ≡ first_depth (stretch (map level_of xs) c.loop-level.level-index c.loop-level.node)) c.deref-level-items.ensures.value e in (
      ap (λ n. n / 2) inv.0 ∙ sym (up_next c.loop-level.level-index c.args.at),
      deepest_max (map level_of c.args.self.now.levels.items) c.args.at c.loop-level.level-index c.loop-level.most c.max-most.result c.first_depth.result inv.1
          (subst (λ n. c.first_depth.result ≡ first_depth (stretch (map level_of c.args.self.now.levels.items) c.loop-level.level-index n)) inv.0 f) c.max-most.ensures,
    )
