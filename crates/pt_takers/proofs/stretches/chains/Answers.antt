use Rattle.std.proofs.Common.{◌∙◌, ◌∷◌, [], ap, map, subst, sym}
use Rattle.std.proofs.lemmas.List.{map-append}
use Rattle.pt_sizes.specs.Waiting.{level_of, levels_of}
use Rattle.pt_takers.specs.Stretches.{AreChains, AreChainsOfLevel, no_level}
use Rattle.pt_takers.proofs.StretchLemmas.{level_more}
use Rattle.pt_takers.proofs.stretches.chains.Goals as goal

pub loop-level-init : goal.loop-level-init
loop-level-init c = subst (AreChains c.args.side []) (sym (ap (map level_of) c.new-chains.ensures.items)) no_level

pub loop-level-preserved : goal.loop-level-preserved
loop-level-preserved c = level_more c.args.side c.args.levels.now c.loop-level.level-index c.level-item.result c.loop-level-test.true c.level-item.is
    (levels_of c.loop-level.chains) (levels_of c.push.new.self) (level_of c.in_ok-chains_of_level.field-0) c.loop-level.invariant
    (subst (λ level. AreChainsOfLevel c.args.side (map (λ rows. rows.items) level) (level_of c.in_ok-chains_of_level.field-0)) c.deref.ensures.value c.in_ok-chains_of_level.ensures)
    (ap (map level_of) c.in_ok-push.ensures.items ∙ map-append level_of c.loop-level.chains.items (c.in_ok-chains_of_level.field-0 ∷ []))
