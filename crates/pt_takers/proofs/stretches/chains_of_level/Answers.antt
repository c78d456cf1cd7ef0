use Rattle.std.proofs.Common.{◌∙◌, ◌∷◌, [], ap, map, subst, sym}
use Rattle.std.proofs.lemmas.List.{map-append}
use Rattle.pt_sizes.specs.Waiting.{level_of}
use Rattle.pt_takers.specs.Chains.{IsChain}
use Rattle.pt_takers.specs.Stretches.{AreChainsOfLevel, no_stretch}
use Rattle.pt_takers.proofs.StretchLemmas.{stretch_more}
use Rattle.pt_takers.proofs.stretches.chains_of_level.Goals as goal

pub loop-rows-init : goal.loop-rows-init
loop-rows-init c = subst (AreChainsOfLevel c.args.side []) (sym (ap (map (λ rows. rows.items)) c.new-chains.ensures.items)) no_stretch

pub loop-rows-preserved : goal.loop-rows-preserved
loop-rows-preserved c = stretch_more c.args.side c.args.level.now c.loop-rows.rows-index c.rows-item.result c.loop-rows-test.true c.rows-item.is
    (level_of c.loop-rows.chains) (level_of c.push.new.self) c.in_ok-chain.field-0.items c.loop-rows.invariant
    (subst (λ rows. IsChain c.args.side rows c.in_ok-chain.field-0.items) c.deref.ensures.value c.in_ok-chain.ensures)
    (ap (map (λ rows. rows.items)) c.in_ok-push.ensures.items ∙ map-append (λ rows. rows.items) c.loop-rows.chains.items (c.in_ok-chain.field-0 ∷ []))
