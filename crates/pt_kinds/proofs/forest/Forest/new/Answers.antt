use Rattle.std.proofs.Common.{refl}
use Rattle.pt_kinds.proofs.WayLemmas.{root_forest}
use Rattle.pt_kinds.proofs.forest.Forest.new.Goals as goal

pub returns-clause-forest : goal.returns-clause-forest
returns-clause-forest c = root_forest c.in_ok-vec.field-0.items c.new.result _ c.in_ok-vec.ensures.items (record { parent = refl; count = refl; long = refl; shortcut = refl }) c.new.ensures
