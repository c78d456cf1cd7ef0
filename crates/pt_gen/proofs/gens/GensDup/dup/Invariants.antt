use Rattle.std.proofs.Common.{◌≡◌, take}
use Rattle.pt_gen.proofs.gens.GensDup.dup.Given as goal

abbrev pub invariant-loop-generator : goal.invariant-loop-generator
invariant-loop-generator g l = l.generators.items ≡ take l.generator-index l.generator-items
