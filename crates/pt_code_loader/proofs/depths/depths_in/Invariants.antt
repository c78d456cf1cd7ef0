use Rattle.std.proofs.Common.{◌≡◌, map, take}
use Rattle.std.specs.Option.{unwrap_or}
use Rattle.pt_code_loader.proofs.depths.depths_in.Given as goal

abbrev pub invariant-loop-size : goal.invariant-loop-size
invariant-loop-size l = l.depths ≡ map (λ s. unwrap_or s 0) (take l.size-index l.sizes)
