use Rattle.std.proofs.Common.{◌≡◌, drop, map}
use Rattle.pt_bind.specs.NameSets.{is_among}
use Rattle.pt_builtins.proofs.is_listed.Given as goal

abbrev pub invariant-loop-listed : goal.invariant-loop-listed
invariant-loop-listed l = is_among (map (λ n. n.now) l.names) l.name ≡ is_among (map (λ n. n.now) (drop l.listed-index l.names)) l.name
