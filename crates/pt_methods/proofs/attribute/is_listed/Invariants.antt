use Rattle.std.proofs.Common.{◌≡◌, map, drop}
use Rattle.pt_content.specs.pt_attrs.Unbuilt.{is_listed}
use Rattle.pt_methods.proofs.attribute.is_listed.Given as goal

abbrev pub invariant-loop-listed : goal.invariant-loop-listed
invariant-loop-listed l = is_listed l.name (map (λ n. n.now) (drop l.listed-index l.names)) ≡ is_listed l.name (map (λ n. n.now) l.names)
