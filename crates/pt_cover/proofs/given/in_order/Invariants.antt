use Rattle.std.proofs.Common.{◌≡◌, drop, map, fold}
use Rattle.std.specs.BTreeSet.{insert_key}
use Rattle.std.specs.Ordering.{nat_cmp}
use Rattle.pt_cover.specs.Given.{rising}
use Rattle.pt_cover.proofs.given.in_order.Given as goal

abbrev pub invariant-loop-line : goal.invariant-loop-line
invariant-loop-line l = fold (insert_key nat_cmp) l.found.keys (map (λ n. n.0) (drop l.line-index l.lines)) ≡ rising l.lines
