use Rattle.std.proofs.Common.{◌≡◌, drop}
use Rattle.std.specs.List.{list_any}
use Rattle.pt_compile.specs.PartialCode.{gives_value}
use Rattle.pt_compile.proofs.heading.give_values.Given as goal

abbrev pub invariant-loop-number : goal.invariant-loop-number
invariant-loop-number l = list_any (λ r. gives_value r.kind) (drop l.number l.acts) ≡ list_any (λ r. gives_value r.kind) l.acts
