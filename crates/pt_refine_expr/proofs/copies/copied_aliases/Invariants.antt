use Rattle.std.proofs.Common.{◌≡◌, take}
use Rattle.pt_refine_expr.proofs.copies.copied_aliases.Given as goal

abbrev pub invariant-loop-alias : goal.invariant-loop-alias
invariant-loop-alias l = l.copy ≡ take l.alias-index l.aliases
