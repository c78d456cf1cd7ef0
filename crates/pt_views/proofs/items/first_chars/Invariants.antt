use Rattle.std.proofs.Common.{◌≡◌, ◌-◌, ◌++◌, map, take}
use Rattle.std.specs.Str.{chars}
use Rattle.pt_views.specs.declared.items.Item.TheVariants.{Char}
use Rattle.pt_views.proofs.items.first_chars.Given as goal

abbrev pub invariant-loop-taken : goal.invariant-loop-taken
invariant-loop-taken l = l.items ++ map (λ c. Char c) (take (l.most - l._taken) l.left) ≡ map (λ c. Char c) (take l.most (chars l.text))
