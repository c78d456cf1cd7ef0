-- The first of the faults of several parts.
use Rattle.std.proofs.Common.{◌≡◌, ◌∙◌, ap, sym, List, [], ◌∷◌, ◌++◌, Option, None, refl}
use Rattle.std.specs.Option.{option_or}
use Rattle.pt_refine_expr.specs.Faults.{Fault}
use Rattle.pt_refine_expr.specs.First.{first_of}

pub first-both : (a b : List Fault) → first_of (a ++ b) ≡ option_or (first_of a) (first_of b)
first-both [] b = refl
first-both (f ∷ a) b = refl

pub first-then : (o : Option Fault) (a b : List Fault) → o ≡ first_of a → first_of (a ++ b) ≡ option_or o (first_of b)
first-then o a b is = first-both a b ∙ ap (λ p. option_or p (first_of b)) (sym is)

pub first-behind : (o : Option Fault) (a b : List Fault) → None ≡ first_of a → o ≡ first_of b → o ≡ first_of (a ++ b)
first-behind o a b none is = is ∙ sym (first-then None a b none)

pub ruleset stops = (first-both)
